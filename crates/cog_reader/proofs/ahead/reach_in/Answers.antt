use Rattle.std.proofs.Common.{arith}
use Rattle.cog_reader.proofs.AheadLemmas.{touches_in}
use Rattle.cog_reader.proofs.ahead.reach_in.Goals as goal

pub returns-clause-gone : goal.returns-clause-gone
returns-clause-gone c = c.run_end.ensures.gone

pub returns-clause-touches : goal.returns-clause-touches
returns-clause-touches c = λ k low high.
    let end = c.run_end.ensures.within in
    touches_in c.args.range k (omega arith) (omega (arith, end))
