use Rattle.std.proofs.Common.{refl}
use Rattle.read_command.proofs.PartLemmas.{beside_text, true_of_book}
use Rattle.read_command.proofs.ServesLemmas.{something}
use Rattle.read_command.proofs.reading.Exchanges.text.Goals as goal

pub returns-in-Ok-clause-truth : goal.returns-in-Ok-clause-truth
returns-in-Ok-clause-truth g c book reads tells =
    let client = c.fetch_used-fetched.new.client in
    let w = c.in-Ok.ensures.written tells in
    true_of_book _ book c.args.asked client w.0 _ _ reads.named (c.in_ok-world.ensures.reads book reads).agrees w.1 (c.in_ok-world.ensures.asks book reads) refl
    (beside_text c.args.asked w.0.tag w.0.outcome _ _ w.2)

pub returns-in-Err-clause-truth : goal.returns-in-Err-clause-truth
returns-in-Err-clause-truth g c book reads tells =
    let client = c.fetch_used-fetched.new.client in
    let w = c.in-Err.ensures.written tells in
    true_of_book _ book c.args.asked client w.0 _ _ reads.named (c.in_ok-world.ensures.reads book reads).agrees w.1 (c.in_ok-world.ensures.asks book reads) tt w.2

-- the report that stands is written
pub returns-in-Err-clause-reports : goal.returns-in-Err-clause-reports
returns-in-Err-clause-reports g c = λ once p serves lost within none.
    something c.args.asked _ once (c.in_ok-world.ensures.reports once p serves lost within) (c.in-Err.ensures.left none)
