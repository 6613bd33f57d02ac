use Rattle.cog_reader.proofs.AheadLemmas.{at_one_range}
use Rattle.cog_reader.proofs.laws.law_looks_at_one_range.Goals as goal

pub returns : goal.returns
returns c = at_one_range
