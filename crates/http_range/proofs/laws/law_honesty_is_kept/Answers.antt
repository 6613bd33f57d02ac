use Rattle.http_range.proofs.HonestLemmas.{law_honesty_is_kept}
use Rattle.http_range.proofs.laws.law_honesty_is_kept.Goals as goal

pub returns : goal.returns
returns c = law_honesty_is_kept
