use Rattle.http_range.proofs.GrowLemmas.{law_heads_grow}
use Rattle.http_range.proofs.laws.law_heads_grow.Goals as goal

pub returns : goal.returns
returns c = law_heads_grow
