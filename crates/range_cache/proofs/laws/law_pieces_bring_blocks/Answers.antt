use Rattle.range_cache.proofs.LawLemmas.{only-brought, whole-brought, whole-few}
use Rattle.range_cache.proofs.laws.law_pieces_bring_blocks.Goals as goal

pub returns : goal.returns
returns c = record { brought = whole-brought; only = only-brought; few = whole-few }
