use Rattle.range_cache.proofs.LawLemmas.{law_stored_stay}
use Rattle.range_cache.proofs.laws.law_stored_stay.Goals as goal

pub returns : goal.returns
returns c = law_stored_stay
