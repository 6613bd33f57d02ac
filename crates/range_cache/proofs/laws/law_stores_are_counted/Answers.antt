use Rattle.range_cache.proofs.LawLemmas.{stores-few, stores-some}
use Rattle.range_cache.proofs.laws.law_stores_are_counted.Goals as goal

pub returns : goal.returns
returns c = record { few = stores-few; some = stores-some }
