use Rattle.range_cache.proofs.LawLemmas.{front_holds, stored_holds}
use Rattle.range_cache.proofs.laws.law_stored_are_held.Goals as goal

pub returns : goal.returns
returns c = record { all = stored_holds; front = front_holds }
