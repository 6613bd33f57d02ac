use Rattle.std.proofs.Common.{◌≡◌, ℕ, ◌<◌, None, subst}
use Rattle.cog_reader.specs.Going.{known_at}
use Rattle.cog_reader.specs.Reader.{ReaderState}
use Rattle.cog_reader.proofs.UpcomingLemmas.{known_few}
use Rattle.cog_reader.proofs.reader.Reader.few_are_known.Goals as goal

pub returns : goal.returns
returns c = subst (λ (r : ReaderState). (index : ℕ) → 65536 < index → known_at r index ≡ None) c.self.view_is (known_few _ c.self.invariant)
