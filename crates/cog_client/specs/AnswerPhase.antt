-- What a client keeps between two pieces of an answer.
use Rattle.std.specs.Prelude.{ℕ, List, [], ⊤}
use Rattle.http_range.specs.declared.reading.Why.{Why}
use Rattle.http_range.specs.declared.reading.Why.TheVariants.{Cut}
use Rattle.http_range.specs.Announced.{Announced}
use Rattle.cog_client.specs.declared.body.Body.{Body}
use Rattle.cog_client.specs.declared.case.Case.{Case}
use Rattle.cog_client.specs.declared.delivered.Ignored as why
use Rattle.cog_client.specs.declared.delivered.Ignored.TheVariants.{NotUsed}

-- It keeps the bytes of a head that isn't whole, or why what follows doesn't matter. Or it keeps the head, its case, how far the body
-- has come, and the room for the block that is cut.
pub data Feed : Type 0 where
  waits : List ℕ → Feed
  unused : Why → Feed
  passed : why.Ignored → Feed
  follows : Announced → Case → Body → List ℕ → Feed

-- no byte of an answer is kept
abbrev pub nothing_fed : Feed
nothing_fed = waits []

-- why an answer isn't used whose rest was dropped
abbrev pub cut_off : why.Ignored
cut_off = NotUsed Cut

-- what is still to come of the answer is passed over
abbrev pub rest_dropped : Feed
rest_dropped = passed cut_off

-- no body is taken
abbrev pub TakesNoBody : Feed → Type 0
TakesNoBody (waits bytes) = ⊤
TakesNoBody (unused why) = ⊤
TakesNoBody (passed why) = ⊤
TakesNoBody (follows head case body part) = ⊥
