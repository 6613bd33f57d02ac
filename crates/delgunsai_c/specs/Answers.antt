-- What the end of an answer, and the answer to a check, do and return.
use Rattle.std.specs.Prelude.{◌≡◌, ◌⊎◌, ℕ, ℤ, pos, List}
use Rattle.cog_client.specs.declared.delivered.Current.{Current}
use Rattle.cog_client.specs.declared.delivered.Current.TheVariants.{Same}
use Rattle.cog_client.specs.declared.delivered.Delivered.{Delivered}
use Rattle.cog_client.specs.declared.delivered.Delivered.TheVariants.{Ignored}
use Rattle.cog_client.specs.Check.{IsCurrent, IsStillThere}
use Rattle.cog_client.specs.Client.{ClientState, feed_of, tag_of}
use Rattle.cog_client.specs.FedClient.{Fed}
use Rattle.cog_client.specs.AnswerPhase.{cut_off, nothing_fed, rest_dropped}
use Rattle.cog_client.specs.Keeps.{DeliversKeeping, StopsDelivery}
use Rattle.delgunsai_c.specs.declared.said.Said.{Said}
use Rattle.delgunsai_c.specs.Calls.{Stopped}
use Rattle.delgunsai_c.specs.Said.{said_of_current, said_of_delivered}

-- ---- end

-- The end of whatever answer this is. If the rest of the answer is dropped, the result is that it is cut, and nothing else changes.
pub record Ends (what : Delivered) (old new : ClientState) : Type 0 where
  pub delivers : (s : ClientState) (p : List ℕ) → Fed s p old → DeliversKeeping s p what new
  pub dropped : feed_of old ≡ rest_dropped → what ≡ Ignored cut_off
  pub kept : feed_of old ≡ rest_dropped → new ≡ record old { feed = nothing_fed }
  pub ended : feed_of new ≡ nothing_fed

-- Memory ran out at this end.
pub record StopsEnd (old new : ClientState) : Type 0 where
  pub stops : (s : ClientState) (p : List ℕ) → Fed s p old → StopsDelivery s p new
  pub fresh : feed_of old ≡ rest_dropped → ⊥
  pub ended : feed_of new ≡ nothing_fed

pub record EndsAs (left : Said) (told : ℤ) (old new : ClientState) : Type 0 where
  pub what : Delivered
  pub ends : Ends what old new
  pub says : left ≡ said_of_delivered what
  pub number : told ≡ pos 0

abbrev pub EndsOr : Said → Said → ℤ → ClientState → ClientState → Type 0
EndsOr said left told old new = EndsAs left told old new ⊎ Stopped (StopsEnd old new × (left ≡ said)) told

-- ---- the answer to a check

-- The client stays, and the result is what the answer says.
pub record Reads (answer : List ℕ) (left : Said) (old new : ClientState) : Type 0 where
  pub current : Current
  pub is : IsCurrent (tag_of old) answer current
  pub same : current ≡ Same → IsStillThere (tag_of old) answer
  pub says : left ≡ said_of_current current
  pub stays : new ≡ old
