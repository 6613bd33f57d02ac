-- The head of an answer that comes in pieces, as it is kept between two pieces.
use Rattle.std.specs.Prelude.{◌≡◌, ℕ, ◌<◌, ◌≤◌, List, ◌++◌, length, take, drop, Result, Ok, Err}
use Rattle.http_fields.specs.declared.limits.TheConstants.{HEAD_LIMIT}
use Rattle.http_range.specs.declared.reading.Why.{Why}
use Rattle.http_range.specs.Announced.{Announced, announced, body_behind, FitsFile}
use Rattle.http_range.specs.Laws.{HasNone}
use Rattle.http_range.specs.Reading.{ReadsHead}
use Rattle.cog_client.specs.declared.head.Look.{Look}
use Rattle.cog_client.specs.declared.head.Look.TheVariants.{Waits, Unused, Found}
use Rattle.cog_client.specs.Fed.{IsSettled}

-- no head is read of these bytes
abbrev pub HasNoHead : List ℕ → Type 0
HasNoHead bytes = (r : Result Announced Why) → ReadsHead bytes r → HasNone r

-- The bytes have no head yet, and stand at the front of the room.
pub record IsWaiting (bytes room : List ℕ) (len : ℕ) : Type 0 where
  pub short : len < HEAD_LIMIT
  pub kept : take len room ≡ bytes
  pub none : HasNoHead bytes

-- The head stands at the front of what came. The body follows it, from the position `from` of `bytes` on.
pub record IsFound (front bytes : List ℕ) (head : Announced) (from : ℕ) : Type 0 where
  pub reads : ReadsHead (front ++ bytes) (Ok head)
  pub fits : FitsFile head
  pub inside : from ≤ length bytes
  pub body : body_behind head (front ++ bytes) ≡ take head.length (drop from bytes)

-- what is known of the head when `bytes` came after a front that has none
abbrev pub Looks : List ℕ → List ℕ → List ℕ → Look → Type 0
Looks front bytes room (Waits len) = IsWaiting (front ++ bytes) room len
Looks front bytes room (Unused why) = ReadsHead (front ++ bytes) (Err why) × IsSettled (front ++ bytes) why
Looks front bytes room (Found head from) = IsFound front bytes (announced head) from
