-- What is kept of an answer between two pieces, with room for a head and for a block. Then what a piece makes of it.
use Rattle.std.specs.Prelude.{◌≡◌, ◌⊎◌, ℕ, ◌-◌, ◌<◌, List, [], ◌++◌, length, take, Option, Some, None, Err, ⊤}
use Rattle.extents.specs.declared.limits.TheConstants.{BLOCK_SIZE}
use Rattle.extents.specs.declared.span.Span.{Span}
use Rattle.http_fields.specs.declared.limits.TheConstants.{HEAD_LIMIT}
use Rattle.http_range.specs.declared.reading.Why.{Why}
use Rattle.http_range.specs.Announced.{Announced, announced}
use Rattle.http_range.specs.Reading.{ReadsHead}
use Rattle.range_cache.specs.Cache.{Blocks}
use Rattle.cog_client.specs.declared.partial_answer.Found.{Found}
use Rattle.cog_client.specs.declared.body.Body.{Body}
use Rattle.cog_client.specs.declared.case.Case.{Case}
use Rattle.cog_client.specs.declared.delivered.Delivered.{Delivered}
use Rattle.cog_client.specs.declared.delivered.Delivered.TheVariants.{Ignored}
use Rattle.cog_client.specs.declared.delivered.Ignored.TheVariants.{NotUsed}
use Rattle.cog_client.specs.declared.answer_phase.AnswerPhase.{AnswerPhase}
use Rattle.cog_client.specs.declared.answer_phase.AnswerPhase.TheVariants as kept
use Rattle.cog_client.specs.Body.{Extends, IsBody, IsSoundBody, Stops}
use Rattle.cog_client.specs.Fed.{IsSettled, told_at_end}
use Rattle.cog_client.specs.AnswerPhase.{Feed, nothing_fed, waits, unused, passed, follows}
use Rattle.cog_client.specs.Head.{HasNoHead, IsFound}

-- what is kept, seen with the room for a head and the room for a block
abbrev pub feed_in : AnswerPhase → List ℕ → List ℕ → Feed
feed_in (kept.Waits len) head part = waits (take len head)
feed_in (kept.Unused why) head part = unused why
feed_in (kept.Passed why) head part = passed why
feed_in (kept.Follows found case body) head part = follows (announced found) case body part

-- the bytes kept in the room for a head have no head, and a body lies within its file
abbrev pub IsSoundPhase : AnswerPhase → List ℕ → Type 0
IsSoundPhase (kept.Waits len) head = (len < HEAD_LIMIT) × HasNoHead (take len head)
IsSoundPhase (kept.Unused why) head = ⊤
IsSoundPhase (kept.Passed why) head = ⊤
IsSoundPhase (kept.Follows found case body) head = IsSoundBody body

-- The rooms have the sizes of a head and of a block.
pub record IsPartialAnswer (phase : AnswerPhase) (head part : List ℕ) : Type 0 where
  pub head_room : length head ≡ HEAD_LIMIT
  pub part_room : length part ≡ BLOCK_SIZE
  pub sound : IsSoundPhase phase head

-- What is kept of an answer is bounded: fewer bytes than a head may have, or the room of one block.
abbrev pub IsBounded : Feed → Type 0
IsBounded (waits bytes) = length bytes < HEAD_LIMIT
IsBounded (unused why) = ⊤
IsBounded (passed why) = ⊤
IsBounded (follows head case body part) = length part ≡ BLOCK_SIZE

-- ---- the head

-- The bytes have no head yet, and are kept.
pub record IsOpen (bytes : List ℕ) (now : Feed) : Type 0 where
  pub keeps : now ≡ waits bytes
  pub short : length bytes < HEAD_LIMIT
  pub none : HasNoHead bytes

-- The head says that the answer is not used.
pub record IsRefused (bytes : List ℕ) (now : Feed) : Type 0 where
  pub reason : Why
  pub keeps : now ≡ unused reason
  pub reads : ReadsHead bytes (Err reason)
  pub settled : IsSettled bytes reason

-- no body can be taken
abbrev pub IsHeadless : List ℕ → Feed → Type 0
IsHeadless bytes now = IsOpen bytes now ⊎ IsRefused bytes now

-- what is kept after more bytes were read for a head; if they have the head, nothing is kept of the answer
abbrev pub LooksOn : Feed → List ℕ → Feed → Option Found → Type 0
LooksOn (waits front) bytes new None = IsHeadless (front ++ bytes) new
LooksOn (waits front) bytes new (Some found) =
    (new ≡ nothing_fed) × IsFound front bytes (announced found.head) found.from
LooksOn (unused why) bytes new None = new ≡ unused why
LooksOn (unused why) bytes new (Some found) = ⊥
LooksOn (passed why) bytes new None = new ≡ passed why
LooksOn (passed why) bytes new (Some found) = ⊥
LooksOn (follows head case body part) bytes new None = new ≡ follows head case body part
LooksOn (follows head case body part) bytes new (Some found) = ⊥

-- ---- the body

-- A body begins for the asked span, and nothing of it came yet.
pub record StartsBody (head : Announced) (case : Case) (span : Span) (now : Feed) : Type 0 where
  pub body : Body
  pub part : List ℕ
  pub keeps : now ≡ follows head case body part
  pub span_is : body.span ≡ span
  pub begins : (start : Blocks) → IsBody head start [] body part start

-- the body went on by these bytes
pub record TakesOn (head : Announced) (case : Case) (old : Body) (before : List ℕ) (cache : Blocks) (bytes : List ℕ) (new : Feed)
    (after : Blocks) : Type 0 where
  pub body : Body
  pub part : List ℕ
  pub keeps : new ≡ follows head case body part
  pub span_is : body.span ≡ old.span
  pub extends : Extends old before cache (take old.left bytes) body part after

-- what bytes of an answer make of what is kept and of the blocks: of a body the blocks are stored
abbrev pub TakesBytes : Feed → Blocks → List ℕ → Feed → Blocks → Type 0
TakesBytes (waits front) before bytes new after = (new ≡ waits front) × (after ≡ before)
TakesBytes (unused why) before bytes new after = (new ≡ unused why) × (after ≡ before)
TakesBytes (passed why) before bytes new after = (new ≡ passed why) × (after ≡ before)
TakesBytes (follows head case body part) before bytes new after = TakesOn head case body part before bytes new after

-- the same if memory ran out
abbrev pub StopsInBytes : Feed → Blocks → List ℕ → Blocks → Type 0
StopsInBytes (waits front) before bytes after = ⊥
StopsInBytes (unused why) before bytes after = ⊥
StopsInBytes (passed why) before bytes after = ⊥
StopsInBytes (follows head case body part) before bytes after = Stops body part before (take body.left bytes) after

-- ---- the end

-- what is said of an answer that is kept so
abbrev pub IsTold : Feed → Delivered → Type 0
IsTold (waits bytes) what = (w : Why) × ReadsHead bytes (Err w) × (what ≡ Ignored (NotUsed w))
IsTold (unused w) what = what ≡ Ignored (NotUsed w)
IsTold (passed w) what = what ≡ Ignored w
IsTold (follows head case body part) what =
    what ≡ told_at_end case head (body.next - head.first) body.count (Some body.span)
