-- What callers know of a connection, and what each call makes of it (RFC 9112, sections 9.3 and 9.6).
use Rattle.std.specs.Prelude.{◌≡◌, ◌≢◌, ◌⊎◌, ◌==◌, ◌||◌, ◌&&◌, ◌+◌, ◌-◌, ℕ, min, nat_le, not, Bool, true, false, if◌then◌else◌, List, [], ◌++◌, length, drop, Option, Some, None}
use Rattle.std.specs.List.{list_any}
use Rattle.std.specs.Option.{option_map_or}
use Rattle.std.specs.Str.{bytes_eq}
use Rattle.http_fields.specs.declared.limits.TheConstants.{ANSWERS_LIMIT, MESSAGE_LIMIT}
use Rattle.http_range.specs.Book.{Catalogue}
use Rattle.http_range.specs.declared.reply.Reply.{Reply}
use Rattle.http_range.specs.declared.reply.Reply.TheVariants.{R200, R206, R304}
use Rattle.http_range.specs.Stream.{IsFirstMessage, IsUnfinished}
use Rattle.cog_server.specs.Additions.{IsSent, Sent, ServiceState, plain}
use Rattle.cog_server.specs.declared.limits.TheConstants.{DROP_LIMIT}
use Rattle.cog_server.specs.declared.served.Ended.{Ended}
use Rattle.cog_server.specs.declared.served.Ended.TheVariants.{Closed, Limit, EndOfInput}

pub record Status : Type 0 where
  pub held : List ℕ  -- what came and isn't answered yet
  pub waiting : List ℕ  -- what of the last answer isn't written yet
  pub is_closed : Bool  -- an answer was given that closes
  pub answers : ℕ  -- how many answers were given
  pub is_over : Bool  -- nothing more comes
  pub dropped : ℕ  -- how many bytes after the last message were dropped
  pub tag : Option (List ℕ)  -- the ETag of the file whose bytes are kept for the answer that isn't written

abbrev pub start : Status
start = record { held = []; waiting = []; is_closed = false; answers = 0; is_over = false; dropped = 0; tag = None }

-- no answer follows: one closes, or a hundred were given
abbrev pub is_closing : Status → Bool
is_closing s = s.is_closed || s.answers == ANSWERS_LIMIT

-- how many bytes may come next
abbrev pub room_of : Status → ℕ
room_of s =
    if s.is_over then 0
    else if is_closing s then min MESSAGE_LIMIT (DROP_LIMIT - s.dropped)
    else MESSAGE_LIMIT - length s.held

-- bytes came; after the last message they are dropped
abbrev pub after_bytes : List ℕ → Status → Status
after_bytes bytes s =
    if is_closing s then record s { dropped = s.dropped + length bytes } else record s { held = s.held ++ bytes }

-- the input is at its end
abbrev pub after_end : Status → Status
after_end s = record s { is_over = true }

-- `n` bytes of what waits are written; after the last one no file is kept
abbrev pub after_write : ℕ → Status → Status
after_write n s = record s { waiting = drop n s.waiting; tag = if length (drop n s.waiting) == 0 then None else s.tag }

-- ---- answers

-- The message is answered next. It is whole, the answer before it is written, and an answer may still follow.
pub record IsNext (service : ServiceState) (s : Status) (message : List ℕ) (sent : Sent) : Type 0 where
  pub goes_on : is_closing s ≡ false
  pub written : s.waiting ≡ []
  pub first : IsFirstMessage s.held message
  pub answers : IsSent service s.answers message sent

-- the ETag of the file that the answer is of
abbrev pub tag_of : Reply → Option (List ℕ)
tag_of (R200 tag length) = Some tag
tag_of (R206 tag first last length) = Some tag
tag_of (R304 tag) = Some tag
tag_of reply = None

abbrev pub after_message : List ℕ → Sent → Status → Status
after_message message sent s = record {
  held = drop (length message) s.held;
  waiting = sent.text;
  is_closed = sent.response.close;
  answers = s.answers + 1;
  is_over = s.is_over;
  dropped = s.dropped;
  tag = tag_of sent.response.reply;
}

-- after the last message nothing is kept
abbrev pub let_go : Status → Status
let_go s = if is_closing s then record s { held = []; dropped = length s.held } else s

abbrev pub after_answer : List ℕ → Sent → Status → Status
after_answer message sent s = let_go (after_message message sent s)

-- no message is answered now: no answer follows, one isn't written, or no message is whole
abbrev pub Rests : Status → Type 0
Rests s = (is_closing s ≡ true) ⊎ ((s.waiting ≢ []) ⊎ IsUnfinished s.held)

-- the next message is answered, with this status code, or none is
abbrev pub GoesOnBy : ServiceState → Status → Status → Option ℕ → Type 0
GoesOnBy service old new (Some status) =
    (message : List ℕ) × (sent : Sent) × IsNext service old message sent × (new ≡ after_answer message sent old) × (status ≡ sent.status)
GoesOnBy service old new None = (new ≡ old) × Rests old

-- the same with nothing added
abbrev pub GoesOn : Catalogue → Status → Status → Option ℕ → Type 0
GoesOn catalogue old new status = GoesOnBy (plain catalogue) old new status

-- the bytes that are kept are of a file that is no longer published
abbrev pub is_outdated : Catalogue → Status → Bool
is_outdated catalogue s = option_map_or (λ tag. not (list_any (λ p. bytes_eq p.tag tag) catalogue)) s.tag false

-- ---- the end

-- how the answers ended, once all are written; `None` if they haven't
abbrev pub EndsBy : Status → Option Ended → Type 0
EndsBy s (Some Closed) = (s.waiting ≡ []) × (s.is_closed ≡ true)
EndsBy s (Some Limit) = (s.waiting ≡ []) × (s.is_closed ≡ false) × (s.answers ≡ ANSWERS_LIMIT)
EndsBy s (Some EndOfInput) = (s.waiting ≡ []) × (is_closing s ≡ false) × (s.is_over ≡ true) × IsUnfinished s.held
EndsBy s None =
    (s.waiting ≢ []) ⊎ ((is_closing s ≡ false) × ((s.is_over ≡ false) ⊎ ((message : List ℕ) × IsFirstMessage s.held message)))

-- nothing more may come
abbrev pub is_drained : Status → Bool
is_drained s = s.is_over || (is_closing s && nat_le DROP_LIMIT s.dropped)

-- no message has begun, and no answer is unfinished
abbrev pub is_idle : Status → Bool
is_idle s = length s.held == 0 && length s.waiting == 0

-- the last answer is written
abbrev pub is_draining : Status → Bool
is_draining s = is_closing s && length s.waiting == 0
