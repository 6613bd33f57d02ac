-- What the head of an answer announces: which bytes of which revision its body is, and how many these are
-- (RFC 9110, sections 8.6, 8.8.3 and 14.4).
use Rattle.std.specs.Prelude.{ℕ, ◌+◌, ◌<◌, ◌≤◌, ◌^◌, Bool, true, false, List, length, take, drop, Option, Some, None, Result, Ok, Err}
use Rattle.http_fields.specs.declared.limits.TheConstants.{HEAD_LIMIT}
use Rattle.http_range.specs.declared.reading.ContentRange.{ContentRange}
use Rattle.http_range.specs.declared.reading.Why.{Why}
use Rattle.http_range.specs.declared.reading.Head.{Head}
use Rattle.http_range.specs.declared.reading.HeadReading.{HeadReading}
use Rattle.http_range.specs.declared.reading.HeadReading.TheVariants.{Head as AHead, NotUsed}
use Rattle.http_range.specs.Piece.{SeenPiece}

-- `size` is the number of bytes of the head, and `length` that of its body
pub record Announced : Type 0 where
  pub tag : List ℕ
  pub whole : Bool
  pub first : ℕ
  pub complete : ℕ
  pub length : ℕ
  pub size : ℕ

-- the whole file, or the part that the range covers; `n` is the value of the Content-Length
abbrev pub announced_by : List ℕ → Option ContentRange → ℕ → ℕ → Announced
announced_by tag None n size = record { tag = tag; whole = true; first = 0; complete = n; length = n; size = size }
announced_by tag (Some range) n size =
    record { tag = tag; whole = false; first = range.first; complete = range.complete; length = n; size = size }

-- the body as far as it came: what follows the head, and at most as many bytes as the head announces
abbrev pub body_behind : Announced → List ℕ → List ℕ
body_behind head bytes = take head.length (drop head.size bytes)

-- the piece of the answer that came
abbrev pub piece_behind : List ℕ → Announced → SeenPiece
piece_behind bytes head =
    record { tag = head.tag; whole = head.whole; first = head.first; complete = head.complete; body = body_behind head bytes }

-- The announced body lies within its file, and the length of the file is below 2^64.
pub record FitsFile (head : Announced) : Type 0 where
  pub within : head.first + head.length ≤ head.complete
  pub bounded : head.complete < 2 ^ 64

-- All bytes of the head are there, at most 4,096.
pub record FitsFront (bytes : List ℕ) (head : Announced) : Type 0 where
  pub there : head.size ≤ length bytes
  pub short : head.size ≤ HEAD_LIMIT

abbrev pub announced : Head → Announced
announced head = record {
  tag = head.tag;
  whole = head.whole;
  first = head.first;
  complete = head.complete;
  length = head.length;
  size = head.size;
}

abbrev pub announced_seen : Result Head Why → Result Announced Why
announced_seen (Ok head) = Ok (announced head)
announced_seen (Err why) = Err why

abbrev pub head_reading_seen : HeadReading → Result Announced Why
head_reading_seen (AHead head) = Ok (announced head)
head_reading_seen (NotUsed why) = Err why
