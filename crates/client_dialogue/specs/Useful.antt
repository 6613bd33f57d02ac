-- What is read of the head of an answer: its status code, and how many bytes of its body a client can use.
use Rattle.std.specs.Prelude.{◌≡◌, ◌+◌, ◌-◌, ◌^◌, ℕ, List, Bool, false, if◌then◌else◌, not, min, max, Option, Some, None, Result, Ok, Err}
use Rattle.std.specs.Str.{bytes_eq}
use Rattle.extents.specs.declared.span.Span.{Span}
use Rattle.http_range.specs.declared.frame.Frame.{Frame}
use Rattle.http_range.specs.declared.reading.Why.{Why}
use Rattle.http_range.specs.Announced.{Announced}
use Rattle.http_range.specs.Frame.{ReadsFrame}
use Rattle.http_range.specs.Reading.{ReadsHead}
use Rattle.client_dialogue.specs.declared.useful.TheConstants.{FRONT}

abbrev pub status_read : Result Frame Why → ℕ
status_read (Ok frame) = frame.status
status_read (Err why) = 0

-- the status code of the head, or 0 if there is no whole head
pub record IsStatusOf (head : List ℕ) (status : ℕ) : Type 0 where
  pub read : Result Frame Why
  pub reads : ReadsFrame head read
  pub is : status ≡ status_read read

-- the head is that of another revision than the client's
abbrev pub is_other : Option (List ℕ) → Announced → Bool
is_other None head = false
is_other (Some tag) head = not (bytes_eq tag head.tag)

-- how many bytes of the body there are up to the last byte that is asked for
abbrev pub up_to : Span → Announced → ℕ
up_to span head = min (span.last + 1) (2 ^ 64 - 1) - head.first

-- How many bytes of the body a client can use: up to the last byte that is asked for, and at least `FRONT`. If it asks for nothing, or
-- the head is of another revision, these are `FRONT` bytes. They are none if the head announces no piece of a file.
abbrev pub useful_by : Option Span → Option (List ℕ) → Result Announced Why → ℕ
useful_by asked tag (Err why) = 0
useful_by None tag (Ok head) = FRONT
useful_by (Some span) tag (Ok head) = if is_other tag head then FRONT else max (up_to span head) FRONT

pub record IsUseful (head : List ℕ) (asked : Option Span) (tag : Option (List ℕ)) (count : ℕ) : Type 0 where
  pub read : Result Announced Why
  pub reads : ReadsHead head read
  pub is : count ≡ useful_by asked tag read
