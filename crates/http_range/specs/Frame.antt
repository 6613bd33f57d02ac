-- Where an answer ends, and whether its connection ends with it (RFC 9112, sections 6.3, 9.3 and 9.6).
use Rattle.std.specs.Prelude.{◌≡◌, ℕ, ◌&&◌, ◌||◌, ◌==◌, not, nat_le, nat_lt, is_none, Bool, List, Option, Some, None, Result, Ok, Err}
use Rattle.http_range.specs.declared.frame.Frame.{Frame}
use Rattle.http_range.specs.declared.reading.Why.{Why}
use Rattle.http_range.specs.Head.{SeenHead, FindsHead}
use Rattle.http_range.specs.Piece.{◌>>=◌}
use Rattle.http_range.specs.Announced.{Announced}
use Rattle.http_range.specs.Reading.{announced_of, says_close}

-- the length of the body that a head announces
abbrev pub length_announced : Result Announced Why → Option ℕ
length_announced (Ok head) = Some head.length
length_announced (Err why) = None

-- The connection ends with the answer if its head says so, or is of HTTP/1.0. Own: it also ends if the head announces no piece of a
-- file. The rest of a body that isn't used could be read as the next answer.
abbrev pub frame_of : SeenHead → Frame
frame_of head =
    let length = length_announced (announced_of head) in
    record { status = head.status; size = head.size; length = length; closes = says_close head || (head.minor == 0) || is_none length }

-- what is read of the end of an answer, or of a front of the answer
abbrev pub ReadsFrame : List ℕ → Result Frame Why → Type 0
ReadsFrame bytes r = (found : Result SeenHead Why) × FindsHead bytes found × (r ≡ (found >>= (λ head. Ok (frame_of head))))

-- an interim answer, which the final answer follows (RFC 9110, section 15.2); after status code 101 another protocol follows
abbrev pub is_interim : Frame → Bool
is_interim frame = nat_le 100 frame.status && nat_lt frame.status 200 && not (frame.status == 101)
