-- How an answer is read: each row of the table by itself, and then the first row that applies (RFC 9110, sections 8.6, 8.8.3, 14.4
-- and 15.3). Which answers aren't used is our own rule.
use Rattle.std.specs.Prelude.{◌≡◌, ℕ, ◌+◌, ◌-◌, ◌&&◌, ◌||◌, ◌==◌, not, nat_le, Bool, true, false, if◌then◌else◌, List, [], length, take, codes, Option, None, is_none, unwrap_or, option_and_then, Result, Ok, Err}
use Rattle.std.specs.Option.{option_map_or}
use Rattle.http_range.specs.declared.reading.Why.{Why}
use Rattle.http_range.specs.declared.reading.Why.TheVariants.{Cut, Status, NoTag, WeakTag, TagTooLong, NoRange, NoLength, Coding}
use Rattle.http_range.specs.declared.reading.ContentRange.{ContentRange}
use Rattle.http_range.specs.declared.reply.Reply.{Reply}
use Rattle.http_range.specs.declared.reply.Reply.TheVariants.{R200, R206, R304, R400, R404, R405, R412, R416}
use Rattle.http_range.specs.Reply.{head_text}
use Rattle.std.specs.List.{list_any}
use Rattle.http_fields.specs.Fields.{values_of, only, is_there}
use Rattle.http_fields.specs.Members.{has_member}
use Rattle.http_fields.specs.Digits.{number_64}
use Rattle.http_fields.specs.Tag.{is_entity_tag, is_weak_tag}
use Rattle.http_fields.specs.declared.limits.TheConstants.{TAG_LIMIT}
use Rattle.http_range.specs.Head.{SeenHead, FindsHead}
use Rattle.http_range.specs.Piece.{SeenPiece, ◌>>=◌}
use Rattle.http_range.specs.Announced.{Announced, announced_by, piece_behind}
use Rattle.http_range.specs.ContentRange.{range_of}

-- ---- what stands in the head

-- the value of the field of this name, if there is exactly one
abbrev pub value_of : List ℕ → SeenHead → Option (List ℕ)
value_of name head = only (values_of name head.fields)

-- a test of a value, false if the value is missing
abbrev pub holds : {A : Type 0} → Option A → (A → Bool) → Bool
holds value test = option_map_or test value false

-- the positions in its Content-Range, if it has exactly one
abbrev pub range_named : SeenHead → Option ContentRange
range_named head = option_and_then range_of (value_of (codes "Content-Range") head)

-- the number in its Content-Length, if it has exactly one
abbrev pub length_named : SeenHead → Option ℕ
length_named head = option_and_then number_64 (value_of (codes "Content-Length") head)

-- ---- the rows

-- *status*: neither 200 nor 206
abbrev pub has_other_status : SeenHead → Bool
has_other_status head = not (head.status == 200) && not (head.status == 206)

-- *coding*: a Transfer-Encoding or Content-Encoding field
abbrev pub is_coded : SeenHead → Bool
is_coded head =
    is_there (values_of (codes "Transfer-Encoding") head.fields) || is_there (values_of (codes "Content-Encoding") head.fields)

-- What is read of the value of the only ETag field. *No tag*: there is none, or it is no entity tag. *Weak tag*. *Long tag*: its text has
-- more than 64 bytes. Or else the ETag.
abbrev pub tag_by_rows : Option (List ℕ) → Result (List ℕ) Why
tag_by_rows value =
    if not (holds value is_entity_tag) then Err NoTag
    else if holds value is_weak_tag then Err WeakTag
    else if holds value (λ text. not (nat_le (length text) TAG_LIMIT)) then Err TagTooLong
    else Ok (unwrap_or value [])

-- the rows from *coding* to *long tag*
abbrev pub tag_in : SeenHead → Result (List ℕ) Why
tag_in head = if is_coded head then Err Coding else tag_by_rows (value_of (codes "ETag") head)

-- *No range*: a part without exactly one Content-Range `bytes a-b/l`. *No length*: not exactly one Content-Length of digits below 2^64,
-- or for a part one that isn't b - a + 1. Or else what is announced: the whole file, or the part that the range names, with as many
-- bytes as the Content-Length says.
abbrev pub announced_by_rows : Bool → List ℕ → Option ContentRange → Option ℕ → ℕ → Result Announced Why
announced_by_rows partial tag range length size =
    if partial && is_none range then Err NoRange
    else if not (holds length (λ n. not partial || holds range (λ r. r.last - r.first + 1 == n))) then Err NoLength
    else Ok (announced_by tag (if partial then range else None) (unwrap_or length 0) size)

-- the rows from *no range* on; an answer with status code 206 is a part
abbrev pub announced_in : SeenHead → List ℕ → Result Announced Why
announced_in head tag = announced_by_rows (head.status == 206) tag (range_named head) (length_named head) head.size

-- the first row that applies to a whole head
abbrev pub announced_of : SeenHead → Result Announced Why
announced_of head = if has_other_status head then Err (Status head.status) else (tag_in head >>= announced_in head)

-- how the head of an answer is read: by the rows, or as *cut* or *refused head*
abbrev pub ReadsHead : List ℕ → Result Announced Why → Type 0
ReadsHead bytes r = (found : Result SeenHead Why) × FindsHead bytes found × (r ≡ (found >>= announced_of))

-- how an answer is read: by its head, and if that announces a piece, its body is what follows
abbrev pub ReadsAnswer : List ℕ → Result SeenPiece Why → Type 0
ReadsAnswer bytes r = (head : Result Announced Why) × ReadsHead bytes head × (r ≡ (head >>= (λ a. Ok (piece_behind bytes a))))

-- ---- the connection

-- the head says that the connection ends with the answer (RFC 9112, section 9.6)
abbrev pub says_close : SeenHead → Bool
says_close head = list_any (has_member (codes "close")) (values_of (codes "Connection") head.fields)

-- ---- the answer to a client's check

-- the ETag by the first row that applies to a whole head; *status* is here: none of 200, 206 and 304
abbrev pub check_tag : SeenHead → Result (List ℕ) Why
check_tag head = if has_other_status head && not (head.status == 304) then Err (Status head.status) else tag_in head

-- how the answer to a check is read
abbrev pub ReadsCheck : List ℕ → Result (List ℕ) Why → Type 0
ReadsCheck bytes r = (found : Result SeenHead Why) × FindsHead bytes found × (r ≡ (found >>= check_tag))

-- ---- what a client reads of a reply

-- what a reply announces, whose head has `size` bytes
abbrev pub reply_announced : Reply → ℕ → Result Announced Why
reply_announced (R200 tag l) size = Ok (record { tag = tag; whole = true; first = 0; complete = l; length = l; size = size })
reply_announced (R206 tag first last l) size =
    Ok (record { tag = tag; whole = false; first = first; complete = l; length = last - first + 1; size = size })
reply_announced (R304 tag) size = Err (Status 304)
reply_announced R400 size = Err (Status 400)
reply_announced R404 size = Err (Status 404)
reply_announced R405 size = Err (Status 405)
reply_announced R412 size = Err (Status 412)
reply_announced (R416 l) size = Err (Status 416)

-- the same, if only the first `k` bytes of the answer came
abbrev pub front_announced : Reply → Bool → ℕ → Result Announced Why
front_announced reply close k =
    let n = length (head_text reply close) in
    if nat_le n k then reply_announced reply n else Err Cut

-- what a client reads of a reply of which it got the bytes `rest` after the head
abbrev pub reply_seen : Reply → List ℕ → Result SeenPiece Why
reply_seen (R200 tag l) rest = Ok (record { tag = tag; whole = true; first = 0; complete = l; body = take l rest })
reply_seen (R206 tag first last l) rest =
    Ok (record { tag = tag; whole = false; first = first; complete = l; body = take (last - first + 1) rest })
reply_seen (R304 tag) rest = Err (Status 304)
reply_seen R400 rest = Err (Status 400)
reply_seen R404 rest = Err (Status 404)
reply_seen R405 rest = Err (Status 405)
reply_seen R412 rest = Err (Status 412)
reply_seen (R416 l) rest = Err (Status 416)

-- the same, if only the first `k` bytes of head and body came
abbrev pub front_seen : Reply → Bool → List ℕ → ℕ → Result SeenPiece Why
front_seen reply close body k =
    let n = length (head_text reply close) in
    if nat_le n k then reply_seen reply (take (k - n) body) else Err Cut

-- ---- what a client's check reads of a reply

-- the ETag under which the server has the file
abbrev pub tag_seen : Reply → Result (List ℕ) Why
tag_seen (R200 tag l) = Ok tag
tag_seen (R206 tag first last l) = Ok tag
tag_seen (R304 tag) = Ok tag
tag_seen R400 = Err (Status 400)
tag_seen R404 = Err (Status 404)
tag_seen R405 = Err (Status 405)
tag_seen R412 = Err (Status 412)
tag_seen (R416 l) = Err (Status 416)

-- the same, if only the first `k` bytes of the answer came
abbrev pub front_tag : Reply → Bool → ℕ → Result (List ℕ) Why
front_tag reply close k = if nat_le (length (head_text reply close)) k then tag_seen reply else Err Cut
