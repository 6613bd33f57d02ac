-- The head of an answer, in the first 4,096 bytes (RFC 9112, sections 4 and 5).
use Rattle.std.specs.Prelude.{◌≡◌, ℕ, ◌<◌, ◌≤◌, ◌⊎◌, List, length, take, map, Result, Ok, Err}
use Rattle.httparse.specs.Grammar.{ResponseHead, ReadsResponse, print_response, status_code, HasNoResponse, MayBecomeResponse}
use Rattle.httparse.specs.Spans.{name_and_value, ResponseOverflows}
use Rattle.http_fields.specs.declared.limits.TheConstants.{FIELD_LIMIT, HEAD_LIMIT}
use Rattle.http_range.specs.declared.reading.Why.{Why}
use Rattle.http_range.specs.declared.reading.Why.TheVariants.{Cut, Head}
use Rattle.http_fields.specs.Text.{FieldLine}

-- what is read of a head, and its length in bytes
pub record SeenHead : Type 0 where
  pub status : ℕ
  pub minor : ℕ  -- the minor version: 1 of HTTP/1.1
  pub fields : List FieldLine
  pub size : ℕ

-- `h` stands at the front of `bytes`, whole within the first 4,096, with at most 32 fields
pub record IsHeadOf (bytes : List ℕ) (h : ResponseHead) : Type 0 where
  pub rest : List ℕ
  pub reads : ReadsResponse (take HEAD_LIMIT bytes) h rest
  pub room : length h.fields ≤ FIELD_LIMIT

abbrev pub seen_head : ResponseHead → SeenHead
seen_head h = record { status = status_code h; minor = h.minor; fields = map name_and_value h.fields; size = length (print_response h) }

-- What is found at the front of `bytes`: a head's parts, *cut* (a front of a head, too short to be refused), or *refused head*.
-- A head is refused if none ends within the first 4,096 bytes. It is also refused if, whatever follows, none with at most 32 fields begins.
abbrev pub FindsHead : List ℕ → Result SeenHead Why → Type 0
FindsHead bytes (Ok seen) = (h : ResponseHead) × IsHeadOf bytes h × (seen ≡ seen_head h)
FindsHead bytes (Err Cut) = (length bytes < HEAD_LIMIT) × HasNoResponse bytes × MayBecomeResponse bytes
FindsHead bytes (Err Head) =
    ((HEAD_LIMIT ≤ length bytes) × HasNoResponse (take HEAD_LIMIT bytes)) ⊎ ResponseOverflows FIELD_LIMIT (take HEAD_LIMIT bytes)
FindsHead bytes (Err why) = ⊥
