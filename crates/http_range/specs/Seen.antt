-- What is read of a request's head (RFC 9112, sections 3 and 5).
use Rattle.std.specs.Prelude.{◌≡◌, ℕ, ◌≤◌, List, length, take, map, Option, Some, None}
use Rattle.httparse.specs.Grammar.{RequestHead, ReadsRequest}
use Rattle.httparse.specs.Spans.{name_and_value}
use Rattle.http_fields.specs.declared.limits.TheConstants.{FIELD_LIMIT, MESSAGE_LIMIT}
use Rattle.http_fields.specs.Text.{FieldLine}

-- the parts of a request's head; white space before and after a value is dropped
pub record SeenRequest : Type 0 where
  pub method : List ℕ
  pub target : List ℕ
  pub minor : ℕ
  pub fields : List FieldLine

-- `h` stands at the front of `bytes`, whole within the first 8,192, with at most 32 fields
pub record IsRequestFront (bytes : List ℕ) (h : RequestHead) : Type 0 where
  pub rest : List ℕ
  pub reads : ReadsRequest (take MESSAGE_LIMIT bytes) h rest
  pub room : length h.fields ≤ FIELD_LIMIT

abbrev pub seen_request : RequestHead → SeenRequest
seen_request h = record { method = h.method; target = h.target; minor = h.minor; fields = map name_and_value h.fields }

-- a head stands at the front of `message`, and these are its parts; or there is none
abbrev pub HasRequest : List ℕ → Option SeenRequest → Type 0
HasRequest message None = (h : RequestHead) → ¬ (IsRequestFront message h)
HasRequest message (Some seen) = (h : RequestHead) × IsRequestFront message h × (seen ≡ seen_request h)
