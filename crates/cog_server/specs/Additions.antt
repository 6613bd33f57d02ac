-- What a server adds to its answers by option. One adds the fields of the CORS protocol (Fetch standard, section 3.3). The other adds that
-- an answer is the last one of its connection (RFC 9112, section 9.6).
use Rattle.std.specs.Prelude.{◌≡◌, ◌+◌, ◌&&◌, ◌==◌, ℕ, Bool, true, false, if◌then◌else◌, List, [], ◌∷◌, ◌++◌, codes, Option, Some, None, is_some}
use Rattle.std.specs.Option.{option_map_or}
use Rattle.std.specs.Str.{bytes_eq}
use Rattle.http_fields.specs.declared.limits.TheConstants.{ANSWERS_LIMIT}
use Rattle.http_fields.specs.Fields.{values_of, is_there}
use Rattle.http_fields.specs.Text.{FieldLine, head_with, closing}
use Rattle.http_range.specs.Book.{Catalogue}
use Rattle.http_range.specs.declared.reply.Reply.{Reply}
use Rattle.http_range.specs.declared.reply.Reply.TheVariants.{R405}
use Rattle.http_range.specs.Reply.{fields_of, status_line, status_of}
use Rattle.http_range.specs.Response.{Response, answer_by}
use Rattle.http_range.specs.Seen.{SeenRequest, HasRequest}

pub record AddedState : Type 0 where
  pub origin : Option (List ℕ)  -- pages of this origin may read the answers; `*` stands for each origin
  pub announces_last : Bool  -- the hundredth answer of a connection says that it is the last

abbrev pub nothing_added : AddedState
nothing_added = record { origin = None; announces_last = false }

-- what answers are made from: the files, and what is added
pub record ServiceState : Type 0 where
  pub catalogue : Catalogue
  pub added : AddedState

abbrev pub plain : Catalogue → ServiceState
plain catalogue = record { catalogue = catalogue; added = nothing_added }

-- ---- fields

-- which fields of an answer a page may read (section 3.3.3)
abbrev pub exposing_fields : List FieldLine
exposing_fields =
    (codes "Access-Control-Expose-Headers", codes "ETag, Content-Range, Content-Length, Accept-Ranges") ∷ []

-- Whose pages may read the answer, and which of its fields (section 3.3.3). An answer that names one origin varies by the request's Origin
-- (RFC 9110, section 12.5.5).
abbrev pub origin_fields : Option (List ℕ) → List FieldLine
origin_fields None = []
origin_fields (Some origin) =
    (codes "Access-Control-Allow-Origin", origin)
    ∷ (if bytes_eq origin (codes "*") then exposing_fields else (codes "Vary", codes "Origin") ∷ exposing_fields)

-- which requests a page may send (section 3.3.3)
abbrev pub preflight_fields : List FieldLine
preflight_fields =
    (codes "Access-Control-Allow-Methods", codes "GET, HEAD")
    ∷ (codes "Access-Control-Allow-Headers", codes "Range, If-Range, If-Match, If-None-Match")
    ∷ (codes "Access-Control-Max-Age", codes "86400") ∷ []

-- ---- answers

-- the request asks which requests a page may send: a CORS-preflight request (section 3.3.2)
abbrev pub is_preflight : SeenRequest → Bool
is_preflight r = bytes_eq r.method (codes "OPTIONS") && is_there (values_of (codes "Access-Control-Request-Method") r.fields)

abbrev pub asks_first : Option SeenRequest → Bool
asks_first seen = option_map_or is_preflight seen false

-- the answer of the row *method*
abbrev pub refuses_method : Reply → Bool
refuses_method R405 = true
refuses_method reply = false

-- the row *preflight*, just before *method*: where an origin's pages may read answers, a preflight is no wrong method
abbrev pub answers_preflight : AddedState → Bool → Response → Bool
answers_preflight added preflight r = is_some added.origin && (preflight && refuses_method r.reply)

-- the connection ends with the answer that comes after `n` answers: the table says so, or it is the hundredth and the last is announced
abbrev pub closes_by : AddedState → ℕ → Bool → Bool
closes_by added n close = if added.announces_last && n + 1 == ANSWERS_LIMIT then true else close

abbrev pub announced : AddedState → ℕ → Response → Response
announced added n r = record r { close = closes_by added n r.close }

-- what is sent: the answer of the table, the status code, and the bytes
pub record Sent : Type 0 where
  pub response : Response
  pub status : ℕ
  pub text : List ℕ

-- the answer with the added fields after its own
abbrev pub sent_with : List FieldLine → Response → Sent
sent_with added r = record {
  response = r;
  status = status_of r.reply;
  text = head_with (status_line r.reply) (fields_of r.reply ++ (added ++ closing r.close)) ++ r.body;
}

-- 204, without a body and its length (RFC 9110, sections 8.6 and 15.3.5)
abbrev pub sent_preflight : List FieldLine → Response → Sent
sent_preflight added r = record {
  response = r;
  status = 204;
  text = head_with (codes "HTTP/1.1 204 No Content") (preflight_fields ++ (added ++ closing r.close));
}

abbrev pub sent_by : AddedState → ℕ → Bool → Response → Sent
sent_by added n preflight r =
    if answers_preflight added preflight r then sent_preflight (origin_fields added.origin) (announced added n r)
    else sent_with (origin_fields added.origin) (announced added n r)

-- `sent` is sent for the head at the front of the message, after `n` answers
pub record IsSent (service : ServiceState) (n : ℕ) (message : List ℕ) (sent : Sent) : Type 0 where
  pub seen : Option SeenRequest
  pub reads : HasRequest message seen
  pub is : sent ≡ sent_by service.added n (asks_first seen) (answer_by service.catalogue seen)
