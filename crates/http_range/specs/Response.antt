-- What a server answers to a message (RFC 9110, sections 7.2, 9, 13.1, 13.2.2, 14.2 and 15; RFC 9112, sections 3, 6 and 9.6).
use Rattle.std.specs.Prelude.{◌≡◌, ℕ, ◌+◌, ◌-◌, ◌&&◌, ◌||◌, ◌==◌, min, not, nat_eq, nat_lt, Bool, true, false, if◌then◌else◌, List, [], ◌++◌, length, take, drop, codes, Option, Some, None, option_and_then}
use Rattle.std.specs.List.{list_any, starts_with}
use Rattle.std.specs.Str.{bytes_eq}
use Rattle.std.specs.Option.{option_map_or}
use Rattle.http_range.specs.declared.range.Resolved.{Resolved}
use Rattle.http_range.specs.declared.range.Resolved.TheVariants.{Whole, Part, Unsatisfiable}
use Rattle.http_range.specs.declared.reply.Reply.{Reply}
use Rattle.http_range.specs.declared.reply.Reply.TheVariants.{R200, R206, R304, R400, R404, R405, R412, R416}
use Rattle.http_fields.specs.Fields.{values_of, only, is_there}
use Rattle.http_fields.specs.Members.{has_member}
use Rattle.http_fields.specs.Conditional.{one_matches}
use Rattle.http_range.specs.Range.{range_spec, resolved_or}
use Rattle.http_range.specs.Reply.{head_text}
use Rattle.http_range.specs.Seen.{SeenRequest, HasRequest}
use Rattle.http_range.specs.Book.{Publication, Catalogue, published}

-- an answer: the reply, whether the connection ends with it, the name of the file whose ETag it has, and its body
pub record Response : Type 0 where
  pub reply : Reply
  pub close : Bool
  pub name : Option (List ℕ)
  pub body : List ℕ

-- the bytes that are sent
abbrev pub text_of : Response → List ℕ
text_of s = head_text s.reply s.close ++ s.body

-- ---- what a request says

-- a Connection field of the request has the member `close`
abbrev pub asks_close : SeenRequest → Bool
asks_close r = list_any (has_member (codes "close")) (values_of (codes "Connection") r.fields)

-- If-Range lets a range be served: there is no such field, or exactly one, whose value is the ETag byte for byte
abbrev pub lets_range : List (List ℕ) → List ℕ → Bool
lets_range values tag = option_map_or (λ value. bytes_eq value tag) (only values) (not (is_there values))

-- the value of the Range field, if there is exactly one and If-Range lets it be served
abbrev pub range_to_serve : SeenRequest → List ℕ → Option (List ℕ)
range_to_serve r tag =
    if lets_range (values_of (codes "If-Range") r.fields) tag then only (values_of (codes "Range") r.fields) else None

-- the part of a file of `length` bytes that the request names, or the whole file
abbrev pub part_to_serve : SeenRequest → List ℕ → ℕ → Resolved
part_to_serve r tag length = resolved_or (option_and_then range_spec (range_to_serve r tag)) length

-- ---- the rows

-- *body announced*: there is a Content-Length or a Transfer-Encoding field
abbrev pub announces_body : SeenRequest → Bool
announces_body r =
    is_there (values_of (codes "Content-Length") r.fields) || is_there (values_of (codes "Transfer-Encoding") r.fields)

-- the name after the `/`
abbrev pub target_name : SeenRequest → List ℕ
target_name r = drop 1 r.target

-- *precondition*: there is an If-Match field, and none matches by the strong comparison
abbrev pub fails_precondition : SeenRequest → List ℕ → Bool
fails_precondition r tag =
    let values = values_of (codes "If-Match") r.fields in
    is_there values && not (one_matches values tag true)

-- *not modified*: there is an If-None-Match field, and one matches by the weak comparison
abbrev pub is_unmodified : SeenRequest → List ℕ → Bool
is_unmodified r tag = one_matches (values_of (codes "If-None-Match") r.fields) tag false

-- ---- the answers

-- an answer without a body and without an ETag
abbrev pub refused : Reply → Bool → Response
refused reply close = record { reply = reply; close = close; name = None; body = [] }

-- an answer with the ETag of the file
abbrev pub with_tag : Publication → Reply → Bool → List ℕ → Response
with_tag p reply close body = record { reply = reply; close = close; name = Some p.name; body = body }

-- *part*, *unsatisfiable*, *whole*
abbrev pub serve_part : Resolved → Publication → Bool → Response
serve_part (Part a b) p close = with_tag p (R206 p.tag a b (length p.file)) close (take (b - a + 1) (drop a p.file))
serve_part Unsatisfiable p close = refused (R416 (length p.file)) close
serve_part Whole p close = with_tag p (R200 p.tag (length p.file)) close p.file

-- The rows from *unknown name* on. *Not modified* has only the ETag, and *head* has the head of the answer with the whole file.
abbrev pub serve_file : Option Publication → SeenRequest → Response
serve_file None r = refused R404 (asks_close r)
serve_file (Some p) r =
    if fails_precondition r p.tag then refused R412 (asks_close r)
    else if is_unmodified r p.tag then with_tag p (R304 p.tag) (asks_close r) []
    else if bytes_eq r.method (codes "HEAD") then with_tag p (R200 p.tag (length p.file)) (asks_close r) []
    else serve_part (part_to_serve r p.tag (length p.file)) p (asks_close r)

-- The first row that applies. *Version*: not HTTP/1.1. *Host*: not exactly one Host field. *Method*: neither GET nor HEAD. *Target form*:
-- not the origin-form, which begins with `/`. `None` is a message without a head.
abbrev pub answer_by : Catalogue → Option SeenRequest → Response
answer_by catalogue None = refused R400 true
answer_by catalogue (Some r) =
    if not (r.minor == 1) || not (length (values_of (codes "Host") r.fields) == 1) || announces_body r then refused R400 true
    else if not (bytes_eq r.method (codes "GET")) && not (bytes_eq r.method (codes "HEAD")) then refused R405 (asks_close r)
    else if not (starts_with nat_eq r.target (codes "/")) then refused R400 true
    else serve_file (published (target_name r) catalogue) r

-- the server's answer to the head at the front of `message`
abbrev pub IsAnswer : Catalogue → List ℕ → Response → Type 0
IsAnswer catalogue message response =
    (seen : Option SeenRequest) × HasRequest message seen × (response ≡ answer_by catalogue seen)

-- ---- the answers to a client's own requests

-- the client has no revision, or the one with this ETag
abbrev pub is_current : Option (List ℕ) → List ℕ → Bool
is_current None tag = true
is_current (Some known) tag = bytes_eq known tag

-- what is answered to a client that asks for the bytes `first` to `last`, if the server has a file under the name or none
abbrev pub response_to_client : Option Publication → ℕ → ℕ → Option (List ℕ) → Response
response_to_client None first last known = refused R404 true
response_to_client (Some p) first last known =
    if is_current known p.tag
    then (if nat_lt first (length p.file) then serve_part (Part first (min last (length p.file - 1))) p true
    else refused (R416 (length p.file)) true)
    else serve_part Whole p true

-- the same answer, but the connection ends with it or goes on, as `close` says
abbrev pub ending : Bool → Response → Response
ending close s = record s { close = close }

-- what is answered to a client that checks whether the file has this ETag
abbrev pub response_to_check : Option Publication → List ℕ → Response
response_to_check None tag = refused R404 true
response_to_check (Some p) tag =
    if bytes_eq tag p.tag then with_tag p (R304 p.tag) true [] else with_tag p (R200 p.tag (length p.file)) true []
