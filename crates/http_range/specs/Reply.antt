-- What a server answers, and the head of this answer (RFC 9110, sections 8.8.3, 14.4 and 15; RFC 9112, section 4).
use Rattle.std.specs.Prelude.{ℕ, ◌+◌, ◌-◌, ◌<◌, ◌≤◌, ◌^◌, IsTrue, Bool, List, [], ◌∷◌, ◌++◌, slice_range, codes, decimal, ⊤}
use Rattle.std.specs.Str.Parse.{digits_value}
use Rattle.http_range.specs.declared.reply.Reply.{Reply}
use Rattle.http_range.specs.declared.reply.Reply.TheVariants.{R200, R206, R304, R400, R404, R405, R412, R416}
use Rattle.http_fields.specs.Tag.{is_kept_tag}
use Rattle.http_fields.specs.Text.{FieldLine, head_with, closing}

-- a reply that a server sends: its ETag is one that is kept, its positions lie within the file, and its numbers are below 2^64
abbrev pub IsSent : Reply → Type 0
IsSent (R200 tag length) = IsTrue (is_kept_tag tag) × (length < 2 ^ 64)
IsSent (R206 tag first last length) = IsTrue (is_kept_tag tag) × (first ≤ last) × (last < length) × (length < 2 ^ 64)
IsSent (R304 tag) = IsTrue (is_kept_tag tag)
IsSent R400 = ⊤
IsSent R404 = ⊤
IsSent R405 = ⊤
IsSent R412 = ⊤
IsSent (R416 length) = length < 2 ^ 64

abbrev pub status_line : Reply → List ℕ
status_line (R200 tag length) = codes "HTTP/1.1 200 OK"
status_line (R206 tag first last length) = codes "HTTP/1.1 206 Partial Content"
status_line (R304 tag) = codes "HTTP/1.1 304 Not Modified"
status_line R400 = codes "HTTP/1.1 400 Bad Request"
status_line R404 = codes "HTTP/1.1 404 Not Found"
status_line R405 = codes "HTTP/1.1 405 Method Not Allowed"
status_line R412 = codes "HTTP/1.1 412 Precondition Failed"
status_line (R416 length) = codes "HTTP/1.1 416 Range Not Satisfiable"

-- the status code: the number of the three digits in the status line
abbrev pub status_of : Reply → ℕ
status_of reply = digits_value 10 (slice_range (status_line reply) 9 12)

-- `bytes A-B/L`
unfoldable pub content_range : ℕ → ℕ → ℕ → List ℕ
content_range first last length = codes "bytes " ++ decimal first ++ codes "-" ++ decimal last ++ codes "/" ++ decimal length

abbrev pub content_length : ℕ → FieldLine
content_length length = (codes "Content-Length", decimal length)

-- the fields that say what the file is; the first of them is the ETag (section 8.8.3)
abbrev pub file_fields : List ℕ → List FieldLine
file_fields tag =
    (codes "ETag", tag) ∷ (codes "Accept-Ranges", codes "bytes") ∷ (codes "Content-Type", codes "image/tiff") ∷ []

abbrev pub fields_of : Reply → List FieldLine
fields_of (R200 tag length) = file_fields tag ++ content_length length ∷ []
fields_of (R206 tag first last length) =
    file_fields tag ++ (codes "Content-Range", content_range first last length) ∷ content_length (last - first + 1) ∷ []
fields_of (R304 tag) = (codes "ETag", tag) ∷ []
fields_of R405 = (codes "Allow", codes "GET, HEAD") ∷ content_length 0 ∷ []
fields_of (R416 length) = (codes "Content-Range", codes "bytes */" ++ decimal length) ∷ content_length 0 ∷ []
fields_of reply = content_length 0 ∷ []

-- the head of an answer
abbrev pub head_text : Reply → Bool → List ℕ
head_text reply close = head_with (status_line reply) (fields_of reply ++ closing close)
