-- Worked rows of the definitions.
use Rattle.std.specs.Prelude.{◌≡◌, ℕ, Bool, true, false, List, [], ◌∷◌, ◌++◌, length, codes, replicate, Option, Some, None, Ok, Err, ⊤}
use Rattle.http_range.specs.declared.range.Resolved.{Resolved}
use Rattle.http_range.specs.declared.range.Resolved.TheVariants.{Whole, Part, Unsatisfiable}
use Rattle.http_range.specs.declared.reply.Reply.{Reply}
use Rattle.http_range.specs.declared.reply.Reply.TheVariants.{R200, R206, R304, R400, R404, R405, R412, R416}
use Rattle.http_range.specs.Text.{FieldLine}
use Rattle.http_range.specs.Range.{part}
use Rattle.http_range.specs.Reply.{head_text}
use Rattle.http_range.specs.Ask.{request_by}
use Rattle.http_range.specs.declared.reading.Why.TheVariants.{Cut, Status, NoRange, NoLength}
use Rattle.http_range.specs.Head.{SeenHead}
use Rattle.http_range.specs.Announced.{Announced, body_behind}
use Rattle.http_range.specs.Reading.{announced_of, front_announced}
use Rattle.http_range.specs.Seen.{SeenRequest}
use Rattle.http_range.specs.Book.{Catalogue, publication_tag}
use Rattle.http_range.specs.Response.{Response, answer_by}
use Rattle.http_range.specs.Stream.{IsFirstMessage, IsUnfinished, IsAnswered, ending_of}
use Rattle.http_range.specs.Stream.Ending.{Closed, Limit, EndOfInput}

-- ---- parts

-- A row has a value of Range, the length of a content, and the part that the value names in it.
abbrev pub PartRow : Type 0
PartRow = List ℕ × ℕ × Resolved

abbrev pub AreParts : List PartRow → Type 0
AreParts [] = ⊤
AreParts (row ∷ rows) = (part row.0 row.1 ≡ row.2) × AreParts rows

abbrev pub nines : ℕ → List ℕ
nines n = replicate n 57

abbrev pub part_rows : List PartRow
part_rows =
    (codes "bytes=0-", 1, Part 0 0)
    ∷ (codes "bytes=00-01", 378, Part 0 1)
    ∷ (codes "bytes=1-1", 1, Unsatisfiable)
    ∷ (codes "bytes=-00", 378, Unsatisfiable)
    ∷ (codes "bytes=5-4", 3, Whole)
    ∷ (codes "bytes=", 378, Whole)
    ∷ (codes "bytes=-", 378, Whole)
    ∷ (codes "bytes= 0-1", 378, Whole)
    ∷ (codes "bytes=+1-2", 378, Whole)
    ∷ (codes "bytes=0-1,", 378, Whole)
    ∷ (codes "bytes=378-", 378, Unsatisfiable)
    ∷ (codes "bytes=377-", 378, Part 377 377)
    ∷ (codes "bytes=-0", 378, Unsatisfiable)
    ∷ (codes "bytes=-1000", 378, Part 0 377)
    ∷ (codes "BYTES=0-0", 378, Part 0 0)
    ∷ (codes "bytes=0-" ++ nines 30, 378, Part 0 377)
    ∷ (codes "bytes=" ++ nines 30 ++ codes "-" ++ nines 29, 378, Whole)
    ∷ (codes "bytes=" ++ nines 29 ++ codes "-" ++ nines 30, 378, Unsatisfiable)
    ∷ (codes "bytes=5-4", 378, Whole)
    ∷ (codes "bytes=0-0,5-6", 378, Whole)
    ∷ (codes "lines=0-1", 378, Whole)
    ∷ (codes "bytes=-7", 378, Part 371 377)
    ∷ (codes "bytes=-7", 5, Part 0 4)
    ∷ (codes "bytes=9-10", 10, Part 9 9)
    ∷ (codes "bytes=9-10", 9, Unsatisfiable)
    ∷ (codes "bytes=9-10", 11, Part 9 10)
    ∷ []

-- ---- texts

abbrev pub tag_1 : List ℕ
tag_1 = codes "\"1-1\""

pub record TextRows : Type 0 where
  pub tag : publication_tag 1 1 ≡ tag_1
  pub first_request : request_by true (codes "cog.test") (codes "a") 0 65535 None
      ≡ codes "GET /a HTTP/1.1\r\nHost: cog.test\r\nRange: bytes=0-65535\r\nConnection: close\r\n\r\n"
  pub first_length : length (request_by true (codes "cog.test") (codes "a") 0 65535 None) ≡ 76
  pub second_request : request_by true (codes "cog.test") (codes "a") 65536 67705 (Some tag_1)
      ≡ codes "GET /a HTTP/1.1\r\nHost: cog.test\r\nRange: bytes=65536-67705\r\nIf-Range: \"1-1\"\r\nConnection: close\r\n\r\n"
  pub second_length : length (request_by true (codes "cog.test") (codes "a") 65536 67705 (Some tag_1)) ≡ 97
  pub head : head_text (R206 tag_1 0 65535 67706) true
      ≡ codes "HTTP/1.1 206 Partial Content\r\nETag: \"1-1\"\r\nAccept-Ranges: bytes\r\nContent-Type: image/tiff\r\n"
      ++ codes "Content-Range: bytes 0-65535/67706\r\nContent-Length: 65536\r\nConnection: close\r\n\r\n"
  pub head_length : length (head_text (R206 tag_1 0 65535 67706) true) ≡ 171
  pub whole : head_text (R200 tag_1 378) false
      ≡ codes "HTTP/1.1 200 OK\r\nETag: \"1-1\"\r\nAccept-Ranges: bytes\r\nContent-Type: image/tiff\r\n"
      ++ codes "Content-Length: 378\r\n\r\n"
  pub bad : head_text R400 true ≡ codes "HTTP/1.1 400 Bad Request\r\nContent-Length: 0\r\nConnection: close\r\n\r\n"
  pub unknown : head_text R404 false ≡ codes "HTTP/1.1 404 Not Found\r\nContent-Length: 0\r\n\r\n"
  pub method : head_text R405 false ≡ codes "HTTP/1.1 405 Method Not Allowed\r\nAllow: GET, HEAD\r\nContent-Length: 0\r\n\r\n"
  pub failed : head_text R412 false ≡ codes "HTTP/1.1 412 Precondition Failed\r\nContent-Length: 0\r\n\r\n"
  pub not_modified : head_text (R304 tag_1) true ≡ codes "HTTP/1.1 304 Not Modified\r\nETag: \"1-1\"\r\nConnection: close\r\n\r\n"
  pub not_modified_length : length (head_text (R304 tag_1) true) ≡ 61
  pub unsatisfiable : head_text (R416 378) false
      ≡ codes "HTTP/1.1 416 Range Not Satisfiable\r\nContent-Range: bytes */378\r\nContent-Length: 0\r\n\r\n"

-- ---- what heads announce

-- The lines of a part that covers these positions.
abbrev pub part_lines : List ℕ → List ℕ → List FieldLine
part_lines range length =
    (codes "etag", tag_1) ∷ (codes "Content-Range", range) ∷ (codes "Content-Length", length) ∷ []

abbrev pub part_head : List ℕ → List ℕ → SeenHead
part_head range length = record { status = 206; minor = 1; fields = part_lines range length; size = 171 }

-- The bytes 5 to 7 of a file of 9.
abbrev pub three_of_nine : Announced
three_of_nine = record { tag = tag_1; whole = false; first = 5; complete = 9; length = 3; size = 171 }

pub record HeadRows : Type 0 where
  pub part : announced_of (part_head (codes "bytes 5-7/9") (codes "3")) ≡ Ok three_of_nine
  pub no_range : announced_of (part_head (codes "bytes */9") (codes "3")) ≡ Err NoRange
  pub no_length : announced_of (part_head (codes "bytes 5-7/9") (codes "4")) ≡ Err NoLength
  pub whole : announced_of (record { status = 200; minor = 1; fields = part_lines (codes "bytes */9") (codes "4"); size = 80 })
      ≡ Ok (record { tag = tag_1; whole = true; first = 0; complete = 4; length = 4; size = 80 })
  pub status : announced_of (record { status = 304; minor = 1; fields = []; size = 61 }) ≡ Err (Status 304)
  -- The body is what follows the head: none of it, some, or all. Bytes after that are passed over.
  pub none : body_behind three_of_nine (replicate 171 7) ≡ []
  pub some : body_behind three_of_nine (replicate 171 7 ++ 1 ∷ 2 ∷ []) ≡ 1 ∷ 2 ∷ []
  pub all : body_behind three_of_nine (replicate 171 7 ++ 1 ∷ 2 ∷ 3 ∷ 4 ∷ []) ≡ 1 ∷ 2 ∷ 3 ∷ []
  -- A front of the first answer is cut in its head, or has all of it.
  pub cut : front_announced (R206 tag_1 0 65535 67706) true 170 ≡ Err Cut
  pub there : front_announced (R206 tag_1 0 65535 67706) true 171
      ≡ Ok (record { tag = tag_1; whole = false; first = 0; complete = 67706; length = 65536; size = 171 })

-- ---- messages of a stream

abbrev pub get_a : List ℕ
get_a = codes "GET /a HTTP/1.1\r\nHost: h\r\n\r\n"

pub record MessageRows : Type 0 where
  pub first_of_two : IsFirstMessage (get_a ++ get_a) get_a
  pub cut : IsUnfinished (codes "GET /a HTTP/1.1\r\nHost: h\r\n\r")
  pub bare_feeds : IsFirstMessage (codes "GET\n\nGET") (codes "GET\n\n")
  pub blank_lines_first : IsFirstMessage (codes "\r\n\n\r\nGET\r\n\r\n") (codes "\r\n\n\r\nGET\r\n\r\n")
  pub blank_lines_alone : IsUnfinished (codes "\r\n\r\n\n")

-- ---- the server's cases

-- A server has these 378 bytes under `a`, with the tag `"1-1"`.
abbrev pub file_1 : List ℕ
file_1 = 73 ∷ replicate 376 7 ++ 255 ∷ []

abbrev pub shelf : Catalogue
shelf = record { name = codes "a"; tag = tag_1; file = file_1 } ∷ []

abbrev pub CaseRow : Type 0
CaseRow = Option SeenRequest × Response

abbrev pub AreCases : List CaseRow → Type 0
AreCases [] = ⊤
AreCases (row ∷ rows) = (answer_by shelf row.0 ≡ row.1) × AreCases rows

abbrev pub host : FieldLine
host = (codes "hOST", codes "h")

abbrev pub range : FieldLine
range = (codes "range", codes "bytes=0-0")

-- A request of HTTP/1.1 with these fields.
abbrev pub asks : List ℕ → List ℕ → List FieldLine → Option SeenRequest
asks method target fields = Some (record { method = method; target = target; minor = 1; fields = fields })

abbrev pub gets : List FieldLine → Option SeenRequest
gets fields = asks (codes "GET") (codes "/a") (host ∷ fields)

abbrev pub gets_range : List FieldLine → Option SeenRequest
gets_range fields = gets (range ∷ fields)

-- An answer without a tag, which closes or doesn't.
abbrev pub plain : Reply → Bool → Response
plain reply close = record { reply = reply; close = close; name = None; body = [] }

-- An answer that carries the tag.
abbrev pub with_tag : Reply → Bool → List ℕ → Response
with_tag reply close body = record { reply = reply; close = close; name = Some (codes "a"); body = body }

abbrev pub whole_file : Response
whole_file = with_tag (R200 tag_1 378) false file_1

abbrev pub if_range_is : List ℕ → FieldLine
if_range_is value = (codes "If-Range", value)

abbrev pub if_none_match : List ℕ → FieldLine
if_none_match value = (codes "If-None-Match", value)

abbrev pub if_match : List ℕ → FieldLine
if_match value = (codes "If-Match", value)

-- The client has the file already.
abbrev pub not_modified : Response
not_modified = with_tag (R304 tag_1) false []

abbrev pub condition_rows : List CaseRow
condition_rows =
    (gets (if_none_match tag_1 ∷ []), not_modified)
    ∷ (gets (if_none_match (codes "W/\"1-1\"") ∷ []), not_modified)
    ∷ (gets (if_none_match (codes "\"x,y\", \"1-1\"") ∷ []), not_modified)
    ∷ (gets (if_none_match (codes "*") ∷ []), not_modified)
    ∷ (gets (if_none_match (codes ", \t,\"1-1\"\t,") ∷ []), not_modified)
    ∷ (gets (if_none_match (codes "\"1-2\"") ∷ if_none_match tag_1 ∷ []), not_modified)
    ∷ (gets_range (if_none_match tag_1 ∷ []), not_modified)
    ∷ (asks (codes "HEAD") (codes "/a") (host ∷ if_none_match tag_1 ∷ []), not_modified)
    ∷ (gets (if_none_match tag_1 ∷ (codes "Connection", codes "close") ∷ []), with_tag (R304 tag_1) true [])
    ∷ (gets (if_none_match (codes "\"1-2\"") ∷ []), whole_file)
    ∷ (gets (if_none_match (codes "\"1-1\", x") ∷ []), whole_file)
    ∷ (gets (if_none_match (codes "\"1-1\" \"1-1\"") ∷ []), whole_file)
    ∷ (gets (if_none_match (codes "*, \"1-1\"") ∷ []), whole_file)
    ∷ (gets (if_none_match (codes "\"x,\"1-1\"\"") ∷ []), whole_file)
    ∷ (gets (if_none_match [] ∷ []), whole_file)
    ∷ (gets_range (if_match tag_1 ∷ []), with_tag (R206 tag_1 0 0 378) false (73 ∷ []))
    ∷ (gets (if_match (codes "*") ∷ []), whole_file)
    ∷ (gets (if_match (codes "W/\"1-1\"") ∷ []), plain R412 false)
    ∷ (gets (if_match [] ∷ []), plain R412 false)
    ∷ (gets (if_match (codes "\"1-2\"") ∷ if_none_match tag_1 ∷ []), plain R412 false)
    ∷ (asks (codes "HEAD") (codes "/a") (host ∷ if_match (codes "\"1-2\"") ∷ []), plain R412 false)
    ∷ (asks (codes "GET") (codes "/c") (host ∷ if_match (codes "*") ∷ []), plain R404 false)
    ∷ []

abbrev pub case_rows : List CaseRow
case_rows =
    (None, plain R400 true)
    ∷ (Some (record { method = codes "GET"; target = codes "/a"; minor = 0; fields = host ∷ [] }), plain R400 true)
    ∷ (asks (codes "GET") (codes "/a") [], plain R400 true)
    ∷ (asks (codes "GET") (codes "/a") (host ∷ host ∷ []), plain R400 true)
    ∷ (gets ((codes "Content-Length", codes "0") ∷ []), plain R400 true)
    ∷ (gets ((codes "Transfer-Encoding", codes "chunked") ∷ []), plain R400 true)
    ∷ (asks (codes "DELETE") (codes "/a") (host ∷ []), plain R405 false)
    ∷ (asks (codes "get") (codes "/a") (host ∷ []), plain R405 false)
    ∷ (asks (codes "GET") (codes "http://h/a") (host ∷ []), plain R400 true)
    ∷ (asks (codes "DELETE") (codes "http://h/a") (host ∷ []), plain R405 false)
    ∷ (asks (codes "GET") (codes "/b") (host ∷ []), plain R404 false)
    ∷ (asks (codes "GET") (codes "/a?x") (host ∷ []), plain R404 false)
    ∷ (asks (codes "HEAD") (codes "/a") (host ∷ range ∷ []), with_tag (R200 tag_1 378) false [])
    ∷ (asks (codes "HEAD") (codes "/a") (host ∷ (codes "Range", codes "bytes=378-") ∷ []), with_tag (R200 tag_1 378) false [])
    ∷ (gets_range [], with_tag (R206 tag_1 0 0 378) false (73 ∷ []))
    ∷ (gets ((codes "Range", codes "bytes=377-") ∷ []), with_tag (R206 tag_1 377 377 378) false (255 ∷ []))
    ∷ (gets ((codes "Range", codes "bytes=378-") ∷ []), plain (R416 378) false)
    ∷ (gets ((codes "Range", codes "bytes=-0") ∷ []), plain (R416 378) false)
    ∷ (gets ((codes "Range", codes "bytes=5-4") ∷ []), whole_file)
    ∷ (gets_range (range ∷ []), whole_file)
    ∷ (gets_range (if_range_is (codes "W/\"1-1\"") ∷ []), whole_file)
    ∷ (gets_range (if_range_is tag_1 ∷ []), with_tag (R206 tag_1 0 0 378) false (73 ∷ []))
    ∷ (gets_range (if_range_is tag_1 ∷ if_range_is tag_1 ∷ []), whole_file)
    ∷ (gets ((codes "Range", codes "bytes=378-") ∷ if_range_is (codes "\"1-2\"") ∷ []), whole_file)
    ∷ (gets (if_range_is tag_1 ∷ []), whole_file)
    ∷ (gets [], whole_file)
    ∷ (gets_range ((codes "connection", codes "te,\t Close ") ∷ []), with_tag (R206 tag_1 0 0 378) true (73 ∷ []))
    ∷ (asks (codes "GET") (codes "/b") (host ∷ (codes "Connection", codes "closed") ∷ []), plain R404 false)
    ∷ (
      asks (codes "PUT") (codes "/b") (host ∷ (codes "Connection", codes "a") ∷ (codes "Connection", codes "close") ∷ []),
      plain R405 true,
    )
    ∷ []

-- ---- streams, from their bytes

abbrev pub get_and_close : List ℕ
get_and_close = codes "GET /a HTTP/1.1\r\nHost: h\r\nConnection: close\r\n\r\n"

abbrev pub whole_and_close : Response
whole_and_close = with_tag (R200 tag_1 378) true file_1

pub record StreamRows : Type 0 where
  -- Two messages, and the beginning of a third.
  pub two : IsAnswered shelf (get_a ++ get_a ++ codes "GET") (whole_file ∷ whole_file ∷ [])
  pub two_end : ending_of (whole_file ∷ whole_file ∷ []) ≡ EndOfInput
  -- What follows an answer that closes isn't answered.
  pub closing : IsAnswered shelf (get_and_close ++ get_a) (whole_and_close ∷ [])
  pub closing_end : ending_of (whole_and_close ∷ []) ≡ Closed
  -- No message at all.
  pub none : IsAnswered shelf [] []
  pub hundred_end : ending_of (replicate 100 whole_file) ≡ Limit
