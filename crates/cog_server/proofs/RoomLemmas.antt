-- How long the head of an answer is at most.
use Rattle.std.proofs.Common.{◌≡◌, ℕ, ◌+◌, ◌-◌, ◌^◌, ◌<◌, ◌≤◌, Bool, true, false, cond, List, [], ◌∷◌, ◌++◌, length, Option, Some, None, codes, decimal, sym, ap, ◌∙◌, subst, arith, length-append}
use Rattle.std.specs.Prelude.{IfSome}
use Rattle.std.specs.List.{flat_map}
use Rattle.std.specs.Str.{bytes_eq}
use Rattle.std.proofs.lemmas.Bool.{and_parts, leb-true}
use Rattle.std.proofs.lemmas.Fmt.{length-decimal-le}
use Rattle.std.proofs.lemmas.List.Concat.{flat_map-append}
use Rattle.http_fields.specs.Tag.{is_kept_tag}
use Rattle.http_fields.specs.Text.{FieldLine, closing, head_with, line}
use Rattle.http_range.specs.declared.reply.Reply.{Reply}
use Rattle.http_range.specs.declared.reply.Reply.TheVariants.{R200, R206, R304, R400, R404, R405, R412, R416}
use Rattle.http_range.specs.Laws.{AnswersAreSent}
use Rattle.http_range.specs.Reply.{IsSent, content_length, content_range, fields_of, file_fields, status_line}
use Rattle.http_range.specs.Response.{Response, answer_by}
use Rattle.cog_server.specs.declared.limits.TheConstants.{HEAD_ROOM, ORIGIN_LIMIT}
use Rattle.cog_server.specs.Additions.{AddedState, Sent, announced, answers_preflight, asks_first, exposing_fields, origin_fields, preflight_fields, sent_preflight, sent_with}
use Rattle.cog_server.specs.Limits.{HeadsHaveRoom}

-- ---- lines

tag_short : (tag : List ℕ) → is_kept_tag tag ≡ true → length tag ≤ 64
tag_short tag is = leb-true _ _ (and_parts _ _ is).1

line_long : (name value : List ℕ) → length (line (name, value)) ≡ length name + length value + 4
unfolding line
line_long name value = omega (arith, length-append {A = ℕ})

abbrev lines : List FieldLine → ℕ
lines fields = length (flat_map line fields)

more_long : (field : FieldLine) (fields : List FieldLine) → lines (field ∷ fields) ≡ length field.0 + length field.1 + 4 + lines fields
more_long (name, value) fields = length-append (line (name, value)) (flat_map line fields) ∙ ap (λ k. k + lines fields) (line_long name value)

both_long : (some more : List FieldLine) → lines (some ++ more) ≡ lines some + lines more
both_long some more = ap length (flat_map-append line some more) ∙ length-append (flat_map line some) (flat_map line more)

head_long : (first : List ℕ) (fields : List FieldLine) → length (head_with first fields) ≡ length first + lines fields + 4
head_long first fields = simp length-append (omega arith)

-- ---- fields

digits_short : (n : ℕ) → n < 2 ^ 64 → length (decimal n) ≤ 20
digits_short n small = length-decimal-le 20 n (omega arith) (omega arith) small

range_short : (first last size : ℕ) → first < 2 ^ 64 → last < 2 ^ 64 → size < 2 ^ 64 → length (content_range first last size) ≤ 68
unfolding content_range
range_short first last size a b c = simp length-append (omega (arith, digits_short first a, digits_short last b, digits_short size c))

unsatisfied_short : (size : ℕ) → size < 2 ^ 64 → length (codes "bytes */" ++ decimal size) ≤ 28
unsatisfied_short size small = simp length-append (omega (arith, digits_short size small))

closing_short : (close : Bool) → lines (closing close) ≤ 19
closing_short false = omega arith
closing_short true = omega (arith, more_long (codes "Connection", codes "close") [])

length_short : (n : ℕ) → n < 2 ^ 64 → lines (content_length n ∷ []) ≤ 38
length_short n small = omega (arith, more_long (content_length n) [], digits_short n small)

file_short : (tag : List ℕ) → is_kept_tag tag ≡ true → lines (file_fields tag) ≤ 120
file_short tag kept =
    let type : FieldLine = (codes "Content-Type", codes "image/tiff") in
    let accepts : FieldLine = (codes "Accept-Ranges", codes "bytes") in
    omega (arith, tag_short tag kept, more_long (codes "ETag", tag) (accepts ∷ type ∷ []), more_long accepts (type ∷ []), more_long type [])

-- an answer's own lines
abbrev own : Reply → ℕ
own reply = length (status_line reply) + lines (fields_of reply)

own_short : (reply : Reply) → IsSent reply → own reply ≤ 300
own_short (R200 tag n) sent =
    omega (arith, both_long (file_fields tag) (content_length n ∷ []), file_short tag sent.0, length_short n sent.1)
own_short (R206 tag a b n) sent =
    let size : List FieldLine = content_length (b - a + 1) ∷ [] in
    let range : FieldLine = (codes "Content-Range", content_range a b n) in
    let ab = sent.1 in
    let bn = sent.2 in
    let small = sent.3 in
    omega (
      arith,
      both_long (file_fields tag) (range ∷ size),
      file_short tag sent.0,
      more_long range size,
      range_short a b n (omega arith) (omega arith) small,
      length_short (b - a + 1) (omega arith),
    )
own_short (R304 tag) sent = omega (arith, tag_short tag sent, more_long (codes "ETag", tag) [])
own_short R400 sent = omega (arith, length_short 0 (omega arith))
own_short R404 sent = omega (arith, length_short 0 (omega arith))
own_short R405 sent = omega (arith, more_long (codes "Allow", codes "GET, HEAD") (content_length 0 ∷ []), length_short 0 (omega arith))
own_short R412 sent = omega (arith, length_short 0 (omega arith))
own_short (R416 n) sent =
    let range : FieldLine = (codes "Content-Range", codes "bytes */" ++ decimal n) in
    omega (arith, more_long range (content_length 0 ∷ []), unsatisfied_short n sent, length_short 0 (omega arith))

exposing_short : lines exposing_fields ≤ 83
exposing_short =
    omega (arith, more_long (codes "Access-Control-Expose-Headers", codes "ETag, Content-Range, Content-Length, Accept-Ranges") [])

varying_short : (is_any : Bool) → lines (cond is_any exposing_fields ((codes "Vary", codes "Origin") ∷ exposing_fields)) ≤ 97
varying_short true = omega (arith, exposing_short)
varying_short false = omega (arith, exposing_short, more_long (codes "Vary", codes "Origin") exposing_fields)

origin_short : (o : Option (List ℕ)) → IfSome o (λ origin. length origin ≤ ORIGIN_LIMIT) → lines (origin_fields o) ≤ 383
origin_short None small = omega arith
origin_short (Some origin) small =
    let is_any = bytes_eq origin (codes "*") in
    let more : List FieldLine = cond is_any exposing_fields ((codes "Vary", codes "Origin") ∷ exposing_fields) in
    omega (arith, small, more_long (codes "Access-Control-Allow-Origin", origin) more, varying_short is_any)

preflight_short : lines preflight_fields ≤ 144
preflight_short =
    let headers : FieldLine = (codes "Access-Control-Allow-Headers", codes "Range, If-Range, If-Match, If-None-Match") in
    let age : FieldLine = (codes "Access-Control-Max-Age", codes "86400") in
    omega (arith, more_long (codes "Access-Control-Allow-Methods", codes "GET, HEAD") (headers ∷ age ∷ []), more_long headers (age ∷ []), more_long age [])

-- ---- heads

-- what follows an answer's own lines
end_short : (o : Option (List ℕ)) (close : Bool) → IfSome o (λ origin. length origin ≤ ORIGIN_LIMIT) → lines (origin_fields o ++ closing close) ≤ 402
end_short o close small = omega (arith, both_long (origin_fields o) (closing close), origin_short o small, closing_short close)

-- no more bytes than the body and the room for a head
abbrev HasRoom : Sent → Type 0
HasRoom sent = length sent.text ≤ HEAD_ROOM + length sent.response.body

module _ (added : AddedState) (n : ℕ) (small : IfSome added.origin (λ origin. length origin ≤ ORIGIN_LIMIT)) (r : Response) (sendable : IsSent r.reply) where
  abbrev close : Bool
  close = (announced added n r).close

  abbrev end : List FieldLine
  end = origin_fields added.origin ++ closing close

  answer_room : HasRoom (sent_with (origin_fields added.origin) (announced added n r))
  answer_room =
      let head = head_with (status_line r.reply) (fields_of r.reply ++ end) in
      omega (
        arith,
        length-append head r.body,
        head_long (status_line r.reply) (fields_of r.reply ++ end),
        both_long (fields_of r.reply) end,
        own_short r.reply sendable,
        end_short added.origin close small,
      )

  preflight_room : HasRoom (sent_preflight (origin_fields added.origin) (announced added n r))
  preflight_room =
      omega (
        arith,
        head_long (codes "HTTP/1.1 204 No Content") (preflight_fields ++ end),
        both_long preflight_fields end,
        preflight_short,
        end_short added.origin close small,
      )

  one_room : (is_preflight : Bool)
      → HasRoom (cond is_preflight (sent_preflight (origin_fields added.origin) (announced added n r)) (sent_with (origin_fields added.origin) (announced added n r)))
  one_room true = preflight_room
  one_room false = answer_room

pub heads_have_room : AnswersAreSent → HeadsHaveRoom
heads_have_room are_sent service n message sent lawful small is =
    let r = answer_by service.catalogue is.seen in
    subst HasRoom (sym is.is) (one_room service.added n small r (are_sent service.catalogue is.seen lawful) (answers_preflight service.added (asks_first is.seen) r))
