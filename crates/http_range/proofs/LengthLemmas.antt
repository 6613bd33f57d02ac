-- How many bytes a client's request and its check have at most.
use Rattle.std.proofs.Common.{◌≡◌, ℕ, ◌+◌, ◌^◌, ◌<◌, ◌≤◌, Bool, true, false, List, [], ◌∷◌, ◌++◌, length, Option, Some, None, codes, ap, ◌∙◌, arith, length-append}
use Rattle.std.specs.Prelude.{IfSome}
use Rattle.std.specs.List.{flat_map}
use Rattle.std.proofs.lemmas.Bool.{and_parts, leb-true}
use Rattle.std.proofs.lemmas.Fmt.{length-decimal-le}
use Rattle.std.proofs.lemmas.List.Concat.{flat_map-append}
use Rattle.http_fields.specs.Names.{is_host, is_name}
use Rattle.http_fields.specs.Tag.{is_kept_tag}
use Rattle.http_fields.specs.Target.{is_authority_text, is_target}
use Rattle.http_fields.specs.Text.{FieldLine, closing, head_with, line}
use Rattle.http_range.specs.Ask.{CanAsk, CanCheck, check_fields, check_text, check_with, if_range, range_value, request_by, request_fields, request_line, request_with}
use Rattle.http_range.specs.Laws.{RequestsAreShort}

host_short : (host : List ℕ) → is_host host ≡ true → length host ≤ 64
host_short host is = leb-true _ _ (and_parts _ _ (and_parts _ _ is).0).1

name_short : (name : List ℕ) → is_name name ≡ true → length name ≤ 200
name_short name is = leb-true _ _ (and_parts _ _ (and_parts _ _ is).0).1

authority_short : (host : List ℕ) → is_authority_text host ≡ true → length host ≤ 255
authority_short host is = leb-true _ _ (and_parts _ _ (and_parts _ _ is).0).1

target_short : (name : List ℕ) → is_target (47 ∷ name) ≡ true → length name ≤ 2047
target_short name is =
    let long : length (47 ∷ name) ≤ 2048 = leb-true _ _ (and_parts _ _ (and_parts _ _ (and_parts _ _ is).0).0).0 in omega arith

tag_short : (tag : List ℕ) → is_kept_tag tag ≡ true → length tag ≤ 64
tag_short tag is = leb-true _ _ (and_parts _ _ is).1

line_long : (name value : List ℕ) → length (line (name, value)) ≡ length name + length value + 4
unfolding line
line_long name value = omega (arith, length-append {A = ℕ})

range_short : (first last : ℕ) → first < 2 ^ 64 → last < 2 ^ 64 → length (range_value first last) ≤ 47
unfolding range_value
range_short first last small large =
    simp length-append (omega (arith, length-decimal-le 20 first (omega arith) (omega arith) small, length-decimal-le 20 last (omega arith) (omega arith) large))

more_long : (field : FieldLine) (fields : List FieldLine) → length (flat_map line (field ∷ fields)) ≡ length (line field) + length (flat_map line fields)
more_long field fields = length-append (line field) (flat_map line fields)

first_long : (method name : List ℕ) → length (request_line method name) ≡ length method + length name + 11
first_long method name = simp length-append (omega arith)

head_long : (first : List ℕ) (fields : List FieldLine) → length (head_with first fields) ≡ length first + length (flat_map line fields) + 4
head_long first fields = simp length-append (omega arith)

condition_short : (tag : Option (List ℕ)) → IfSome tag (λ t. is_kept_tag t ≡ true) → length (flat_map line (if_range tag)) ≤ 76
condition_short None kept = omega arith
condition_short (Some tag) kept = omega (arith, length-append (line (codes "If-Range", tag)) [], line_long (codes "If-Range") tag, tag_short tag kept)

closing_short : (close : Bool) → length (flat_map line (closing close)) ≤ 21
closing_short false = omega arith
closing_short true = omega (arith, length-append (line (codes "Connection", codes "close")) [], line_long (codes "Connection") (codes "close"))

both_long : (xs ys : List FieldLine) → length (flat_map line (xs ++ ys)) ≡ length (flat_map line xs) + length (flat_map line ys)
both_long xs ys = ap length (flat_map-append line xs ys) ∙ length-append (flat_map line xs) (flat_map line ys)

-- a request has little beside host, name and the lines that are added
request_long : (close : Bool) (host name : List ℕ) (extra : List FieldLine) (first last : ℕ) (tag : Option (List ℕ)) → CanAsk host name extra first last tag
    → length (request_with close host name extra first last tag) ≤ length host + length name + length (flat_map line extra) + 200
request_long close host name extra first last tag can =
    let range = range_value first last in
    let rest = if_range tag ++ (extra ++ closing close) in
    omega (
      arith,
      head_long (request_line (codes "GET") name) (request_fields close host extra first last tag),
      first_long (codes "GET") name,
      more_long (codes "Host", host) ((codes "Range", range) ∷ rest),
      more_long (codes "Range", range) rest,
      both_long (if_range tag) (extra ++ closing close),
      both_long extra (closing close),
      line_long (codes "Host") host,
      line_long (codes "Range") range,
      range_short first last can.from_first can.to_last,
      condition_short tag can.kept,
      closing_short close,
    )

-- so has a check
check_long : (host name : List ℕ) (extra : List FieldLine) (tag : List ℕ) → CanCheck host name extra tag
    → length (check_with host name extra tag) ≤ length host + length name + length (flat_map line extra) + 200
check_long host name extra tag can =
    let rest = extra ++ closing true in
    omega (
      arith,
      head_long (request_line (codes "HEAD") name) (check_fields host extra tag),
      first_long (codes "HEAD") name,
      more_long (codes "Host", host) ((codes "If-None-Match", tag) ∷ rest),
      more_long (codes "If-None-Match", tag) rest,
      both_long extra (closing true),
      line_long (codes "Host") host,
      line_long (codes "If-None-Match") tag,
      tag_short tag can.kept,
      closing_short true,
    )

pub asked_short : (close : Bool) (host name : List ℕ) (extra : List FieldLine) (first last : ℕ) (tag : Option (List ℕ)) → CanAsk host name extra first last tag
    → length (request_with close host name extra first last tag) ≤ 4096
asked_short close host name extra first last tag can =
    let host_is = authority_short host can.to_host in
    let name_is = target_short name can.of_name in
    let extra_is : length (flat_map line extra) ≤ 1024 = can.adds.short in
    let long = request_long close host name extra first last tag can in
    omega arith

pub checked_short : (host name : List ℕ) (extra : List FieldLine) (tag : List ℕ) → CanCheck host name extra tag
    → length (check_with host name extra tag) ≤ 4096
checked_short host name extra tag can =
    let host_is = authority_short host can.to_host in
    let name_is = target_short name can.of_name in
    let extra_is : length (flat_map line extra) ≤ 1024 = can.adds.short in
    let long = check_long host name extra tag can in
    omega arith

plain_short : (close : Bool) (host name : List ℕ) (first last : ℕ) (tag : Option (List ℕ)) → is_host host ≡ true → is_name name ≡ true
    → CanAsk host name [] first last tag → length (request_by close host name first last tag) ≤ 1024
plain_short close host name first last tag hosted named can =
    let host_is = host_short host hosted in
    let name_is = name_short name named in
    let long = request_long close host name [] first last tag can in
    omega arith

plain_check_short : (host name tag : List ℕ) → is_host host ≡ true → is_name name ≡ true → CanCheck host name [] tag
    → length (check_text host name tag) ≤ 1024
plain_check_short host name tag hosted named can =
    let host_is = host_short host hosted in
    let name_is = name_short name named in
    let long = check_long host name [] tag can in
    omega arith

pub requests_are_short : RequestsAreShort
requests_are_short = record { asked = asked_short; checked = checked_short; plain = plain_short; plain_check = plain_check_short }
