-- A client's request is a head of the grammar, and is read as what was asked.
use Rattle.std.proofs.Common.{◌≡◌, ℕ, ◌+◌, ◌-◌, ◌^◌, ◌<◌, ◌≤◌, Bool, true, false, List, [], ◌∷◌, ◌++◌, length, map, take, refl, sym, ap, ◌∙◌, arith, append_assoc, append-nil, length-append, codes, subst, Option, Some, None, flat_map}
use Rattle.std.specs.Prelude.{decimal, IfSome}
use Rattle.std.specs.List.{list_all}
use Rattle.std.proofs.Math.Seq.{take-append-add}
use Rattle.std.proofs.lemmas.Bool.{and_parts, ltb-true}
use Rattle.std.proofs.lemmas.List.Elements.{All-append}
use Rattle.std.proofs.lemmas.Fmt.{decimal_nonempty}
use Rattle.std.proofs.lemmas.Str.{IsUtf8-from_ascii}
use Rattle.httparse.specs.Grammar.{AllPass, is_token, is_token_byte, is_value_byte, skip_ows, crlf, RequestHead, IsRequestHead, print_request}
use Rattle.httparse.proofs.GrammarLemmas.{request_unique, print_request-append}
use Rattle.http_fields.specs.Tag.{is_kept_tag}
use Rattle.http_fields.specs.Target.{is_authority_text, is_target}
use Rattle.http_fields.specs.RequestFields.{is_extra}
use Rattle.http_fields.specs.Text.{FieldLine, line, head_with, closing}
use Rattle.http_range.specs.Ask.{CanAsk, request_line, range_value, if_range, request_fields, request_with, asked_request, CanCheck, check_fields, check_with, checked_request}
use Rattle.http_range.specs.Seen.{SeenRequest, IsRequestFront, seen_request, HasRequest}
use Rattle.http_range.specs.Stream.{IsFirstMessage}
use Rattle.http_fields.specs.Plain.{IsPlain, field_of}
use Rattle.http_fields.specs.Laws.{PartsAreRead}
use Rattle.http_range.proofs.TextLemmas.{AreLines, ArePlain, IsShort, are_lines, lines-are, fields-are, seen-are, length-fields}
use Rattle.http_range.proofs.FirstHead.{heads_are_messages}
use Rattle.http_range.proofs.LengthLemmas.{asked_short, checked_short}
use Rattle.http_range.proofs.ReplyLemmas.{token_of, closing_plain, value_literal, length_20, tag_plain}

abbrev head_by : List ℕ → List ℕ → List FieldLine → RequestHead
head_by method name ls = record {
  blank = [];
  method = method;
  target = 47 ∷ name;
  minor = 1;
  line_end = crlf;
  fields = map field_of ls;
  last = crlf;
}

regroup : (m s n v e f c r : List ℕ)
    → (m ++ s ++ n ++ v ++ e ++ f ++ c) ++ r ≡ m ++ (s ++ (n ++ (v ++ (e ++ ((f ++ c) ++ r)))))
regroup m s n v e f c r = simp append_assoc

-- ---- lines

lines-append : (xs ys : List FieldLine) → AreLines xs → AreLines ys → AreLines (xs ++ ys)
lines-append [] ys a b = b
lines-append (x ∷ xs) ys a b = (a.0, lines-append xs ys a.1 b)

range_short : (x y : List ℕ) → length x ≤ 20 → length y ≤ 20
    → length (codes "Range") + length (codes "bytes=" ++ x ++ codes "-" ++ y) ≤ 150
range_short x y hx hy = simp length-append (omega arith)

if_range_few : (tag : Option (List ℕ)) → length (if_range tag) ≤ 1
if_range_few None = omega arith
if_range_few (Some tag) = omega arith

-- a request whose parts are plain
record IsPlainRequest (method name : List ℕ) (ls : List FieldLine) : Type 0 where
  token : is_token method ≡ true
  named : is_target (47 ∷ name) ≡ true
  plain : AreLines ls
  few : length ls ≤ 20
  short : length (head_with (request_line method name) ls) ≤ 4096

module _ (laws : PartsAreRead) where
  request-append : (method name : List ℕ) (ls : List FieldLine) (rest : List ℕ)
      → head_with (request_line method name) ls ++ rest ≡ print_request (head_by method name ls) ++ rest
  request-append method name ls rest =
      regroup method (codes " /") name (codes " HTTP/1.1") (codes "\r\n") (flat_map line ls) (codes "\r\n") rest
      ∙ ap (λ (t : List ℕ). method ++ (codes " /" ++ (name ++ (codes " HTTP/1.1" ++ (codes "\r\n" ++ ((t ++ codes "\r\n") ++ rest))))))
      (sym (lines-are laws ls))
      ∙ sym (print_request-append (head_by method name ls) rest)

  request-is : (method name : List ℕ) (ls : List FieldLine)
      → head_with (request_line method name) ls ≡ print_request (head_by method name ls)
  request-is method name ls = sym (append-nil _) ∙ request-append method name ls [] ∙ append-nil _

  host_plain : (host : List ℕ) → is_authority_text host ≡ true → IsPlain (codes "Host", host)
  unfolding is_token_byte
  host_plain host h =
      let pass = laws.requests.authority host h in
      let some = ltb-true _ _ (and_parts _ _ (and_parts _ _ h).0).0 in record {
        name = token_of (codes "Host") refl;
        value = laws.values.value host pass;
        front = subst (λ (t : List ℕ). skip_ows t ≡ t) (append-nil host) (laws.values.front host [] pass some);
        back = laws.values.back [] host pass some;
      }

  extra_plain : (ls : List FieldLine) → list_all is_extra ls ≡ true → AreLines ls
  extra_plain [] h = tt
  extra_plain (l ∷ ls) h =
      let parts = and_parts (is_extra l) (list_all is_extra ls) h in (laws.requests.line l parts.0, extra_plain ls parts.1)

  range_plain : (a b : ℕ) → a < 2 ^ 64 → b < 2 ^ 64 → IsShort (codes "Range", range_value a b)
  unfolding is_token_byte range_value
  range_plain a b sa sb =
      let P : ℕ → Type 0 = λ v. is_value_byte v ≡ true in
      let digits : (n : ℕ) → n < 2 ^ 64 → AllPass is_value_byte (decimal n) = λ n small. laws.values.value (decimal n) (laws.decimals.visible n small) in
      let front : List ℕ = codes "bytes=" ++ decimal a ++ codes "-" in record {
        plain = record {
          name = token_of (codes "Range") refl;
          value =
              All-append P front (decimal b)
              (All-append P (codes "bytes=" ++ decimal a) (codes "-")
              (All-append P (codes "bytes=") (decimal a) (value_literal (codes "bytes=") refl) (digits a sa))
              (value_literal (codes "-") refl)) (digits b sb);
          front = refl;
          back = laws.values.back front (decimal b) (laws.decimals.visible b sb) (decimal_nonempty b sb);
        };
        short = range_short (decimal a) (decimal b) (length_20 a sa) (length_20 b sb);
      }

  if_range_plain : (tag : Option (List ℕ)) → IfSome tag (λ t. is_kept_tag t ≡ true) → ArePlain (if_range tag)
  unfolding is_token_byte
  if_range_plain None kept = tt
  if_range_plain (Some tag) kept = (tag_plain laws (codes "If-Range") tag refl (omega arith) kept, tt)

  module _ (method name : List ℕ) (ls : List FieldLine) (is : IsPlainRequest method name ls) where
    abbrev head : RequestHead
    head = head_by method name ls

    abbrev text : List ℕ
    text = head_with (request_line method name) ls

    abbrev seen : SeenRequest
    seen = record { method = method; target = codes "/" ++ name; minor = 1; fields = ls }

    valid : IsRequestHead head
    unfolding is_token_byte
    valid =
        record {
          method = token_of method is.token;
          target = (omega arith, laws.requests.target (47 ∷ name) is.named);
          target_text = IsUtf8-from_ascii (47 ∷ name) (laws.requests.ascii (47 ∷ name) is.named);
          minor = omega arith;
          fields = fields-are laws ls is.plain;
        }

    whole : (bytes more : List ℕ) → bytes ≡ text ++ more → IsRequestFront bytes head
    whole bytes more parts =
        let small = is.short in
        let m = 8192 - length text in
        let e : 8192 ≡ length text + m = omega arith in
        let n = is.few in record {
          rest = take m more;
          reads = (
            valid,
            ap (take 8192) parts ∙ ap (λ (k : ℕ). take k (text ++ more)) e ∙ take-append-add text more m
                ∙ ap (λ (t : List ℕ). t ++ take m more) (request-is method name ls),
          );
          room = omega (arith, length-fields ls);
        }

    plain_first : (more : List ℕ) → IsFirstMessage (text ++ more) text
    plain_first more =
        let small = is.short in
        let same = request-is method name ls in
        subst (λ (t : List ℕ). IsFirstMessage (t ++ more) t) (sym same)
        (heads_are_messages head more valid (omega (arith, small, ap length same)))

    seen_is : seen_request head ≡ seen
    seen_is = λ i. record { method = method; target = 47 ∷ name; minor = 1; fields = seen-are laws ls is.plain i }

    plain_read : (bytes more : List ℕ) → bytes ≡ text ++ more → (r : Option SeenRequest) → HasRequest bytes r → r ≡ Some seen
    plain_read bytes more parts None none = absurd (none head (whole bytes more parts))
    plain_read bytes more parts (Some q) found =
        let same = request_unique (take 8192 bytes) found.0 head _ _ found.1.reads (whole bytes more parts).reads in
        ap Some (found.2 ∙ ap seen_request same.0 ∙ seen_is)

    plain_has : (bytes more : List ℕ) → bytes ≡ text ++ more → HasRequest bytes (Some seen)
    plain_has bytes more parts = (head, whole bytes more parts, sym seen_is)

  -- ---- the client's requests

  closing_few : (close : Bool) → length (closing close) ≤ 1
  closing_few true = omega arith
  closing_few false = omega arith

  asked_plain : (close : Bool) (host name : List ℕ) (extra : List FieldLine) (first last : ℕ) (tag : Option (List ℕ))
      → CanAsk host name extra first last tag → IsPlainRequest (codes "GET") name (request_fields close host extra first last tag)
  unfolding is_token_byte
  asked_plain close host name extra first last tag can = record {
    token = refl;
    named = can.of_name;
    plain = (
      host_plain host can.to_host,
      (
        (range_plain first last can.from_first can.to_last).plain,
        lines-append (if_range tag) (extra ++ closing close) (are_lines (if_range tag) (if_range_plain tag can.kept))
            (lines-append extra (closing close) (extra_plain extra can.adds.each) (are_lines (closing close) (closing_plain close))),
      ),
    );
    few =
        let added : length extra ≤ 16 = can.adds.few in
        omega (arith, length-append (if_range tag) (extra ++ closing close), length-append extra (closing close), if_range_few tag, closing_few close);
    short = asked_short close host name extra first last tag can;
  }

  pub asked_read : (close : Bool) (host name : List ℕ) (extra : List FieldLine) (first last : ℕ) (tag : Option (List ℕ)) (more : List ℕ)
      → CanAsk host name extra first last tag → (bytes : List ℕ) → bytes ≡ request_with close host name extra first last tag ++ more
      → (r : Option SeenRequest) → HasRequest bytes r → r ≡ Some (asked_request close host name extra first last tag)
  asked_read close host name extra first last tag more can bytes is r found =
      plain_read (codes "GET") name (request_fields close host extra first last tag) (asked_plain close host name extra first last tag can) bytes more is r found

  pub asked_has : (close : Bool) (host name : List ℕ) (extra : List FieldLine) (first last : ℕ) (tag : Option (List ℕ)) (more : List ℕ)
      → CanAsk host name extra first last tag → (bytes : List ℕ) → bytes ≡ request_with close host name extra first last tag ++ more
      → HasRequest bytes (Some (asked_request close host name extra first last tag))
  asked_has close host name extra first last tag more can bytes is =
      plain_has (codes "GET") name (request_fields close host extra first last tag) (asked_plain close host name extra first last tag can) bytes more is

  pub asked_first : (close : Bool) (host name : List ℕ) (extra : List FieldLine) (first last : ℕ) (tag : Option (List ℕ)) (more : List ℕ)
      → CanAsk host name extra first last tag
      → IsFirstMessage (request_with close host name extra first last tag ++ more) (request_with close host name extra first last tag)
  asked_first close host name extra first last tag more can =
      plain_first (codes "GET") name (request_fields close host extra first last tag) (asked_plain close host name extra first last tag can) more

  checked_plain : (host name : List ℕ) (extra : List FieldLine) (tag : List ℕ) → CanCheck host name extra tag
      → IsPlainRequest (codes "HEAD") name (check_fields host extra tag)
  unfolding is_token_byte
  checked_plain host name extra tag can = record {
    token = refl;
    named = can.of_name;
    plain = (
      host_plain host can.to_host,
      (
        (tag_plain laws (codes "If-None-Match") tag refl (omega arith) can.kept).plain,
        lines-append extra (closing true) (extra_plain extra can.adds.each) (are_lines (closing true) (closing_plain true)),
      ),
    );
    few = let added : length extra ≤ 16 = can.adds.few in omega (arith, length-append extra (closing true), closing_few true);
    short = checked_short host name extra tag can;
  }

  pub checked_read : (host name : List ℕ) (extra : List FieldLine) (tag more : List ℕ) → CanCheck host name extra tag → (bytes : List ℕ)
      → bytes ≡ check_with host name extra tag ++ more → (r : Option SeenRequest) → HasRequest bytes r
      → r ≡ Some (checked_request host name extra tag)
  checked_read host name extra tag more can bytes is r found =
      plain_read (codes "HEAD") name (check_fields host extra tag) (checked_plain host name extra tag can) bytes more is r found

  pub checked_has : (host name : List ℕ) (extra : List FieldLine) (tag more : List ℕ) → CanCheck host name extra tag → (bytes : List ℕ)
      → bytes ≡ check_with host name extra tag ++ more → HasRequest bytes (Some (checked_request host name extra tag))
  checked_has host name extra tag more can bytes is =
      plain_has (codes "HEAD") name (check_fields host extra tag) (checked_plain host name extra tag can) bytes more is

  pub checked_first : (host name : List ℕ) (extra : List FieldLine) (tag more : List ℕ) → CanCheck host name extra tag
      → IsFirstMessage (check_with host name extra tag ++ more) (check_with host name extra tag)
  checked_first host name extra tag more can =
      plain_first (codes "HEAD") name (check_fields host extra tag) (checked_plain host name extra tag can) more
