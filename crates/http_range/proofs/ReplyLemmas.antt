-- A reply's fields are plain lines, and they are read as what was written.
use Rattle.std.proofs.Common.{◌≡◌, ℕ, ◌+◌, ◌-◌, ◌^◌, ◌<◌, ◌≤◌, Bool, true, false, List, [], ◌∷◌, ◌++◌, length, refl, subst, arith, append-nil, append_assoc, length-append, Option, Some, None, codes, Ok, reverse}
use Rattle.std.specs.Prelude.{decimal}
use Rattle.std.specs.List.{list_all}
use Rattle.std.proofs.Math.Dec.{eqb}
use Rattle.std.proofs.lemmas.Bool.{and_parts, ltb-true, leb-true, eq-eqb, le-leb, lt-ltb}
use Rattle.std.proofs.lemmas.List.Elements.{All-append}
use Rattle.std.proofs.lemmas.List.Sums.{AllPass-from_list_all}
use Rattle.std.proofs.lemmas.Fmt.{decimal_nonempty, length-decimal-le}
use Rattle.httparse.specs.Grammar.{AllPass, IsToken, is_token, is_token_byte, is_uri_byte, is_value_byte, skip_ows}
use Rattle.httparse.proofs.GrammarLemmas.{cons-append}
use Rattle.http_range.specs.declared.reading.ContentRange.{ContentRange}
use Rattle.http_fields.specs.Text.{FieldLine, closing}
use Rattle.http_fields.specs.Tag.{is_kept_tag}
use Rattle.http_range.specs.declared.reply.Reply.{Reply}
use Rattle.http_range.specs.declared.reply.Reply.TheVariants.{R200, R206, R304, R400, R404, R405, R412, R416}
use Rattle.http_range.specs.Reply.{content_range, content_length, file_fields, fields_of, IsSent}
use Rattle.http_range.specs.ContentRange.{range_of}
use Rattle.http_range.specs.Piece.{◌>>=◌}
use Rattle.http_range.specs.Reading.{tag_by_rows, announced_by_rows, announced_of, reply_announced}
use Rattle.http_fields.specs.Laws.{PartsAreRead}
use Rattle.http_range.proofs.TextLemmas.{IsShort, ArePlain}
use Rattle.http_range.proofs.PlaceLemmas.{before_at, after_at, digits_miss}

pub token_of : (name : List ℕ) → is_token name ≡ true → IsToken name
token_of name h =
    let parts = and_parts _ _ h in (ltb-true _ _ parts.0, AllPass-from_list_all is_token_byte name parts.1)

-- a literal value, which computes
pub plain_literal : (name v : List ℕ) → is_token name ≡ true → list_all is_value_byte v ≡ true
    → skip_ows v ≡ v → skip_ows (reverse v) ≡ reverse v → length name + length v ≤ 150 → IsShort (name, v)
plain_literal name v token value front back short = record {
  plain = record {
    name = token_of name token;
    value = AllPass-from_list_all is_value_byte v value;
    front = front;
    back = back;
  };
  short = short;
}

pub closing_plain : (close : Bool) → ArePlain (closing close)
unfolding is_token_byte
closing_plain true = (plain_literal (codes "Connection") (codes "close") refl refl refl refl (omega arith), tt)
closing_plain false = tt

pub plain-append : (xs ys : List FieldLine) → ArePlain xs → ArePlain ys → ArePlain (xs ++ ys)
plain-append [] ys a b = b
plain-append (x ∷ xs) ys a b = (a.0, plain-append xs ys a.1 b)

pub value_literal : (v : List ℕ) → list_all is_value_byte v ≡ true → AllPass is_value_byte v
value_literal v h = AllPass-from_list_all is_value_byte v h

pub length_20 : (n : ℕ) → n < 2 ^ 64 → length (decimal n) ≤ 20
length_20 n small = length-decimal-le 20 n (omega arith) (omega arith) small

range_short : (x y z : List ℕ) → length x ≤ 20 → length y ≤ 20 → length z ≤ 20
    → length (codes "Content-Range") + length (codes "bytes " ++ x ++ codes "-" ++ y ++ codes "/" ++ z) ≤ 150
range_short x y z hx hy hz = simp length-append (omega arith)

three_parts : (x y z : List ℕ) → x ++ codes "-" ++ y ++ codes "/" ++ z ≡ x ++ 45 ∷ (y ++ 47 ∷ z)
three_parts x y z = simp (append_assoc, cons-append)

module _ (laws : PartsAreRead) where
  -- a value of visible bytes
  pub plain_visible : (name v : List ℕ) → is_token name ≡ true → AllPass is_uri_byte v → 0 < length v
      → length name + length v ≤ 150 → IsShort (name, v)
  plain_visible name v token pass some short = record {
    plain = record {
      name = token_of name token;
      value = laws.values.value v pass;
      front = subst (λ (t : List ℕ). skip_ows t ≡ t) (append-nil v) (laws.values.front v [] pass some);
      back = laws.values.back [] v pass some;
    };
    short = short;
  }

  pub tag_plain : (name tag : List ℕ) → is_token name ≡ true → length name ≤ 20 → is_kept_tag tag ≡ true → IsShort (name, tag)
  tag_plain name tag token short kept =
      let both = and_parts _ _ kept in
      let small = leb-true _ _ both.1 in
      plain_visible name tag token (laws.tags.visible tag both.0) (laws.tags.some tag both.0) (omega arith)

  pub file_plain : (tag : List ℕ) → is_kept_tag tag ≡ true → ArePlain (file_fields tag)
  unfolding is_token_byte
  file_plain tag kept = (
    tag_plain (codes "ETag") tag refl (omega arith) kept,
    (
      plain_literal (codes "Accept-Ranges") (codes "bytes") refl refl refl refl (omega arith),
      (plain_literal (codes "Content-Type") (codes "image/tiff") refl refl refl refl (omega arith), tt),
    ),
  )

  pub length_plain : (n : ℕ) → n < 2 ^ 64 → IsShort (content_length n)
  unfolding is_token_byte
  length_plain n small =
      plain_visible (codes "Content-Length") (decimal n) refl (laws.decimals.visible n small) (decimal_nonempty n small)
      (let long = length_20 n small in omega arith)

  pub unsatisfied_plain : (l : ℕ) → l < 2 ^ 64 → IsShort (codes "Content-Range", codes "bytes */" ++ decimal l)
  unfolding is_token_byte
  unsatisfied_plain l small = record {
    plain = record {
      name = token_of (codes "Content-Range") refl;
      value =
          All-append (λ v. is_value_byte v ≡ true) (codes "bytes */") (decimal l) (value_literal (codes "bytes */") refl)
          (laws.values.value (decimal l) (laws.decimals.visible l small));
      front = refl;
      back = laws.values.back (codes "bytes */") (decimal l) (laws.decimals.visible l small) (decimal_nonempty l small);
    };
    short = let long = length_20 l small in omega (arith, length-append (codes "bytes */") (decimal l));
  }

  pub range_plain : (a b l : ℕ) → a < 2 ^ 64 → b < 2 ^ 64 → l < 2 ^ 64
      → IsShort (codes "Content-Range", content_range a b l)
  unfolding is_token_byte content_range
  range_plain a b l sa sb sl =
      let P : ℕ → Type 0 = λ v. is_value_byte v ≡ true in
      let digits : (n : ℕ) → n < 2 ^ 64 → AllPass is_value_byte (decimal n) = λ n small. laws.values.value (decimal n) (laws.decimals.visible n small) in
      let front : List ℕ = codes "bytes " ++ decimal a ++ codes "-" ++ decimal b ++ codes "/" in record {
        plain = record {
          name = token_of (codes "Content-Range") refl;
          value =
              All-append P front (decimal l)
              (All-append P (codes "bytes " ++ decimal a ++ codes "-" ++ decimal b) (codes "/")
              (All-append P (codes "bytes " ++ decimal a ++ codes "-") (decimal b)
              (All-append P (codes "bytes " ++ decimal a) (codes "-")
              (All-append P (codes "bytes ") (decimal a) (value_literal (codes "bytes ") refl) (digits a sa))
              (value_literal (codes "-") refl)) (digits b sb)) (value_literal (codes "/") refl)) (digits l sl);
          front = refl;
          back = laws.values.back front (decimal l) (laws.decimals.visible l sl) (decimal_nonempty l sl);
        };
        short = range_short (decimal a) (decimal b) (decimal l) (length_20 a sa) (length_20 b sb) (length_20 l sl);
      }

  -- ---- what was written is read

  pub range_of-content_range : (a b l : ℕ) → a ≤ b → b < l → l < 2 ^ 64
      → range_of (content_range a b l) ≡ Some (record { first = a; last = b; complete = l })
  unfolding range_of content_range
  range_of-content_range a b l ab bl small =
      let sa : a < 2 ^ 64 = omega arith in
      let sb : b < 2 ^ 64 = omega arith in
      let no_dash = digits_miss 45 (omega arith) (decimal a) (laws.decimals.digits a sa) in
      let no_slash = digits_miss 47 (omega arith) (decimal b) (laws.decimals.digits b sb) in
      let ends = decimal b ++ 47 ∷ decimal l in
      rw (
        three_parts (decimal a) (decimal b) (decimal l),
        before_at (λ c. eqb c 45) (decimal a) 45 ends no_dash refl,
        after_at (λ c. eqb c 45) (decimal a) 45 ends no_dash refl,
        before_at (λ c. eqb c 47) (decimal b) 47 (decimal l) no_slash refl,
        after_at (λ c. eqb c 47) (decimal b) 47 (decimal l) no_slash refl,
        laws.decimals.number_64 a sa,
        laws.decimals.number_64 b sb,
        laws.decimals.number_64 l small,
        le-leb a b ab,
        lt-ltb b l bl,
      )

  pub fields_plain : (reply : Reply) → IsSent reply → ArePlain (fields_of reply)
  unfolding is_token_byte
  fields_plain (R200 tag length) sent =
      plain-append (file_fields tag) (content_length length ∷ []) (file_plain tag sent.0) (length_plain length sent.1, tt)
  fields_plain (R206 tag a b l) sent =
      let ab = sent.1 in let bl = sent.2 in let small = sent.3 in
      plain-append (file_fields tag) ((codes "Content-Range", content_range a b l) ∷ content_length (b - a + 1) ∷ []) (file_plain tag sent.0)
      (range_plain a b l (omega arith) (omega arith) small, (length_plain (b - a + 1) (omega arith), tt))
  fields_plain (R304 tag) sent = (tag_plain (codes "ETag") tag refl (omega arith) sent, tt)
  fields_plain R400 sent = (length_plain 0 (omega arith), tt)
  fields_plain R404 sent = (length_plain 0 (omega arith), tt)
  fields_plain R405 sent =
      (plain_literal (codes "Allow") (codes "GET, HEAD") refl refl refl refl (omega arith), (length_plain 0 (omega arith), tt))
  fields_plain R412 sent = (length_plain 0 (omega arith), tt)
  fields_plain (R416 l) sent = (unsatisfied_plain l sent, (length_plain 0 (omega arith), tt))

  -- ---- what a client reads of the fields

  -- a kept tag is read as itself
  pub kept_read : (tag : List ℕ) → is_kept_tag tag ≡ true → tag_by_rows (Some tag) ≡ Ok tag
  kept_read tag kept =
      let both = and_parts _ _ kept in rw (laws.tags.strong tag both.0, both.0, both.1)

  pub reads_206 : (tag : List ℕ) (a b l : ℕ) (close : Bool) (size : ℕ) → IsSent (R206 tag a b l)
      → announced_of (record { status = 206; minor = 1; fields = fields_of (R206 tag a b l) ++ closing close; size = size })
      ≡ reply_announced (R206 tag a b l) size
  reads_206 tag a b l close size sent = by_closing close
    where
      part : (range : Option ContentRange) (m : Option ℕ) → range ≡ Some (record { first = a; last = b; complete = l }) → m ≡ Some (b - a + 1)
          → (tag_by_rows (Some tag) >>= (λ t. announced_by_rows true t range m size)) ≡ reply_announced (R206 tag a b l) size
      part range m is long = rw (kept_read tag sent.0, is, long, eq-eqb (b - a + 1) (b - a + 1) refl)

      by_closing : (close : Bool)
          → announced_of (record { status = 206; minor = 1; fields = fields_of (R206 tag a b l) ++ closing close; size = size })
          ≡ reply_announced (R206 tag a b l) size
      by_closing true =
          let ab = sent.1 in let bl = sent.2 in let small = sent.3 in
          part _ _ (range_of-content_range a b l sent.1 sent.2 sent.3) (laws.decimals.number_64 (b - a + 1) (omega arith))
      by_closing false =
          let ab = sent.1 in let bl = sent.2 in let small = sent.3 in
          part _ _ (range_of-content_range a b l sent.1 sent.2 sent.3) (laws.decimals.number_64 (b - a + 1) (omega arith))

  pub reads_200 : (tag : List ℕ) (l : ℕ) (close : Bool) (size : ℕ) → IsSent (R200 tag l)
      → announced_of (record { status = 200; minor = 1; fields = fields_of (R200 tag l) ++ closing close; size = size })
      ≡ reply_announced (R200 tag l) size
  reads_200 tag l close size sent = by_closing close
    where
      whole : (m : Option ℕ) → m ≡ Some l
          → (tag_by_rows (Some tag) >>= (λ t. announced_by_rows false t None m size)) ≡ reply_announced (R200 tag l) size
      whole m long = rw (kept_read tag sent.0, long)

      by_closing : (close : Bool)
          → announced_of (record { status = 200; minor = 1; fields = fields_of (R200 tag l) ++ closing close; size = size })
          ≡ reply_announced (R200 tag l) size
      by_closing true = whole _ (laws.decimals.number_64 l sent.1)
      by_closing false = whole _ (laws.decimals.number_64 l sent.1)
