-- What a client's host, target and added lines are written with may stand in a request's head.
use Rattle.std.proofs.Common.{◌≡◌, ℕ, ◌+◌, ◌-◌, ◌<◌, ◌≤◌, ◌⊎◌, Bool, true, false, List, [], ◌∷◌, ◌++◌, length, take, drop, get_or, refl, sym, ap, subst, ◌∙◌, arith, inl, inr, codes, reverse}
use Rattle.std.specs.Prelude.{◌||◌, ◌&&◌, ◌==◌, not, nat_eq, nat_lt, nat_le}
use Rattle.std.specs.List.{list_all, list_any, starts_with}
use Rattle.std.specs.Char.{is_ascii_alphanumeric}
use Rattle.std.specs.Str.{IsAscii}
use Rattle.std.proofs.lemmas.Bool.{and_parts, and_from, or_left, or_right, ltb-true, false≢true}
use Rattle.std.proofs.lemmas.Bool.Decides.{nat_tests}
use Rattle.std.proofs.lemmas.List.{take_more, take_all}
use Rattle.std.proofs.lemmas.List.Elements.{All-nil, All-cons}
use Rattle.std.proofs.lemmas.List.Sums.{AllPass-from_list_all}
use Rattle.std.proofs.lemmas.Str.Ascii.{IsAscii-cons, IsAscii-nil}
use Rattle.httparse.specs.Grammar.{AllPass, IsToken, is_token, is_token_byte, is_uri_byte, is_value_byte, is_ows, skip_ows}
use Rattle.http_fields.specs.Names.{is_host, is_host_byte, is_name, is_name_byte}
use Rattle.http_fields.specs.Target.{are_escapes_whole, is_authority_char, is_authority_text, is_name_char, is_target, is_target_char}
use Rattle.http_fields.specs.RequestFields.{is_bare, is_extra, is_field_value, is_reserved, is_value_char, is_visible_char}
use Rattle.http_fields.specs.Text.{FieldLine}
use Rattle.http_fields.specs.Plain.{IsPlain}
use Rattle.http_fields.specs.Laws.{RequestsMayStand}
use Rattle.http_fields.proofs.VisibleLemmas.{back_bare}

-- ---- characters

either : (x y : Bool) → (x || y) ≡ true → (x ≡ true) ⊎ (y ≡ true)
either true y h = inl refl
either false y h = inr h

same : (b c : ℕ) → (b == c) ≡ true → b ≡ c
same b c h = grind (arith, nat_tests)

-- what is true of a character is true of a byte that equals it
at : (P : ℕ → Bool) (b c : ℕ) → (b == c) ≡ true → P c ≡ true → P b ≡ true
at P b c e h = subst (λ x. P x ≡ true) (sym (same b c e)) h

any_of : (P : ℕ → Bool) (cs : List ℕ) (b : ℕ) → list_all P cs ≡ true → list_any (λ c. c == b) cs ≡ true → P b ≡ true
any_of P [] b all h = absurd (false≢true h)
any_of P (c ∷ cs) b all h = by (c == b) refl (λ g. any_of P cs b (and_parts (P c) (list_all P cs) all).1 g) h
  where
    by : (t : Bool) → (c == b) ≡ t → (list_any (λ d. d == b) cs ≡ true → P b ≡ true) → (t || list_any (λ d. d == b) cs) ≡ true → P b ≡ true
    by true e later h = subst (λ x. P x ≡ true) (same c b e) (and_parts (P c) (list_all P cs) all).0
    by false e later h = later h

visible_uri : (b : ℕ) → is_visible_char b ≡ true → is_uri_byte b ≡ true
visible_uri b h = grind (arith, nat_tests)

visible_ascii : (b : ℕ) → is_visible_char b ≡ true → b < 128
visible_ascii b h = grind (arith, nat_tests)

visible_not_ows : (b : ℕ) → is_visible_char b ≡ true → is_ows b ≡ false
visible_not_ows b h = grind (arith, nat_tests)

letter_visible : (b : ℕ) → is_ascii_alphanumeric b ≡ true → is_visible_char b ≡ true
letter_visible b h = grind (arith, nat_tests)

value_byte : (b : ℕ) → is_value_char b ≡ true → is_value_byte b ≡ true
value_byte b h = grind (arith, nat_tests)

name_char_visible : (b : ℕ) → is_name_char b ≡ true → is_visible_char b ≡ true
name_char_visible b h = elim (either (is_ascii_alphanumeric b) (list_any (λ c. c == b) (codes "-._~!$&'()*+,;=%")) h) [
  | inl letter ↦ letter_visible b letter
  | inr other ↦ any_of is_visible_char (codes "-._~!$&'()*+,;=%") b refl other
]

target_char_visible : (b : ℕ) → is_target_char b ≡ true → is_visible_char b ≡ true
target_char_visible b h = elim (either (is_name_char b) (list_any (λ c. c == b) (codes ":@/?")) h) [
  | inl name ↦ name_char_visible b name
  | inr other ↦ any_of is_visible_char (codes ":@/?") b refl other
]

authority_char_visible : (b : ℕ) → is_authority_char b ≡ true → is_visible_char b ≡ true
authority_char_visible b h = elim (either (is_name_char b) (list_any (λ c. c == b) (codes ":[]")) h) [
  | inl name ↦ name_char_visible b name
  | inr other ↦ any_of is_visible_char (codes ":[]") b refl other
]

letter_in_name : (b : ℕ) → is_ascii_alphanumeric b ≡ true → is_name_char b ≡ true
letter_in_name b h = or_left (is_ascii_alphanumeric b) (list_any (λ c. c == b) (codes "-._~!$&'()*+,;=%")) h

letter_in_target : (b : ℕ) → is_ascii_alphanumeric b ≡ true → is_target_char b ≡ true
letter_in_target b h = or_left (is_name_char b) (list_any (λ c. c == b) (codes ":@/?")) (letter_in_name b h)

letter_in_authority : (b : ℕ) → is_ascii_alphanumeric b ≡ true → is_authority_char b ≡ true
letter_in_authority b h = or_left (is_name_char b) (list_any (λ c. c == b) (codes ":[]")) (letter_in_name b h)

host_char : (b : ℕ) → is_host_byte b ≡ true → is_authority_char b ≡ true
host_char b h = elim (either (is_ascii_alphanumeric b || b == 46 || b == 45) (b == 58) h) [
  | inl some ↦ elim (either (is_ascii_alphanumeric b || b == 46) (b == 45) some) [
    | inl more ↦ elim (either (is_ascii_alphanumeric b) (b == 46) more) [
      | inl letter ↦ letter_in_authority b letter
      | inr dot ↦ at is_authority_char b 46 dot refl
    ]
    | inr dash ↦ at is_authority_char b 45 dash refl
  ]
  | inr colon ↦ at is_authority_char b 58 colon refl
]

name_char : (b : ℕ) → is_name_byte b ≡ true → is_target_char b ≡ true
name_char b h = elim (either (is_ascii_alphanumeric b || b == 46 || b == 95 || b == 45) (b == 47) h) [
  | inl some ↦ elim (either (is_ascii_alphanumeric b || b == 46 || b == 95) (b == 45) some) [
    | inl more ↦ elim (either (is_ascii_alphanumeric b || b == 46) (b == 95) more) [
      | inl most ↦ elim (either (is_ascii_alphanumeric b) (b == 46) most) [
        | inl letter ↦ letter_in_target b letter
        | inr dot ↦ at is_target_char b 46 dot refl
      ]
      | inr line ↦ at is_target_char b 95 line refl
    ]
    | inr dash ↦ at is_target_char b 45 dash refl
  ]
  | inr slash ↦ at is_target_char b 47 slash refl
]

name_not_percent : (b : ℕ) → is_name_byte b ≡ true → not (b == 37) ≡ true
name_not_percent b h = grind (arith, nat_tests)

-- ---- texts

all_more : (p q : ℕ → Bool) → ((b : ℕ) → p b ≡ true → q b ≡ true) → (xs : List ℕ) → list_all p xs ≡ true → list_all q xs ≡ true
all_more p q step [] h = refl
all_more p q step (x ∷ xs) h =
    let parts = and_parts (p x) (list_all p xs) h in
    and_from (q x) (list_all q xs) (step x parts.0) (all_more p q step xs parts.1)

pass : (test : ℕ → Bool) → ((b : ℕ) → test b ≡ true → is_visible_char b ≡ true) → (xs : List ℕ) → list_all test xs ≡ true → AllPass is_uri_byte xs
pass test seen xs h = AllPass-from_list_all is_uri_byte xs (all_more test is_uri_byte (λ b is. visible_uri b (seen b is)) xs h)

ascii : (xs : List ℕ) → list_all is_target_char xs ≡ true → IsAscii xs
ascii [] h = IsAscii-nil
ascii (x ∷ xs) h =
    let parts = and_parts (is_target_char x) (list_all is_target_char xs) h in
    IsAscii-cons x xs (visible_ascii x (target_char_visible x parts.0)) (ascii xs parts.1)

no_escapes : (xs : List ℕ) → list_all is_name_byte xs ≡ true → are_escapes_whole xs ≡ true
no_escapes [] h = refl
no_escapes (x ∷ xs) h =
    let parts = and_parts (is_name_byte x) (list_all is_name_byte xs) h in
    and_from _ _ (or_left _ _ (name_not_percent x parts.0)) (no_escapes xs parts.1)

short_host : (n : ℕ) → nat_le n 64 ≡ true → nat_le n 255 ≡ true
short_host n h = grind (arith, nat_tests)

short_name : (name : List ℕ) → nat_le (length name) 200 ≡ true → nat_le (length (47 ∷ name)) 2048 ≡ true
short_name name h = grind (arith, nat_tests)

host_is : (host : List ℕ) → is_host host ≡ true → is_authority_text host ≡ true
host_is host h =
    let all = and_parts _ _ h in
    let long = and_parts _ _ all.0 in
    and_from _ _ (and_from _ _ long.0 (short_host (length host) long.1)) (all_more is_host_byte is_authority_char host_char host all.1)

name_is : (name : List ℕ) → is_name name ≡ true → is_target (47 ∷ name) ≡ true
name_is name h =
    let all = and_parts _ _ h in
    let long = and_parts _ _ all.0 in
    and_from _ _ (and_from _ _ (and_from _ _ (short_name name long.1) refl) (all_more is_name_byte is_target_char name_char name all.1)) (no_escapes name all.1)

authority_visible : (text : List ℕ) → is_authority_text text ≡ true → AllPass is_uri_byte text
authority_visible text h = pass is_authority_char authority_char_visible text (and_parts _ _ h).1

target_chars : (text : List ℕ) → is_target text ≡ true → list_all is_target_char text ≡ true
target_chars text h = (and_parts _ _ (and_parts _ _ h).0).1

begins : (text : List ℕ) → is_target text ≡ true → starts_with nat_eq text (codes "/") ≡ true
begins text h = (and_parts _ _ (and_parts _ _ (and_parts _ _ h).0).0).1

slash : (text : List ℕ) → is_target text ≡ true → text ≡ 47 ∷ drop 1 text
slash [] h = let wrong : false ≡ true = begins [] h in absurd (false≢true wrong)
slash (b ∷ rest) h =
    let first : (nat_eq 47 b && true) ≡ true = begins (b ∷ rest) h in
    ap (λ (x : ℕ). x ∷ rest) (sym (same 47 b (and_parts (nat_eq 47 b) true first).0))

-- ---- values

bare_front : (v : List ℕ) → is_bare v ≡ true → skip_ows v ≡ v
bare_front [] h = refl
bare_front (b ∷ bytes) h =
    let n = length (b ∷ bytes) in
    elim (either (n == 0) (is_visible_char b && is_visible_char (get_or (b ∷ bytes) (n - 1) 0)) h) [
      | inl none ↦ absurd (let wrong : n ≡ 0 = same n 0 none in omega arith)
      | inr both ↦ let other : is_ows b ≡ false = visible_not_ows b (and_parts _ _ both).0 in rw other
    ]

bare_back : (v : List ℕ) → is_bare v ≡ true → skip_ows (reverse v) ≡ reverse v
bare_back [] h = refl
bare_back (b ∷ bytes) h =
    let xs = b ∷ bytes in
    let n = length bytes in
    elim (either (length xs == 0) (is_visible_char b && is_visible_char (get_or xs (length xs - 1) 0)) h) [
      | inl none ↦ absurd (let wrong : length xs ≡ 0 = same (length xs) 0 none in omega arith)
      | inr both ↦
          let place : length xs - 1 ≡ n = omega arith in
          let seen : is_visible_char (get_or xs n 0) ≡ true = subst (λ k. is_visible_char (get_or xs k 0) ≡ true) place (and_parts _ _ both).1 in
          let all : take (n + 1) xs ≡ xs = take_all (n + 1) xs (omega arith) in
          let whole : xs ≡ take n xs ++ get_or xs n 0 ∷ [] = sym all ∙ take_more xs n 0 (omega arith) in
          let passes : AllPass is_uri_byte (get_or xs n 0 ∷ []) = All-cons (λ c. is_uri_byte c ≡ true) (get_or xs n 0) [] (visible_uri (get_or xs n 0) seen) (All-nil _) in
          subst (λ (v : List ℕ). skip_ows (reverse v) ≡ reverse v) (sym whole) (back_bare (take n xs) (get_or xs n 0 ∷ []) passes (omega arith))
    ]

line_plain : (l : FieldLine) → is_extra l ≡ true → IsPlain l
line_plain l h =
    let all = and_parts (is_token l.0 && not (is_reserved l.0)) (is_field_value l.1) h in
    let token = and_parts (nat_lt 0 (length l.0)) (list_all is_token_byte l.0) (and_parts (is_token l.0) (not (is_reserved l.0)) all.0).0 in
    let value = and_parts (list_all is_value_char l.1) (is_bare l.1) all.1 in
    record {
      name = (ltb-true _ _ token.0, AllPass-from_list_all is_token_byte l.0 token.1);
      value = AllPass-from_list_all is_value_byte l.1 (all_more is_value_char is_value_byte value_byte l.1 value.0);
      front = bare_front l.1 value.1;
      back = bare_back l.1 value.1;
    }

pub requests_may_stand : RequestsMayStand
requests_may_stand = record {
  host = host_is;
  name = name_is;
  authority = authority_visible;
  target = λ text is. pass is_target_char target_char_visible text (target_chars text is);
  ascii = λ text is. ascii text (target_chars text is);
  slash = slash;
  line = line_plain;
}
