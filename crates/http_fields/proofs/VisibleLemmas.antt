-- Visible bytes, and white space at the ends of a value.
use Rattle.std.proofs.Common.{◌≡◌, ℕ, ◌<◌, ◌≤◌, true, false, List, [], ◌∷◌, ◌++◌, length, get_or, arith, reverse}
use Rattle.std.specs.Char.{is_ascii_digit}
use Rattle.std.proofs.lemmas.Bool.{and_parts, leb-true}
use Rattle.std.proofs.lemmas.Bool.Decides.{nat_tests}
use Rattle.std.proofs.lemmas.List.{reverse-append, length-reverse}
use Rattle.std.proofs.lemmas.List.Elements.{All-get_or}
use Rattle.httparse.specs.Grammar.{AllPass, is_uri_byte, is_value_byte, is_ows, skip_ows}
use Rattle.httparse.proofs.TrimLemmas.{AllPass-reverse}
use Rattle.http_fields.specs.Tag.{is_tag_byte}
use Rattle.http_fields.specs.Laws.{VisibleValues}

pub uri_value : (b : ℕ) → is_uri_byte b ≡ true → is_value_byte b ≡ true
uri_value b h = grind (arith, nat_tests)

pub uri_not_ows : (b : ℕ) → is_uri_byte b ≡ true → is_ows b ≡ false
uri_not_ows b h = grind (arith, nat_tests)

pub digit_range : (b : ℕ) → is_ascii_digit b ≡ true → (48 ≤ b) × (b ≤ 57)
digit_range b h = let parts = and_parts _ _ h in (leb-true _ _ parts.0, leb-true _ _ parts.1)

pub digit_uri : (b : ℕ) → is_ascii_digit b ≡ true → is_uri_byte b ≡ true
digit_uri b h = let range = digit_range b h in grind (arith, nat_tests)

pub tag_uri : (b : ℕ) → is_tag_byte b ≡ true → is_uri_byte b ≡ true
tag_uri b h = grind (arith, nat_tests)

-- ---- white space at the ends

pub skip_none : (xs ys : List ℕ) → AllPass is_uri_byte xs → 0 < length xs → skip_ows (xs ++ ys) ≡ xs ++ ys
skip_none [] ys pass some = absurd (omega arith)
skip_none (x ∷ xs) ys pass some =
    let other : is_ows x ≡ false = uri_not_ows x (All-get_or (λ b. is_uri_byte b ≡ true) (x ∷ xs) 0 0 some pass) in rw other

-- a value that ends in visible bytes has no white space at its end
pub back_bare : (front xs : List ℕ) → AllPass is_uri_byte xs → 0 < length xs
    → skip_ows (reverse (front ++ xs)) ≡ reverse (front ++ xs)
back_bare front xs pass some =
    let long : 0 < length (reverse xs) = rw length-reverse some in
    rw reverse-append (skip_none (reverse xs) (reverse front) (AllPass-reverse is_uri_byte xs pass) long)

pass_value : (v : List ℕ) → AllPass is_uri_byte v → AllPass is_value_byte v
pass_value v pass k d inside = uri_value (get_or v k d) (pass k d inside)

pub visible_values : VisibleValues
visible_values = record { value = pass_value; front = skip_none; back = back_bare }
