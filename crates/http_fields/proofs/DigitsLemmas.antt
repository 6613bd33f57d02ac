-- A number read digit by digit.
use Rattle.std.proofs.Common.{◌≡◌, ℕ, ◌+◌, ◌-◌, ◌*◌, ◌^◌, ◌<◌, ◌≤◌, Bool, true, false, cond, ◌&&◌, nat_lt, List, [], ◌∷◌, length, get_or, drop, Option, Some, None, refl, sym, ◌∙◌, arith}
use Rattle.std.proofs.lemmas.List.{drop_more, drop_all}
use Rattle.std.proofs.Math.Dec.{eqb}
use Rattle.std.specs.Char.{is_ascii_digit, digit_value}
use Rattle.std.specs.Prelude.{option_and_then}
use Rattle.std.specs.Str.{all_ascii_digits}
use Rattle.std.specs.Str.Parse.{digits_value, digits_value_after}
use Rattle.std.proofs.lemmas.Bool.{lt-ltb, le-ltb}
use Rattle.http_fields.specs.Digits.{number_64}

-- what the digits write behind those of n
abbrev pub number_from : ℕ → List ℕ → Option ℕ
number_from n [] = cond (nat_lt n (2 ^ 64)) (Some n) None
number_from n (c ∷ cs) = cond (is_ascii_digit c) (number_from (n * 10 + digit_value c) cs) None

pub number_from_large : (n : ℕ) (cs : List ℕ) → 2 ^ 64 ≤ n → number_from n cs ≡ None
number_from_large n [] large = rw (le-ltb n (2 ^ 64) large)
number_from_large n (c ∷ cs) large =
    elim (is_ascii_digit c) as (λ t. cond t (number_from (n * 10 + digit_value c) cs) None ≡ None) [
      | true ↦ number_from_large (n * 10 + digit_value c) cs (omega arith)
      | false ↦ refl
    ]

number_by : ℕ → List ℕ → Option ℕ
number_by n cs = cond (all_ascii_digits cs && nat_lt (digits_value_after 10 n cs) (2 ^ 64)) (Some (digits_value_after 10 n cs)) None

number_from_is : (n : ℕ) (cs : List ℕ) → number_from n cs ≡ number_by n cs
unfolding number_by
number_from_is n [] = refl
number_from_is n (c ∷ cs) =
    elim (is_ascii_digit c) as (λ t. cond t (number_from (n * 10 + digit_value c) cs) None
    ≡ cond ((t && all_ascii_digits cs) && nat_lt (digits_value_after 10 (n * 10 + digit_value c) cs) (2 ^ 64))
    (Some (digits_value_after 10 (n * 10 + digit_value c) cs)) None) [
      | true ↦ number_from_is (n * 10 + digit_value c) cs
      | false ↦ refl
    ]

pub number_none : (cs : List ℕ) → length cs ≡ 0 → number_64 cs ≡ None
unfolding number_64
number_none [] empty = refl
number_none (c ∷ cs) empty = absurd (omega arith)

pub number_some : (cs : List ℕ) → 0 < length cs → number_64 cs ≡ number_from 0 cs
unfolding number_64 number_by
number_some cs some = rw (lt-ltb 0 (length cs) some) (by_test (all_ascii_digits cs) ∙ sym (number_from_is 0 cs))
  where
    by_test : (t : Bool)
        → option_and_then (λ (n : ℕ). cond (nat_lt n (2 ^ 64)) (Some n) None) (cond t (Some (digits_value 10 cs)) None)
        ≡ cond (t && nat_lt (digits_value_after 10 0 cs) (2 ^ 64)) (Some (digits_value_after 10 0 cs)) None
    by_test true = refl
    by_test false = refl

pub number_step : (text : List ℕ) (n i b : ℕ) → i < length text → b ≡ get_or text i b → is_ascii_digit b ≡ true
    → number_from n (drop i text) ≡ number_from (n * 10 + digit_value b) (drop (i + 1) text)
number_step text n i b inside is digit = rw (drop_more text i b inside, ← is, digit)

pub number_stops : (text : List ℕ) (n i b : ℕ) → i < length text → b ≡ get_or text i b → is_ascii_digit b ≡ false
    → number_from n (drop i text) ≡ None
number_stops text n i b inside is other = rw (drop_more text i b inside, ← is, other)

pub digit_value-digit : (b : ℕ) → 48 ≤ b → b ≤ 57 → digit_value b ≡ b - 48
digit_value-digit b low high = rw (le-ltb b 48 low, lt-ltb b 58 (omega arith))

pub number_start : (cs : List ℕ) (b : Bool) → b ≡ eqb (length cs) 0 → b ≡ false → number_64 cs ≡ number_from 0 cs
number_start [] b is fails = absurd (let wrong : true ≡ false = sym is ∙ fails in cc)
number_start (c ∷ cs) b is fails = number_some (c ∷ cs) (omega arith)

pub number_end : (text : List ℕ) (n i : ℕ) → length text ≤ i → n < 2 ^ 64 → number_from n (drop i text) ≡ Some n
number_end text n i past small = rw (drop_all i text past, lt-ltb n (2 ^ 64) small)

pub number_over : (text : List ℕ) (n i : ℕ) → i < length text → is_ascii_digit (get_or text i 0) ≡ true
    → 48 ≤ get_or text i 0 → get_or text i 0 ≤ 57 → 2 ^ 64 ≤ n * 10 + (get_or text i 0 - 48)
    → number_from n (drop i text) ≡ None
number_over text n i inside digit low high large =
    let value : digit_value (get_or text i 0) ≡ get_or text i 0 - 48 = digit_value-digit (get_or text i 0) low high in
    rw (drop_more text i 0 inside, digit)
    (number_from_large _ (drop (i + 1) text) (omega (arith, value)))
