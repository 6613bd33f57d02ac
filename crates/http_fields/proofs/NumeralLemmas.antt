-- Numbers of any length, compared digit by digit and kept in 64 bits.
use Rattle.std.proofs.Common.{◌≡◌, ℕ, ◌+◌, ◌-◌, ◌*◌, ◌^◌, ◌<◌, ◌≤◌, ◌/◌, ◌⊎◌, not, Bool, true, false, cond, ◌&&◌, List, [], ◌∷◌, length, get_or, take, refl, ap, ◌∙◌, arith, inl, inr}
use Rattle.std.specs.Char.{is_ascii_digit, digit_value}
use Rattle.std.specs.Str.{all_ascii_digits}
use Rattle.std.specs.Str.Parse.{digits_value}
use Rattle.std.specs.List.{list_all}
use Rattle.std.proofs.Math.Dec.{ltb, leb}
use Rattle.std.proofs.lemmas.Bool.{lt-ltb, le-ltb, cases_lt}
use Rattle.std.proofs.lemmas.Bool.Decides.{nat_tests}
use Rattle.std.proofs.lemmas.List.{take_all}
use Rattle.std.proofs.lemmas.List.Elements.{All-get_or}
use Rattle.std.proofs.lemmas.List.Sums.{AllPass-from_list_all}
use Rattle.std.proofs.lemmas.Int.Digits.{digits_value_more}
use Rattle.http_fields.specs.Digits.{capped}

-- the first i of n places of a text that is padded with zeros
abbrev pub padded : List ℕ → ℕ → ℕ → ℕ
padded text n i = digits_value 10 (take (i - (n - length text)) text)

-- the digit at place i of such a text
abbrev pub padded_digit : List ℕ → ℕ → ℕ → ℕ
padded_digit text n i = cond (ltb i (n - length text)) 0 (digit_value (get_or text (i - (n - length text)) 0))

-- the flags say how x and y compare
pub record Compares (x y : ℕ) (below above : Bool) : Type 0 where
  pub below_is : below ≡ ltb x y
  pub above_is : above ≡ ltb y x

pub padded_more : (text : List ℕ) (n i : ℕ) → length text ≤ n → i < n
    → padded text n (i + 1) ≡ padded text n i * 10 + padded_digit text n i
padded_more text n i room inside =
    elim (cases_lt i (n - length text)) [
      | inl skipped ↦
          let e : i + 1 - (n - length text) ≡ 0 = omega arith in
          let f : i - (n - length text) ≡ 0 = omega arith in
          rw (e, f, lt-ltb i (n - length text) skipped)
      | inr there ↦
          let k = i - (n - length text) in
          let e : i + 1 - (n - length text) ≡ k + 1 = omega arith in
          rw (e, le-ltb i (n - length text) there) (digits_value_more 10 text k (omega arith))
    ]

pub compares_start : Compares 0 0 false false
compares_start = record { below_is = refl; above_is = refl }

pub padded_start : (text : List ℕ) (n : ℕ) → padded text n 0 ≡ 0
padded_start text n = let e : 0 - (n - length text) ≡ 0 = omega arith in rw e

pub padded_end : (text : List ℕ) (n : ℕ) → length text ≤ n → padded text n n ≡ digits_value 10 text
padded_end text n room =
    let e : n - (n - length text) ≡ length text = omega arith in rw (e, take_all (length text) text (omega arith))

pub compares_even : (x y c d : ℕ) → c < 10 → d < 10 → Compares x y false false → Compares (x * 10 + c) (y * 10 + d) (ltb c d) (ltb d c)
compares_even x y c d hc hd h = record { below_is = grind (arith, nat_tests, h.below_is, h.above_is); above_is = grind (arith, nat_tests, h.below_is, h.above_is) }

pub compares_kept : (x y c d : ℕ) (below above : Bool) → c < 10 → d < 10 → Compares x y below above → (below ≡ true) ⊎ (above ≡ true)
    → Compares (x * 10 + c) (y * 10 + d) below above
compares_kept x y c d below above hc hd h one =
    record { below_is = grind (arith, nat_tests, h.below_is, h.above_is, one); above_is = grind (arith, nat_tests, h.below_is, h.above_is, one) }

pub compares_end : (x y : ℕ) (below above : Bool) → Compares x y below above → not above ≡ leb x y
compares_end x y below above h = grind (arith, nat_tests, h.above_is)

pub capped_step : (n v d : ℕ) → n ≡ capped v → d < 10 → (2 ^ 64 - 1 - d) / 10 < n → 2 ^ 64 - 1 ≡ capped (v * 10 + d)
capped_step n v d is small over = omega arith

pub capped_more : (n v d : ℕ) → n ≡ capped v → d < 10 → n ≤ (2 ^ 64 - 1 - d) / 10 → n * 10 + d ≡ capped (v * 10 + d)
capped_more n v d is small fits = omega arith

pub all_digits-is : (text : List ℕ) → list_all is_ascii_digit text ≡ all_ascii_digits text
all_digits-is [] = refl
all_digits-is (c ∷ cs) = ap (λ (t : Bool). is_ascii_digit c && t) (all_digits-is cs)

pub digit_here : (text : List ℕ) (i : ℕ) → all_ascii_digits text ≡ true → i < length text → is_ascii_digit (get_or text i 0) ≡ true
digit_here text i digits inside =
    All-get_or (λ b. is_ascii_digit b ≡ true) text i 0 inside
    (AllPass-from_list_all is_ascii_digit text (all_digits-is text ∙ digits))

pub compares_more : (a b : List ℕ) (n i x y : ℕ) (below above below' above' : Bool) → length a ≤ n → length b ≤ n → i < n
    → x ≡ padded_digit a n i → y ≡ padded_digit b n i → x < 10 → y < 10
    → Compares (padded a n i) (padded b n i) below above
    → ((below ≡ false) × (above ≡ false) × (below' ≡ ltb x y) × (above' ≡ ltb y x))
    ⊎ (((below ≡ true) ⊎ (above ≡ true)) × (below' ≡ below) × (above' ≡ above))
    → Compares (padded a n (i + 1)) (padded b n (i + 1)) below' above'
compares_more a b n i x y below above below' above' ra rb inside xa yb hx hy h (inl even) =
    rw (padded_more a n i ra inside, padded_more b n i rb inside, ← xa, ← yb, even.2, even.3)
    (compares_even (padded a n i) (padded b n i) x y hx hy (rw (even.0, even.1) at h))
compares_more a b n i x y below above below' above' ra rb inside xa yb hx hy h (inr one) =
    rw (padded_more a n i ra inside, padded_more b n i rb inside, ← xa, ← yb, one.1, one.2)
    (compares_kept (padded a n i) (padded b n i) x y below above hx hy h one.0)
