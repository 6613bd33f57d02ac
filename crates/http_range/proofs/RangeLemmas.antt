-- Ranges as 64 bits keep them, and as clients write them.
use Rattle.std.proofs.Common.{◌≡◌, ℕ, ◌-◌, ◌^◌, ◌<◌, ◌≤◌, true, List, ◌∷◌, length, min, refl, ap, ◌∙◌, arith, inl, inr, Option, Some, None, codes, ◌++◌, append_assoc, length-append}
use Rattle.std.specs.Str.{all_ascii_digits}
use Rattle.std.proofs.Math.Dec.{eqb}
use Rattle.std.proofs.lemmas.Bool.{lt-ltb, le-ltb, le-leb, ne_eqb, cases_lt}
use Rattle.std.proofs.lemmas.Bool.Decides.{nat_tests}
use Rattle.std.specs.Prelude.{option_map, decimal}
use Rattle.std.specs.List.{position_or_len}
use Rattle.std.proofs.lemmas.Fmt.{decimal_nonempty}
use Rattle.httparse.proofs.GrammarLemmas.{cons-append}
use Rattle.http_range.specs.declared.range.RangeSpec.{RangeSpec}
use Rattle.http_range.specs.declared.range.RangeSpec.TheVariants.{Between, From, Suffix}
use Rattle.http_fields.specs.Digits.{number, capped}
use Rattle.http_range.specs.Range.{capped_spec, resolved_or, spec_by, spec_behind, range_spec}
use Rattle.http_range.specs.Ask.{range_value}
use Rattle.http_fields.specs.Laws.{PartsAreRead}
use Rattle.http_range.proofs.PlaceLemmas.{digits_miss, place_at, before_at, after_at}

-- what 64 bits keep of a range names the same part
pub resolved-capped : (r : Option RangeSpec) (len : ℕ) → 1 ≤ len → len < 2 ^ 64
    → resolved_or (option_map capped_spec r) len ≡ resolved_or r len
resolved-capped None len some small = refl
resolved-capped (Some (Between a b)) len some small =
    elim (cases_lt a len) [
      | inl below ↦
          let e : capped a ≡ a = omega arith in
          let f : min (capped b) (len - 1) ≡ min b (len - 1) = omega arith in
          rw (e, f)
      | inr above ↦
          let e : len ≤ capped a = omega arith in
          rw (le-ltb (capped a) len e, le-ltb a len above)
    ]
resolved-capped (Some (From a)) len some small =
    elim (cases_lt a len) [
      | inl below ↦ let e : capped a ≡ a = omega arith in rw e
      | inr above ↦
          let e : len ≤ capped a = omega arith in
          rw (le-ltb (capped a) len e, le-ltb a len above)
    ]
resolved-capped (Some (Suffix n)) len some small =
    let f : len - capped n ≡ len - n = omega arith in
    let e : eqb (capped n) 0 ≡ eqb n 0 = grind (arith, nat_tests) in
    rw (f, e)

-- ---- what was written is read

two_parts : (x y : List ℕ) → x ++ codes "-" ++ y ≡ x ++ 45 ∷ y
two_parts x y = simp (append_assoc, cons-append)

pub spec_of_parts : (x y : List ℕ) → all_ascii_digits x ≡ true → spec_behind (x ++ 45 ∷ y) ≡ spec_by x y
spec_of_parts x y digits =
    let none = digits_miss 45 (omega arith) x digits in
    let place = place_at (λ c. eqb c 45) x 45 y none refl in
    let inside : position_or_len (λ c. eqb c 45) (x ++ 45 ∷ y) < length (x ++ 45 ∷ y) = omega (arith, place, length-append x (45 ∷ y)) in
    rw (lt-ltb _ _ inside, before_at (λ c. eqb c 45) x 45 y none refl, after_at (λ c. eqb c 45) x 45 y none refl)

pub spec_by-numbers : (x y : List ℕ) (a b : ℕ) → 0 < length x → 0 < length y → number x ≡ Some a → number y ≡ Some b → a ≤ b
    → spec_by x y ≡ Some (Between a b)
spec_by-numbers x y a b sx sy na nb ab =
    rw (ne_eqb (length x) 0 (λ e. omega arith), ne_eqb (length y) 0 (λ e. omega arith), na, nb, le-leb a b ab)

module _ (laws : PartsAreRead) where
  pub range_spec-range_value : (a b : ℕ) → a ≤ b → b < 2 ^ 64 → range_spec (range_value a b) ≡ Some (Between a b)
  unfolding range_spec range_value
  range_spec-range_value a b ab small =
      let sa : a < 2 ^ 64 = omega arith in
      ap spec_behind (two_parts (decimal a) (decimal b))
      ∙ spec_of_parts (decimal a) (decimal b) (laws.decimals.digits a sa)
      ∙ spec_by-numbers (decimal a) (decimal b) a b (decimal_nonempty a sa) (decimal_nonempty b small) (laws.decimals.number a sa)
      (laws.decimals.number b small) ab

  pub written_read : (a b : ℕ) → a ≤ b → b < 2 ^ 64 → (text : List ℕ) → text ≡ range_value a b → (r : Option RangeSpec)
      → r ≡ option_map capped_spec (range_spec text) → r ≡ Some (Between a b)
  written_read a b ab small text is r reads =
      let ca : capped a ≡ a = omega arith in
      let cb : capped b ≡ b = omega arith in
      reads ∙ ap (λ (t : List ℕ). option_map capped_spec (range_spec t)) is
      ∙ ap (option_map capped_spec) (range_spec-range_value a b ab small) ∙ rw (ca, cb)
