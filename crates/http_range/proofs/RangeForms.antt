-- A range is read exactly where the text has one of the three forms.
use Rattle.std.proofs.Common.{◌≡◌, ℕ, ◌<◌, ◌≤◌, Bool, true, false, cond, ◌&&◌, List, [], ◌∷◌, ◌++◌, length, take, drop, get_or, refl, sym, ap, ◌∙◌, subst, arith, append_assoc, take-append-drop, codes, Option, Some, None}
use Rattle.std.specs.Prelude.{◌↔◌, option_map}
use Rattle.std.specs.Str.{all_ascii_digits, bytes_eq, str_to_ascii_lowercase}
use Rattle.std.specs.Str.Parse.{digits_value}
use Rattle.std.specs.Char.{to_ascii_lowercase}
use Rattle.std.specs.List.{before_first, after_first, position_or_len}
use Rattle.std.proofs.Math.Dec.{eqb, ltb, leb}
use Rattle.std.proofs.Math.Seq.{take-append_seam, drop-append_seam}
use Rattle.std.proofs.lemmas.Bool.{leb-true, ltb-true, eqb-true, ne_eqb}
use Rattle.std.proofs.lemmas.List.{length-map}
use Rattle.std.proofs.lemmas.List.Sums.{split_at_first, passes_at_first}
use Rattle.std.proofs.lemmas.Slice.Eq.{bytes_eq-Decides}
use Rattle.http_range.specs.declared.range.RangeSpec.{RangeSpec}
use Rattle.http_range.specs.declared.range.RangeSpec.TheVariants.{Between, From, Suffix}
use Rattle.http_fields.specs.Digits.{number}
use Rattle.http_range.specs.Range.{IsUnit, HasEnds, IsRangeText, between, spec_by, spec_behind, range_spec}
use Rattle.http_range.proofs.RangeLemmas.{spec_of_parts, spec_by-numbers}

-- ---- what a number is

pub record IsNumber (text : List ℕ) (n : ℕ) : Type 0 where
  pub some : 0 < length text
  pub digits : all_ascii_digits text ≡ true
  pub value : digits_value 10 text ≡ n

pub number_parts : (text : List ℕ) (n : ℕ) → number text ≡ Some n → IsNumber text n
number_parts text n is = by_test (ltb 0 (length text)) (all_ascii_digits text) refl refl is
  where
    by_test : (a b : Bool) → ltb 0 (length text) ≡ a → all_ascii_digits text ≡ b
        → cond (a && b) (Some (digits_value 10 text)) None ≡ Some n → IsNumber text n
    by_test true true some digits is = record { some = ltb-true _ _ some; digits = digits; value = cc }
    by_test true false some digits is = absurd (cc)
    by_test false b some digits is = absurd (cc)

-- ---- a form is read

unit_long : (unit : List ℕ) → IsUnit unit → length unit ≡ 6
unit_long unit is = sym (length-map unit to_ascii_lowercase) ∙ ap length is.folded

behind_unit : (text unit rest : List ℕ) → IsUnit unit → text ≡ unit ++ rest → range_spec text ≡ spec_behind rest
unfolding range_spec
behind_unit text unit rest is parts =
    let six = unit_long unit is in
    let front : take 6 text ≡ unit = ap (take 6) parts ∙ ap (λ (n : ℕ). take n (unit ++ rest)) (sym six) ∙ take-append_seam unit rest in
    let back : drop 6 text ≡ rest = ap (drop 6) parts ∙ ap (λ (n : ℕ). drop n (unit ++ rest)) (sym six) ∙ drop-append_seam unit rest in
    let same : bytes_eq (str_to_ascii_lowercase (take 6 text)) (codes "bytes=") ≡ true =
    (bytes_eq-Decides _ _).1 (ap str_to_ascii_lowercase front ∙ is.folded) in
    rw (same, back)

ends_read : (text x y : List ℕ) → HasEnds text x y → all_ascii_digits x ≡ true → range_spec text ≡ spec_by x y
ends_read text x y ends digits =
    behind_unit text ends.unit (x ++ 45 ∷ y) ends.is_unit (ends.parts ∙ append_assoc ends.unit x (45 ∷ y))
    ∙ spec_of_parts x y digits

form_read : (text : List ℕ) (spec : RangeSpec) → IsRangeText text spec → range_spec text ≡ Some spec
form_read text (Between a b) form =
    let x = number_parts form.0 a form.3 in
    let y = number_parts form.1 b form.4 in
    ends_read text form.0 form.1 form.2 x.digits ∙ spec_by-numbers form.0 form.1 a b x.some y.some form.3 form.4 form.5
form_read text (From a) form =
    let x = number_parts form.0 a form.2 in
    ends_read text form.0 [] form.1 x.digits ∙ from_is form.0 a x.some form.2
  where
    from_is : (x : List ℕ) (a : ℕ) → 0 < length x → number x ≡ Some a → spec_by x [] ≡ Some (From a)
    from_is x a some is = rw (ne_eqb (length x) 0 (λ e. omega arith), is)
form_read text (Suffix n) form = ends_read text [] form.0 form.1 refl ∙ ap (option_map Suffix) form.2

-- ---- what is read has a form

empty_is : (xs : List ℕ) → eqb (length xs) 0 ≡ true → xs ≡ []
empty_is [] is = refl
empty_is (x ∷ xs) is = absurd (let wrong = eqb-true _ _ is in omega arith)

between_parts : (x y : Option ℕ) (spec : RangeSpec) → between x y ≡ Some spec
    → (a : ℕ) × (b : ℕ) × (x ≡ Some a) × (y ≡ Some b) × (a ≤ b) × (spec ≡ Between a b)
between_parts (Some a) (Some b) spec is = by_test (leb a b) refl is
  where
    by_test : (t : Bool) → leb a b ≡ t → cond t (Some (Between a b)) None ≡ Some spec
        → (c : ℕ) × (d : ℕ) × (◌≡◌ {A = Option ℕ} (Some a) (Some c)) × (◌≡◌ {A = Option ℕ} (Some b) (Some d)) × (c ≤ d) × (spec ≡ Between c d)
    by_test true test is = (a, b, refl, refl, leb-true _ _ test, cc)
    by_test false test is = absurd (cc)
between_parts (Some a) None spec is = absurd (cc)
between_parts None y spec is = absurd (cc)

map_parts : (x : Option ℕ) (f : ℕ → RangeSpec) (spec : RangeSpec) → option_map f x ≡ Some spec
    → (a : ℕ) × (x ≡ Some a) × (spec ≡ f a)
map_parts (Some a) f spec is = (a, refl, cc)
map_parts None f spec is = absurd (cc)

form_of : (text x y : List ℕ) (spec : RangeSpec) → HasEnds text x y → spec_by x y ≡ Some spec → IsRangeText text spec
form_of text x y spec ends is = by_test (eqb (length x) 0) (eqb (length y) 0) refl refl is
  where
    by_test : (a b : Bool) → eqb (length x) 0 ≡ a → eqb (length y) 0 ≡ b
        → cond a (option_map Suffix (number y)) (cond b (option_map From (number x)) (between (number x) (number y))) ≡ Some spec
        → IsRangeText text spec
    by_test true b first last is =
        let found = map_parts (number y) Suffix spec is in
        let same : HasEnds text [] y = subst (λ (t : List ℕ). HasEnds text t y) (empty_is x first) ends in
        subst (IsRangeText text) (sym found.2) (y, same, found.1)
    by_test false true first last is =
        let found = map_parts (number x) From spec is in
        let same : HasEnds text x [] = subst (λ (t : List ℕ). HasEnds text x t) (empty_is y last) ends in
        subst (IsRangeText text) (sym found.2) (x, same, found.1)
    by_test false false first last is =
        let found = between_parts (number x) (number y) spec is in
        subst (IsRangeText text) (sym found.5) (x, y, ends, found.2, found.3, found.4)

behind_form : (text unit rest : List ℕ) (spec : RangeSpec) → IsUnit unit → text ≡ unit ++ rest → spec_behind rest ≡ Some spec
    → IsRangeText text spec
behind_form text unit rest spec is_unit parts is =
    by_test (ltb (position_or_len (λ b. eqb b 45) rest) (length rest)) refl is
  where
    by_test : (t : Bool) → ltb (position_or_len (λ b. eqb b 45) rest) (length rest) ≡ t
        → cond t (spec_by (before_first (λ b. eqb b 45) rest) (after_first (λ b. eqb b 45) rest)) None ≡ Some spec
        → IsRangeText text spec
    by_test true inside is =
        let x = before_first (λ b. eqb b 45) rest in
        let y = after_first (λ b. eqb b 45) rest in
        let dash : get_or rest (position_or_len (λ b. eqb b 45) rest) 0 ≡ 45 =
        eqb-true _ _ (passes_at_first (λ b. eqb b 45) rest 0 (ltb-true _ _ inside)) in
        let split : rest ≡ x ++ 45 ∷ y = split_at_first (λ b. eqb b 45) rest 0 (ltb-true _ _ inside) ∙ rw dash in
        form_of text x y spec (record { unit = unit; is_unit = is_unit; parts = parts ∙ ap (λ (t : List ℕ). unit ++ t) split ∙ sym (append_assoc unit x (45 ∷ y)) }) is
    by_test false inside is = absurd (cc)

pub read_form : (text : List ℕ) (spec : RangeSpec) → range_spec text ≡ Some spec → IsRangeText text spec
unfolding range_spec
read_form text spec is = by_test (bytes_eq (str_to_ascii_lowercase (take 6 text)) (codes "bytes=")) refl is
  where
    by_test : (t : Bool) → bytes_eq (str_to_ascii_lowercase (take 6 text)) (codes "bytes=") ≡ t
        → cond t (spec_behind (drop 6 text)) None ≡ Some spec → IsRangeText text spec
    by_test true same is =
        behind_form text (take 6 text) (drop 6 text) spec (record { folded = (bytes_eq-Decides _ _).0 same })
        (sym (take-append-drop 6 text)) is
    by_test false same is = absurd (cc)

pub range_forms : (text : List ℕ) (spec : RangeSpec) → (range_spec text ≡ Some spec) ↔ IsRangeText text spec
range_forms text spec = (read_form text spec, form_read text spec)
