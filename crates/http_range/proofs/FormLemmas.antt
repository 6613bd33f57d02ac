-- Content-Range values, computed, have the form of the standard.
use Rattle.std.proofs.Common.{◌≡◌, ℕ, ◌+◌, ◌^◌, ◌<◌, ◌≤◌, Bool, true, false, cond, ◌&&◌, List, [], ◌∷◌, ◌++◌, length, get_or, take, drop, refl, sym, ap, ◌∙◌, subst, arith, append_assoc, take-append-drop, codes, Option, Some, None}
use Rattle.std.specs.Prelude.{nat_eq, option_and_then}
use Rattle.std.specs.List.{before_first, after_first, position_or_len, starts_with}
use Rattle.std.specs.Str.{all_ascii_digits}
use Rattle.std.specs.Str.Parse.{digits_value}
use Rattle.std.proofs.Math.Dec.{eqb, ltb, leb}
use Rattle.std.proofs.lemmas.Bool.{lt-ltb, le-leb, ltb-true, ltb-false, leb-true, eqb-true}
use Rattle.std.proofs.lemmas.List.{drop_all}
use Rattle.std.proofs.lemmas.List.Sums.{split_at_first, passes_at_first}
use Rattle.http_range.specs.declared.reading.ContentRange.{ContentRange}
use Rattle.http_fields.specs.Digits.{number_64}
use Rattle.http_range.specs.ContentRange.{IsContentRange, range_of_numbers, range_of}
use Rattle.http_range.specs.Laws.{ContentRangesAreForms}
use Rattle.http_range.proofs.PlaceLemmas.{before_at, after_at, digits_miss}
use Rattle.http_range.proofs.BookLemmas.{same_bytes}

record IsNumber64 (text : List ℕ) : Type 0 where
  some : 0 < length text
  digits : all_ascii_digits text ≡ true

number_64_parts : (text : List ℕ) (n : ℕ) → number_64 text ≡ Some n → IsNumber64 text
unfolding number_64
number_64_parts text n is =
    by_test (ltb 0 (length text)) (all_ascii_digits text) (ltb (digits_value 10 text) (2 ^ 64)) refl refl is
  where
    by_test : (a b c : Bool) → ltb 0 (length text) ≡ a → all_ascii_digits text ≡ b
        → option_and_then (λ (m : ℕ). cond (ltb m (2 ^ 64)) (Some m) None) (cond (a && b) (Some (digits_value 10 text)) None) ≡ Some n → IsNumber64 text
    by_test true true c some digits is = record { some = ltb-true _ _ some; digits = digits }
    by_test true false c some digits is = absurd (cc)
    by_test false b c some digits is = absurd (cc)

-- a list is what stands round the byte, where something stands after it
split_there : (c : ℕ) (xs : List ℕ) → 0 < length (after_first (λ b. eqb b c) xs)
    → xs ≡ before_first (λ b. eqb b c) xs ++ c ∷ after_first (λ b. eqb b c) xs
split_there c xs some = by_test (ltb (position_or_len (λ b. eqb b c) xs) (length xs)) refl
  where
    by_test : (t : Bool) → ltb (position_or_len (λ b. eqb b c) xs) (length xs) ≡ t
        → xs ≡ before_first (λ b. eqb b c) xs ++ c ∷ after_first (λ b. eqb b c) xs
    by_test true inside =
        let place = ltb-true _ _ inside in
        let here : get_or xs (position_or_len (λ b. eqb b c) xs) 0 ≡ c = eqb-true _ _ (passes_at_first (λ b. eqb b c) xs 0 place) in
        split_at_first (λ b. eqb b c) xs 0 place
        ∙ ap (λ (d : ℕ). before_first (λ b. eqb b c) xs ++ d ∷ after_first (λ b. eqb b c) xs) here
    by_test false past =
        let none : after_first (λ b. eqb b c) xs ≡ [] =
        let over = ltb-false _ _ past in drop_all (position_or_len (λ b. eqb b c) xs + 1) xs (omega arith) in
        absurd (omega (arith, ap length none))

nonempty : (text : List ℕ) (n : ℕ) → number_64 text ≡ Some n → 0 < length text
nonempty text n is = (number_64_parts text n is).some

longer : (c : ℕ) (xs : List ℕ) → 0 < length (before_first (λ b. eqb b c) xs) → 0 < length xs
longer c [] some = absurd (omega arith)
longer c (x ∷ xs) some = omega arith

record IsRangeBy (x y z : Option ℕ) (range : ContentRange) : Type 0 where
  first : x ≡ Some range.first
  last : y ≡ Some range.last
  complete : z ≡ Some range.complete
  ascending : range.first ≤ range.last
  inside : range.last < range.complete

range_of_numbers_parts : (x y z : Option ℕ) (range : ContentRange) → range_of_numbers x y z ≡ Some range → IsRangeBy x y z range
range_of_numbers_parts (Some a) (Some b) (Some l) range is = by_test (leb a b) (ltb b l) refl refl is
  where
    by_test : (s t : Bool) → leb a b ≡ s → ltb b l ≡ t
        → cond (s && t) (Some (record { first = a; last = b; complete = l })) None ≡ Some range
        → IsRangeBy (Some a) (Some b) (Some l) range
    by_test true true ab bl is =
        let e : ◌≡◌ {A = ContentRange} (record { first = a; last = b; complete = l }) range = cc in
        subst (IsRangeBy (Some a) (Some b) (Some l)) e
        (record { first = refl; last = refl; complete = refl; ascending = leb-true _ _ ab; inside = ltb-true _ _ bl })
    by_test true false ab bl is = absurd (cc)
    by_test false t ab bl is = absurd (cc)
range_of_numbers_parts (Some a) (Some b) None range is = absurd (cc)
range_of_numbers_parts (Some a) None l range is = absurd (cc)
range_of_numbers_parts None b l range is = absurd (cc)

span_form : (text span : List ℕ) (range : ContentRange) → text ≡ codes "bytes " ++ span
    → range_of_numbers (number_64 (before_first (λ b. eqb b 45) span))
    (number_64 (before_first (λ b. eqb b 47) (after_first (λ b. eqb b 45) span)))
    (number_64 (after_first (λ b. eqb b 47) (after_first (λ b. eqb b 45) span))) ≡ Some range
    → IsContentRange text range
span_form text span range is found =
    let ends = after_first (λ b. eqb b 45) span in
    let r = range_of_numbers_parts _ _ _ range found in
    let slash : ends ≡ before_first (λ b. eqb b 47) ends ++ 47 ∷ after_first (λ b. eqb b 47) ends =
    split_there 47 ends (nonempty _ range.complete r.complete) in
    let dash : span ≡ before_first (λ b. eqb b 45) span ++ 45 ∷ ends =
    split_there 45 span (longer 47 ends (nonempty _ range.last r.last)) in record {
      first = before_first (λ b. eqb b 45) span;
      last = before_first (λ b. eqb b 47) ends;
      complete = after_first (λ b. eqb b 47) ends;
      parts = is ∙ ap (λ (t : List ℕ). codes "bytes " ++ t) (dash ∙ ap (λ (t : List ℕ). before_first (λ b. eqb b 45) span ++ 45 ∷ t) slash)
          ∙ sym (append_assoc (codes "bytes ") (before_first (λ b. eqb b 45) span) (45 ∷ (before_first (λ b. eqb b 47) ends ++ 47 ∷ after_first (λ b. eqb b 47) ends)));
      first_is = r.first;
      last_is = r.last;
      complete_is = r.complete;
      ascending = r.ascending;
      inside = r.inside;
    }

range_form : (text : List ℕ) (range : ContentRange) → range_of text ≡ Some range → IsContentRange text range
unfolding range_of
range_form text range is = by_test (starts_with nat_eq text (codes "bytes ")) refl is
  where
    by_test : (t : Bool) → starts_with nat_eq text (codes "bytes ") ≡ t
        → cond t (range_of_numbers (number_64 (before_first (λ b. eqb b 45) (drop 6 text)))
        (number_64 (before_first (λ b. eqb b 47) (after_first (λ b. eqb b 45) (drop 6 text))))
        (number_64 (after_first (λ b. eqb b 47) (after_first (λ b. eqb b 45) (drop 6 text))))) None ≡ Some range
        → IsContentRange text range
    by_test true begins found =
        let front : codes "bytes " ≡ take 6 text = same_bytes (codes "bytes ") (take 6 text) begins in
        span_form text (drop 6 text) range (sym (take-append-drop 6 text) ∙ ap (λ (t : List ℕ). t ++ drop 6 text) (sym front)) found
    by_test false other found = absurd (cc)

form_range : (text : List ℕ) (range : ContentRange) → IsContentRange text range → range_of text ≡ Some range
unfolding range_of
form_range text range form =
    let x = form.first in
    let y = form.last in
    let z = form.complete in
    let dash = digits_miss 45 (omega arith) x (number_64_parts x range.first form.first_is).digits in
    let slash = digits_miss 47 (omega arith) y (number_64_parts y range.last form.last_is).digits in
    let ends = y ++ 47 ∷ z in
    let grouped : text ≡ 98 ∷ 121 ∷ 116 ∷ 101 ∷ 115 ∷ 32 ∷ (x ++ 45 ∷ ends) =
    form.parts ∙ append_assoc (codes "bytes ") x (45 ∷ ends) in
    rw (
      grouped,
      before_at (λ c. eqb c 45) x 45 ends dash refl,
      after_at (λ c. eqb c 45) x 45 ends dash refl,
      before_at (λ c. eqb c 47) y 47 z slash refl,
      after_at (λ c. eqb c 47) y 47 z slash refl,
      form.first_is,
      form.last_is,
      form.complete_is,
      le-leb range.first range.last form.ascending,
      lt-ltb range.last range.complete form.inside,
    )

pub content_ranges_are_forms : ContentRangesAreForms
content_ranges_are_forms text range = (range_form text range, form_range text range)
