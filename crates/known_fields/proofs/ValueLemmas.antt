-- The value of a field by the place of its entry.
use Rattle.std.proofs.Common.{◌≡◌, ℕ, zero, suc, ◌+◌, ◌==◌, false, List, [], ◌∷◌, length, Option, Some, None, refl, ap, ◌∙◌, arith, inl, inr}
use Rattle.std.specs.Prelude.{nat_le, if◌then◌else◌}
use Rattle.std.specs.Option.{option_map_or}
use Rattle.std.specs.List.{find}
use Rattle.std.proofs.lemmas.Bool.{cases_Bool, leb-false, lt-leb, eq-eqb, ne_eqb, eqb-true, eqb-false}
use Rattle.tiff_dir.specs.declared.order.Order.{Order}
use Rattle.tiff_dir.specs.Number.{number_in}
use Rattle.tiff_dir.specs.File.{◌>>=◌, Field, default_of, directory, entry_count, field, field_at, field_value, fields, fields_from, has_all_tags, number, order_of, value, values_at}
use Rattle.known_fields.specs.Entry.{place_from, value_at}
use Rattle.known_fields.proofs.EntryLemmas.{directory_ends, directory_first}

-- no number is past one that isn't there
later_none : (f : List ℕ) (at : ℕ) → number f at 2 ≡ None → number f (at + 12) 2 ≡ None
unfolding number
later_none f at none = go (order_of f) none where
  go : (o : Option Order) → (o >>= λ order. if nat_le (at + 2) (length f) then Some (number_in order at 2 f) else None) ≡ None
      → (o >>= λ order. if nat_le (at + 12 + 2) (length f) then Some (number_in order (at + 12) 2 f) else None) ≡ None
  go None none = refl
  go (Some o) none = elim (cases_Bool (nat_le (at + 2) (length f))) [
    | inl inside ↦ (let there = rw inside at none in absurd (cc))
    | inr past ↦ (let short = leb-false (at + 2) (length f) past in rw (lt-leb (at + 12 + 2) (length f) (omega arith)) refl)
  ]

-- nor is an entry
no_entries : (f : List ℕ) (at n : ℕ) → number f at 2 ≡ None → fields_from f at n ≡ []
unfolding fields_from field_at
no_entries f at zero none = refl
no_entries f at (suc n) none = rw none (no_entries f (at + 12) n (later_none f at none))

-- the value by the entries from a place on, all of them if there are as many as counted
abbrev by_entries : List ℕ → List Field → ℕ → ℕ → ℕ → Option ℕ
by_entries f es n tag i = option_map_or (λ e. field_value f e i) (find (λ (e : Field). e.tag == tag) es) (if length es == n then default_of tag else None)

abbrev pub by_place : List ℕ → ℕ → ℕ → Option (Option ℕ) → Option ℕ
by_place f tag i found = found >>= λ at. option_map_or (λ place. value_at f place i) at (default_of tag)

suc_eq : (a b : ℕ) → (suc a == suc b) ≡ (a == b)
suc_eq a b = elim (cases_Bool (a == b)) [
  | inl same ↦ rw same (eq-eqb (suc a) (suc b) (ap suc (eqb-true a b same)))
  | inr other ↦ (let apart = eqb-false a b other in rw other (ne_eqb (suc a) (suc b) (λ e. apart (omega arith))))
]

one_more : (f : List ℕ) (e : Field) (es : List Field) (n tag i : ℕ) → (e.tag == tag) ≡ false → by_entries f (e ∷ es) (suc n) tag i ≡ by_entries f es n tag i
one_more f e es n tag i other = rw (other, suc_eq (length es) n) refl

same_value : (f : List ℕ) (at n tag i : ℕ) → by_entries f (fields_from f at n) n tag i ≡ by_place f tag i (place_from f at n tag)
unfolding fields_from field_at place_from value_at field_value values_at
same_value f at zero tag i = refl
same_value f at (suc n) tag i = go (number f at 2) refl (same_value f (at + 12) n tag i) where
  go : (t : Option ℕ) → number f at 2 ≡ t → by_entries f (fields_from f (at + 12) n) n tag i ≡ by_place f tag i (place_from f (at + 12) n tag)
      → by_entries f (fields_from f at (suc n)) (suc n) tag i ≡ by_place f tag i (place_from f at (suc n) tag)
  go None none rest = rw (none, no_entries f (at + 12) n (later_none f at none), ne_eqb 0 (suc n) (λ e. omega arith)) refl
  go (Some t) told rest = elim (cases_Bool (t == tag)) [
    | inl same ↦ rw (told, same) refl
    | inr other ↦ rw told (one_more f (record { tag = t; kind = number f (at + 2) 2; count = number f (at + 4) 4; place = at }) (fields_from f (at + 12) n) n tag i other ∙ rest ∙ (rw other refl))
  ]

pub value_gone : (f : List ℕ) (k tag i : ℕ) → directory f k ≡ None → value f k tag i ≡ None
unfolding value field has_all_tags fields entry_count
value_gone f k tag i none = rw none refl

pub value_unordered : (f : List ℕ) (k tag i : ℕ) → order_of f ≡ None → value f k tag i ≡ None
unfolding number
value_unordered f k tag i none =
    let first : directory f 0 ≡ None = directory_first f ∙ (rw none refl) in
    value_gone f k tag i (directory_ends f 0 k (omega arith) first)

pub value_uncounted : (f : List ℕ) (k tag i at from : ℕ) → directory f k ≡ Some at → from ≡ at → number f from 2 ≡ None → value f k tag i ≡ None
unfolding value field has_all_tags fields entry_count
value_uncounted f k tag i at from here same none =
    let none' : number f at 2 ≡ None = rw same at none in
    rw here (rw none' refl)

pub value_by_place : (f : List ℕ) (k tag i at from base n : ℕ) → directory f k ≡ Some at → from ≡ at → base ≡ at → number f from 2 ≡ Some n
    → value f k tag i ≡ by_place f tag i (place_from f (base + 2) n tag)
unfolding value field has_all_tags fields entry_count
value_by_place f k tag i at from base n here same same' told =
    let told' : number f at 2 ≡ Some n = rw same at told in
    rw (here, same') (rw told' (same_value f (at + 2) n tag i))
