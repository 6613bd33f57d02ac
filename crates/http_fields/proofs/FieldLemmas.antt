-- The values under a name, span by span.
use Rattle.std.proofs.Common.{◌≡◌, ℕ, zero, suc, ◌+◌, ◌-◌, ◌<◌, Bool, true, false, List, ◌∷◌, length, get_or, drop, Some, refl, arith}
use Rattle.std.specs.Prelude.{slice_get}
use Rattle.std.specs.Str.{bytes_eq}
use Rattle.std.proofs.lemmas.Slice.Eq.{bytes_eq-Decides}
use Rattle.std.proofs.lemmas.List.{drop_more}
use Rattle.httparse.specs.declared.spans.HeaderSpan.{HeaderSpan}
use Rattle.httparse.specs.Spans.{header_bytes}
use Rattle.http_fields.specs.Fields.{is_named, values_of, fields_at}

-- the values under a name from the i-th span on
abbrev pub values_from : List ℕ → List ℕ → List HeaderSpan → ℕ → List (List ℕ)
values_from name bytes spans i = values_of name (fields_at bytes (drop i spans))

-- what a test of two names says, as a test that computes
pub named_by : (r : Bool) (xs ys : List ℕ) → (r ≡ true → xs ≡ ys) → (xs ≡ ys → r ≡ true) → bytes_eq xs ys ≡ r
named_by true xs ys same known = (bytes_eq-Decides xs ys).1 (same refl)
named_by false xs ys same known = by_cases (bytes_eq xs ys) refl
  where
    by_cases : (t : Bool) → bytes_eq xs ys ≡ t → bytes_eq xs ys ≡ false
    by_cases true is = absurd (let wrong : false ≡ true = known ((bytes_eq-Decides xs ys).0 is) in cc)
    by_cases false is = is

module _ (name bytes : List ℕ) (spans : List HeaderSpan) (d : HeaderSpan) (i : ℕ) (inside : i < length spans) where
  values_yes : is_named name (header_bytes bytes (get_or spans i d)) ≡ true
      → values_from name bytes spans i ≡ (header_bytes bytes (get_or spans i d)).1 ∷ values_from name bytes spans (i + 1)
  values_yes named = rw (drop_more spans i d inside, named)

  values_no : is_named name (header_bytes bytes (get_or spans i d)) ≡ false
      → values_from name bytes spans i ≡ values_from name bytes spans (i + 1)
  values_no other = rw (drop_more spans i d inside, other)

  -- the named field is the one that is looked for
  pub get_here : (left : ℕ) → is_named name (header_bytes bytes (get_or spans i d)) ≡ true → left ≡ 0
      → slice_get (values_from name bytes spans i) left ≡ Some (header_bytes bytes (get_or spans i d)).1
  get_here left named none = rw (values_yes named, none)

  -- it is a later one
  pub get_later : (left : ℕ) → is_named name (header_bytes bytes (get_or spans i d)) ≡ true → 0 < left
      → slice_get (values_from name bytes spans i) left ≡ slice_get (values_from name bytes spans (i + 1)) (left - 1)
  get_later zero named some = absurd (omega arith)
  get_later (suc left) named some =
      let e : suc left - 1 ≡ left = omega arith in rw (values_yes named, e)

  -- the field has another name
  pub get_other : (left : ℕ) → is_named name (header_bytes bytes (get_or spans i d)) ≡ false
      → slice_get (values_from name bytes spans i) left ≡ slice_get (values_from name bytes spans (i + 1)) left
  get_other left other = rw (values_no other)
