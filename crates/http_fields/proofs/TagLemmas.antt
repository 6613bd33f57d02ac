-- Entity tags, computed, have the form of the standard.
use Rattle.std.proofs.Common.{◌≡◌, ℕ, suc, ◌+◌, ◌-◌, ◌<◌, true, false, List, [], ◌∷◌, ◌++◌, length, get_or, take, drop, slice_range, refl, sym, ap, ◌∙◌, subst, arith, inl, inr, get_or-take, get_or-drop, length-drop, length-take, length-append, codes}
use Rattle.std.proofs.Math.Dec.{eqb}
use Rattle.std.proofs.Math.Seq.{take-append_seam, get_or-append_seam, split_at}
use Rattle.std.specs.List.{list_all}
use Rattle.std.proofs.lemmas.Bool.{and_parts, ltb-true, eqb-true, lt-ltb, cases_lt}
use Rattle.std.proofs.lemmas.List.{drop_all}
use Rattle.std.proofs.lemmas.List.Elements.{All-get_or, All-from_get_or}
use Rattle.std.proofs.lemmas.List.Sums.{AllPass-from_list_all, list_all-from_AllPass}
use Rattle.httparse.specs.Grammar.{AllPass, is_uri_byte}
use Rattle.http_fields.specs.Tag.{is_tag_byte, is_opaque_tag, is_weak_tag}
use Rattle.http_fields.specs.Laws.{TagsAreQuoted, TagsAreVisible}
use Rattle.http_fields.proofs.VisibleLemmas.{tag_uri}

pub record IsQuoted (text : List ℕ) : Type 0 where
  pub long : 1 < length text
  pub first : get_or text 0 0 ≡ 34
  pub last : get_or text (length text - 1) 0 ≡ 34
  pub middle : AllPass is_tag_byte (slice_range text 1 (length text - 1))

pub quoted_parts : (text : List ℕ) → is_opaque_tag text ≡ true → IsQuoted text
quoted_parts text h =
    let a = and_parts _ _ h in
    let b = and_parts _ _ a.0 in
    let c = and_parts _ _ b.0 in record {
      long = ltb-true _ _ c.0;
      first = eqb-true _ _ c.1;
      last = eqb-true _ _ b.1;
      middle = AllPass-from_list_all is_tag_byte _ a.1;
    }

tag_byte : (text : List ℕ) → IsQuoted text → (i : ℕ) → i < length text → is_uri_byte (get_or text i 0) ≡ true
tag_byte text q i inside =
    elim (cases_lt 0 i) [
      | inr low ↦ let e : i ≡ 0 = omega arith in rw (e, q.first)
      | inl above ↦ elim (cases_lt i (length text - 1)) [
        | inr high ↦ let e : i ≡ length text - 1 = omega arith in rw (e, q.last)
        | inl below ↦
            let part = slice_range text 1 (length text - 1) in
            let long : i - 1 < length part = omega (arith, length-take (length text - 1 - 1) (drop 1 text), length-drop 1 text) in
            let passes : is_tag_byte (get_or part (i - 1) 0) ≡ true = All-get_or (λ b. is_tag_byte b ≡ true) part (i - 1) 0 long q.middle in
            let at : i - 1 < length text - 1 - 1 = omega arith in
            let place : 1 + (i - 1) ≡ i = omega arith in
            let same : get_or part (i - 1) 0 ≡ get_or text i 0 = rw (get_or-take, get_or-drop, place) in
            tag_uri (get_or text i 0) (rw same at passes)
      ]
    ]

pub tag_pass : (text : List ℕ) → is_opaque_tag text ≡ true → AllPass is_uri_byte text
tag_pass text h =
    All-from_get_or (λ b. is_uri_byte b ≡ true) text 0 (λ i inside. tag_byte text (quoted_parts text h) i inside)

pub tag_nonempty : (text : List ℕ) → is_opaque_tag text ≡ true → 0 < length text
tag_nonempty text h = let long = (quoted_parts text h).long in omega arith

pub tag_not_weak : (text : List ℕ) → is_opaque_tag text ≡ true → is_weak_tag text ≡ false
tag_not_weak [] h = refl
tag_not_weak (x ∷ xs) h =
    let first : x ≡ 34 = (quoted_parts (x ∷ xs) h).first in
    let other : eqb 87 x ≡ false = rw first in
    rw other

pub tags_are_visible : TagsAreVisible
tags_are_visible = record { some = tag_nonempty; visible = tag_pass; strong = tag_not_weak }

-- ---- forms

-- a text between quotes
pub opaque_of : (m : List ℕ) → list_all is_tag_byte m ≡ true → is_opaque_tag (34 ∷ (m ++ 34 ∷ [])) ≡ true
opaque_of m pass =
    let text = 34 ∷ (m ++ 34 ∷ []) in
    let long : length text ≡ length m + 2 = omega (arith, length-append m (34 ∷ [])) in
    let last : get_or text (length text - 1) 0 ≡ 34 =
    let e : length text - 1 ≡ suc (length m) = omega arith in
    rw e (get_or-append_seam m 34 [] 0) in
    let middle : take (length text - 1 - 1) (drop 1 text) ≡ m =
    let e : length text - 1 - 1 ≡ length m = omega arith in
    rw e (take-append_seam m (34 ∷ [])) in
    rw (lt-ltb 1 (length text) (omega arith), last, middle, pass)

last_apart : (xs : List ℕ) → 0 < length xs → get_or xs (length xs - 1) 0 ≡ 34 → xs ≡ take (length xs - 1) xs ++ 34 ∷ []
last_apart xs some last =
    let j = length xs - 1 in
    let none : drop (suc j) xs ≡ [] = drop_all (suc j) xs (omega arith) in
    split_at xs j 0 (omega arith) ∙ rw (last, none)

pub opaque_parts : (text : List ℕ) → is_opaque_tag text ≡ true
    → (inner : List ℕ) × (text ≡ 34 ∷ (inner ++ 34 ∷ [])) × AllPass is_tag_byte inner
opaque_parts [] h = absurd (let long = (quoted_parts [] h).long in omega arith)
opaque_parts (x ∷ xs) h =
    let q = quoted_parts (x ∷ xs) h in
    let long = q.long in
    let j = length xs - 1 in
    let e : length (x ∷ xs) - 1 ≡ suc j = omega arith in
    let f : length (x ∷ xs) - 1 - 1 ≡ j = omega arith in
    let last : get_or xs j 0 ≡ 34 = ap (λ (n : ℕ). get_or (x ∷ xs) n 0) (sym e) ∙ q.last in
    let middle : AllPass is_tag_byte (take j xs) = subst (λ (n : ℕ). AllPass is_tag_byte (take n xs)) f q.middle in
    let parts = last_apart xs (omega arith) last in
    (take j xs, ap (λ (c : ℕ). c ∷ xs) q.first ∙ ap (λ (t : List ℕ). 34 ∷ t) parts, middle)

opaque_is : (text : List ℕ) → (inner : List ℕ) × (text ≡ 34 ∷ (inner ++ 34 ∷ [])) × AllPass is_tag_byte inner
    → is_opaque_tag text ≡ true
opaque_is text form =
    subst (λ (t : List ℕ). is_opaque_tag t ≡ true) (sym form.1) (opaque_of form.0 (list_all-from_AllPass is_tag_byte form.0 form.2))

weak_parts : (text : List ℕ) → is_weak_tag text ≡ true → (tag : List ℕ) × (text ≡ codes "W/" ++ tag) × (is_opaque_tag tag ≡ true)
weak_parts [] h = absurd (let wrong : false ≡ true = h in cc)
weak_parts (x ∷ []) h =
    let a = and_parts _ _ h in
    let b = and_parts _ _ a.0 in absurd (let wrong : false ≡ true = b.1 in cc)
weak_parts (x ∷ y ∷ tag) h =
    let a = and_parts _ _ h in
    let b = and_parts _ _ a.0 in
    let c = and_parts _ _ b.1 in
    let first : x ≡ 87 = sym (eqb-true _ _ b.0) in
    let second : y ≡ 47 = sym (eqb-true _ _ c.0) in
    (tag, rw (first, second), a.1)

weak_is : (text : List ℕ) → (tag : List ℕ) × (text ≡ codes "W/" ++ tag) × (is_opaque_tag tag ≡ true) → is_weak_tag text ≡ true
weak_is text form =
    subst (λ (t : List ℕ). is_weak_tag t ≡ true) (sym form.1) (by_tag form.0 form.2)
  where
    by_tag : (tag : List ℕ) → is_opaque_tag tag ≡ true → is_weak_tag (codes "W/" ++ tag) ≡ true
    by_tag tag opaque = opaque

pub tags_are_quoted : TagsAreQuoted
tags_are_quoted = record {
  opaque = λ text. (opaque_parts text, opaque_is text);
  weak = λ text. (weak_parts text, weak_is text);
}
