-- A tag alone in a condition matches exactly itself.
use Rattle.std.proofs.Common.{◌≡◌, ℕ, Bool, true, false, cond, not, ◌&&◌, ◌||◌, List, [], ◌∷◌, ◌++◌, map, refl, sym, ap, ◌∙◌, subst, arith, append-nil, codes}
use Rattle.std.proofs.lemmas.List.{reverse-reverse}
use Rattle.std.proofs.lemmas.List.Sums.{list_all-from_AllPass}
use Rattle.http_fields.specs.Fields.{is_there}
use Rattle.std.specs.Prelude.{reverse}
use Rattle.std.specs.List.{list_all, onto_first}
use Rattle.std.specs.Str.{bytes_eq}
use Rattle.std.proofs.Math.Dec.{eqb}
use Rattle.std.proofs.lemmas.Bool.Decides.{nat_tests}
use Rattle.httparse.specs.Grammar.{trim_ows, skip_ows}
use Rattle.http_fields.specs.Tag.{is_tag_byte, is_opaque_tag, is_weak_tag}
use Rattle.http_fields.specs.Members.{parts_from, members}
use Rattle.http_fields.specs.Conditional.{may_be_listed}
use Rattle.std.proofs.lemmas.Bool.{and_parts}
use Rattle.http_fields.specs.Laws.{TagsMatchThemselves}
use Rattle.http_fields.proofs.MembersLemmas.{is_open}
use Rattle.http_fields.proofs.VisibleLemmas.{skip_none, back_bare}
use Rattle.http_fields.proofs.TagLemmas.{tag_not_weak, tag_pass, tag_nonempty, opaque_parts}

-- inside quotes nothing cuts until the closing quote
inner_part : (inner : List ℕ) → list_all is_tag_byte inner ≡ true → parts_from true true (inner ++ 34 ∷ []) ≡ (inner ++ 34 ∷ []) ∷ []
inner_part [] pass = refl
inner_part (b ∷ inner) pass =
    let parts = and_parts (is_tag_byte b) (list_all is_tag_byte inner) pass in
    let other : eqb b 34 ≡ false = no_quote b parts.0 in
    by_test (eqb b 44) (rw other (ap (onto_first b) (inner_part inner parts.1)))
  where
    no_quote : (b : ℕ) → is_tag_byte b ≡ true → eqb b 34 ≡ false
    no_quote b h = grind (arith, nat_tests)

    by_test : (t : Bool)
        → onto_first b (parts_from true (is_open true true b) (inner ++ 34 ∷ [])) ≡ (b ∷ (inner ++ 34 ∷ [])) ∷ []
        → cond (t && false) ([] ∷ parts_from true false (inner ++ 34 ∷ [])) (onto_first b (parts_from true (is_open true true b) (inner ++ 34 ∷ [])))
        ≡ (b ∷ (inner ++ 34 ∷ [])) ∷ []
    by_test true later = later
    by_test false later = later

trimmed : (tag : List ℕ) → is_opaque_tag tag ≡ true → trim_ows tag ≡ tag
unfolding trim_ows
trimmed tag opaque =
    let pass = tag_pass tag opaque in
    let some = tag_nonempty tag opaque in
    let front : skip_ows tag ≡ tag = subst (λ (t : List ℕ). skip_ows t ≡ t) (append-nil tag) (skip_none tag [] pass some) in
    let back : skip_ows (reverse tag) ≡ reverse tag = back_bare [] tag pass some in
    rw (front, back, reverse-reverse)

tag_alone : (tag : List ℕ) → is_opaque_tag tag ≡ true → members true tag ≡ tag ∷ []
unfolding members
tag_alone tag opaque =
    let parts = opaque_parts tag opaque in
    let pass = list_all-from_AllPass is_tag_byte parts.0 parts.2 in
    let whole : parts_from true false (34 ∷ (parts.0 ++ 34 ∷ [])) ≡ (34 ∷ (parts.0 ++ 34 ∷ [])) ∷ [] = ap (onto_first 34) (inner_part parts.0 pass) in
    let one : parts_from true false tag ≡ tag ∷ [] = subst (λ (t : List ℕ). parts_from true false t ≡ t ∷ []) (sym parts.1) whole in
    ap (map trim_ows) one ∙ ap (λ (t : List ℕ). t ∷ []) (trimmed tag opaque)

no_star : (tag : List ℕ) → is_opaque_tag tag ≡ true → bytes_eq tag (codes "*") ≡ false
no_star tag opaque =
    let parts = opaque_parts tag opaque in
    subst (λ (t : List ℕ). bytes_eq t (codes "*") ≡ false) (sym parts.1) refl

listed : (tag : List ℕ) → is_opaque_tag tag ≡ true → may_be_listed tag ≡ true
listed tag opaque = by_there (is_there tag) (is_opaque_tag tag) opaque
  where
    by_there : (a b : Bool) → b ≡ true → (not a || (b || is_weak_tag tag)) ≡ true
    by_there true b h = rw h
    by_there false b h = refl

-- weakly compared, a strong tag matches exactly itself
pub matches_itself : TagsMatchThemselves
matches_itself tag current kept =
    let opaque = (and_parts _ _ kept).0 in
    rw (trimmed tag opaque, no_star tag opaque, tag_alone tag opaque, listed tag opaque, tag_not_weak tag opaque)
    (or_false (bytes_eq tag current))
  where
    or_false : (b : Bool) → (b || false) ≡ b
    or_false true = refl
    or_false false = refl
