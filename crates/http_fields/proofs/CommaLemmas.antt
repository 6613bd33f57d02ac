-- Where no quote counts, a list is cut at each of its commas.
use Rattle.std.proofs.Common.{◌≡◌, ℕ, zero, suc, Bool, true, false, cond, ◌&&◌, List, [], ◌∷◌, refl, sym, arith}
use Rattle.std.specs.Prelude.{All}
use Rattle.std.specs.List.{onto_first}
use Rattle.std.specs.Str.Iter.{LacksByte}
use Rattle.std.proofs.Math.Dec.{eqb}
use Rattle.std.proofs.lemmas.Bool.{eqb-false}
use Rattle.std.proofs.lemmas.List.Elements.{All-cons, All-tail, All-get_or}
use Rattle.http_fields.specs.Members.{parts_from, members}
use Rattle.http_fields.specs.Laws.{MembersStandBetweenCommas}
use Rattle.http_fields.proofs.ListLemmas.{joined_parts, some_parts}

lacks_more : (b : ℕ) (part : List ℕ) → eqb b 44 ≡ false → LacksByte 44 part → LacksByte 44 (b ∷ part)
lacks_more b part other later zero inside = eqb-false b 44 other
lacks_more b part other later (suc k) inside = later k (omega arith)

lacks_onto : (b : ℕ) (parts : List (List ℕ)) → eqb b 44 ≡ false → All (LacksByte 44) parts → All (LacksByte 44) (onto_first b parts)
lacks_onto b [] other all =
    All-cons (LacksByte 44) (b ∷ []) [] (lacks_more b [] other (λ k inside. absurd (omega arith))) (λ k d inside. absurd (omega arith))
lacks_onto b (part ∷ parts) other all =
    All-cons (LacksByte 44) (b ∷ part) parts
    (lacks_more b part other (All-get_or (LacksByte 44) (part ∷ parts) 0 [] (omega arith) all))
    (All-tail (LacksByte 44) part parts all)

-- no comma is left in a part
lacks_parts : (bytes : List ℕ) → All (LacksByte 44) (parts_from false false bytes)
lacks_parts [] = All-cons (LacksByte 44) [] [] (λ k inside. absurd (omega arith)) (λ k d inside. absurd (omega arith))
lacks_parts (b ∷ bytes) = by_test (eqb b 44) refl (lacks_parts bytes)
  where
    by_test : (t : Bool) → eqb b 44 ≡ t → All (LacksByte 44) (parts_from false false bytes)
        → All (LacksByte 44) (cond (t && true) ([] ∷ parts_from false false bytes) (onto_first b (parts_from false false bytes)))
    by_test true is later = All-cons (LacksByte 44) [] (parts_from false false bytes) (λ k inside. absurd (omega arith)) later
    by_test false is later = lacks_onto b (parts_from false false bytes) is later

pub members_stand_between_commas : MembersStandBetweenCommas
unfolding members
members_stand_between_commas value =
    (parts_from false false value, some_parts false false value, lacks_parts value, sym (joined_parts false false value), refl)
