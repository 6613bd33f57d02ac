-- Bytes that are written: the front of those that wait.
use Rattle.std.proofs.Common.{◌≡◌, ◌≢◌, ◌∙◌, ◌-◌, ◌++◌, ◌≤◌, arith, min, ℕ, List, [], Option, Result, Ok, Err, ap, append_assoc, length, subst, sym, take, drop, take-append-drop}
use Rattle.std.specs.Io.{WritesAtMost}
use Rattle.std.specs.Io.KnownBytes.{Appends, WriteAppends}
use Rattle.std.proofs.lemmas.List.{append-nil, length-take, take-append-le, take_all}

-- a part of a front is a part of the whole
part_of : (n : ℕ) (front rest whole : List ℕ) → front ++ rest ≡ whole → n ≤ length front → take n front ≡ take n whole
part_of n front rest whole is few = sym (take-append-le n front rest few) ∙ ap (take n) is

-- so is what is written of it
written_of : {E : Type 0} (old new : Option (List ℕ)) (r : Result ℕ E) (front rest whole : List ℕ) → front ++ rest ≡ whole → WritesAtMost r front
    → WriteAppends old new r front → WriteAppends old new r whole
written_of old new (Ok n) front rest whole is few written = subst (Appends old new) (part_of n front rest whole is few) written
written_of old new (Err e) front rest whole is few written = written

-- the front of a head alone
pub of_head : {E : Type 0} (old new : Option (List ℕ)) (r : Result ℕ E) (a : ℕ) (head body : List ℕ) → WritesAtMost r (take a head)
    → WriteAppends old new r (take a head) → WriteAppends old new r (head ++ body)
of_head old new r a head body few written =
    written_of old new r (take a head) (drop a head ++ body) (head ++ body)
    (sym (append_assoc (take a head) (drop a head) body) ∙ ap (λ h. h ++ body) (take-append-drop a head)) few written

-- a head, and the front of a body
pub of_both : {E : Type 0} (old new : Option (List ℕ)) (r : Result ℕ E) (a b : ℕ) (head body first second : List ℕ) → first ≡ take a head → second ≡ take b body
    → length head ≤ a → WritesAtMost r (first ++ (second ++ [])) → WriteAppends old new r (first ++ (second ++ [])) → WriteAppends old new r (head ++ body)
of_both old new r a b head body first second is_head is_body all few written =
    written_of old new r (first ++ (second ++ [])) (drop b body) (head ++ body)
    (ap (λ l. (first ++ l) ++ drop b body) (append-nil second) ∙ append_assoc first second (drop b body)
    ∙ ap (λ l. first ++ (l ++ drop b body)) is_body ∙ ap (λ l. first ++ l) (take-append-drop b body)
    ∙ ap (λ h. h ++ body) (is_head ∙ take_all a head all)) few written

-- where some of a body fits, all of the head before it does
pub head_fits : (most a b : ℕ) (head body : List ℕ) → a ≡ min (length head) most → b ≡ min (length body) (most - length (take a head))
    → length (take b body) ≢ 0 → length head ≤ a
head_fits most a b head body is_a is_b some = omega (arith, length-take a head, length-take b body)
