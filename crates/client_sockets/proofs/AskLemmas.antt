-- The answer to a request comes next once it was asked for.
use Rattle.std.proofs.Common.{◌≡◌, ◌++◌, ◌∷◌, ℕ, true, List, [], ap, arith, inl, inr, refl, sym, ◌∙◌}
use Rattle.std.specs.Prelude.{◌&&◌}
use Rattle.std.specs.Str.{bytes_eq}
use Rattle.std.proofs.lemmas.Bool.{cases_Bool}
use Rattle.std.proofs.lemmas.Slice.Eq.{bytes_eq-Decides}
use Rattle.client_connection.specs.Status.{Status, after_ask, is_between, turn_after, turn_of, turned}
use Rattle.client_connection.specs.declared.parts.Turn.{Turn}
use Rattle.client_connection.specs.declared.parts.Turn.TheVariants.{Anew, Sends, Sent}

same_text : (o text : List ℕ) → bytes_eq o text ≡ true → o ≡ text
same_text o text e = grind (arith, bytes_eq-Decides)

sent_first : (out : List (List ℕ)) (text : List ℕ) → turn_after out text ≡ Sent → (early : List (List ℕ)) × (out ≡ text ∷ early)
sent_first [] text e = (let clash : Sends ≡ Sent = e in cc)
sent_first (o ∷ os) text e = elim (cases_Bool (bytes_eq o text)) [
  | inl same ↦ (os, ap (λ (t : List ℕ). t ∷ os) (same_text o text same))
  | inr other ↦ (let clash : Anew ≡ Sent = rw other at e in cc)
]

sends_first : (out : List (List ℕ)) (text : List ℕ) → turn_after out text ≡ Sends → out ++ text ∷ [] ≡ text ∷ []
sends_first [] text e = refl
sends_first (o ∷ os) text e = elim (cases_Bool (bytes_eq o text)) [
  | inl same ↦ (let clash : Sent ≡ Sends = rw same at e in cc)
  | inr other ↦ (let clash : Anew ≡ Sends = rw other at e in cc)
]

-- a request that comes on the connection comes after those that are out
on_it : (t : Turn) (text : List ℕ) (s : Status) → (t ≡ Anew → ⊥) → turn_of text s ≡ t → turn_after s.out text ≡ t
on_it t text s other e = elim (cases_Bool (s.is_open && is_between s)) [
  | inl opens ↦ rw opens at e
  | inr none ↦ absurd (other (sym (rw none at e)))
]

turned_first : (t : Turn) (text : List ℕ) (s : Status) → turn_of text s ≡ t → (early : List (List ℕ)) × ((turned t text s).out ≡ text ∷ early)
turned_first Sent text s e = sent_first s.out text (on_it Sent text s (λ x. let clash : Sent ≡ Anew = x in cc) e)
turned_first Sends text s e = ([], sends_first s.out text (on_it Sends text s (λ x. let clash : Sends ≡ Anew = x in cc) e))
turned_first Anew text s e = ([], refl)

pub ask_first : (text : List ℕ) (s t : Status) → t ≡ after_ask text s → (early : List (List ℕ)) × (t.out ≡ text ∷ early)
ask_first text s t is =
    let first = turned_first (turn_of text s) text s refl in
    (first.0, ap (λ (x : Status). x.out) is ∙ first.1)
