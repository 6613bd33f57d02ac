-- Requests that are sent early are requests of the client.
use Rattle.std.proofs.Common.{◌≡◌, ◌⊎◌, ◌<◌, ◌++◌, ◌∷◌, ℕ, List, [], inl, inr, length, sym, subst}
use Rattle.std.specs.Global.{Vec}
use Rattle.std.specs.List.{All, AllZip}
use Rattle.std.proofs.lemmas.List.Elements.{All-cons, All-get_or, All-head, All-nil, All-tail}
use Rattle.std.specs.Prelude.{get_or}
use Rattle.extents.specs.declared.span.Span.{Span}
use Rattle.client_connection.specs.Inside.{texts}
use Rattle.cog_client.specs.Client.{ClientState}
use Rattle.cog_client.specs.Early.{AreEarlyRequests, IsEarly, IsRequestFor}
use Rattle.client_dialogue.specs.Goes.{IsEarlyFor}

zipped : (c : ClientState) (spans : List Span) (ts : List (List ℕ)) → All (IsEarly c) spans → AllZip (IsRequestFor c) spans ts → All (IsEarlyFor c) ts
zipped c [] [] early asks = All-nil (IsEarlyFor c)
zipped c [] (t ∷ ts) early asks = absurd asks
zipped c (span ∷ spans) [] early asks = absurd asks
zipped c (span ∷ spans) (t ∷ ts) early asks =
    All-cons (IsEarlyFor c) t ts (span, All-head (IsEarly c) span spans early, asks.0) (zipped c spans ts (All-tail (IsEarly c) span spans early) asks.1)

-- what holds of all of them holds of the last ones
of_last : (P : List ℕ → Type 0) (xs ys : List (List ℕ)) → All P (xs ++ ys) → All P ys
of_last P [] ys h = h
of_last P (x ∷ xs) ys h = of_last P xs ys (All-tail P x (xs ++ ys) h)

of_texts : (P : List ℕ → Type 0) (vs : List (Vec ℕ)) → All P (texts vs) → All (λ v. P v.items) vs
of_texts P [] h = All-nil (λ v. P v.items)
of_texts P (v ∷ vs) h =
    All-cons (λ v. P v.items) v vs (All-head P v.items (texts vs) h) (of_texts P vs (All-tail P v.items (texts vs) h))

-- those that weren't sent so far are requests of the client
pub unsent_early : (c : ClientState) (requests left : List (Vec ℕ)) (sent : List (List ℕ)) → AreEarlyRequests c (texts requests)
    → (left ≡ []) ⊎ (texts requests ≡ sent ++ texts left) → All (λ v. IsEarlyFor c v.items) left
unsent_early c requests left sent are rest = elim rest [
  | inl none ↦ subst (All (λ v. IsEarlyFor c v.items)) (sym none) (All-nil (λ v. IsEarlyFor c v.items))
  | inr some ↦ of_texts (IsEarlyFor c) left (of_last (IsEarlyFor c) sent (texts left)
      (subst (All (IsEarlyFor c)) some (zipped c are.spans (texts requests) are.early.each are.asks)))
]

-- and so is each of them
pub item_early : (c : ClientState) (made requests left : List (Vec ℕ)) (sent : List (List ℕ)) (i : ℕ) (item : Vec ℕ) (text : List ℕ)
    → AreEarlyRequests c (texts made) → requests ≡ made → (left ≡ []) ⊎ (texts requests ≡ sent ++ texts left)
    → i < length left → item ≡ get_or left i item → text ≡ item.items → IsEarlyFor c text
item_early c made requests left sent i item text are same rest within is reads =
    let all = unsent_early c requests left sent (subst (λ (vs : List (Vec ℕ)). AreEarlyRequests c (texts vs)) (sym same) are) rest in
    subst (IsEarlyFor c) (sym reads)
    (subst (λ (v : Vec ℕ). IsEarlyFor c v.items) (sym is) (All-get_or (λ v. IsEarlyFor c v.items) left i item within all))
