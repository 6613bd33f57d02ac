-- What is read by steps, each where the one before it has read something.
use Rattle.std.proofs.Common.{◌≡◌, ℕ, ◌+◌, ◌<◌, Bool, true, false, List, length, Option, Some, None, sym, ◌∙◌, inl, inr, nat_le}
use Rattle.std.specs.Prelude.{IfSome}
use Rattle.std.proofs.lemmas.Bool.{cases_Bool, leb-true, leb-false}
use Rattle.known_fields.specs.Reads.{AreAllKnown, Reads}

-- the same is said of each file that the bytes are of
pub instead : {A : Type 0} {is_of : List ℕ → Type 0} {is_known : ℕ → ℕ → Bool} (s t : List ℕ → Option A) (r : Option A)
    → ((f : List ℕ) → is_of f → t f ≡ s f) → Reads is_of is_known s r → Reads is_of is_known t r
instead {A} {is_of} {is_known} s t r same reads = record { known = at r reads.known; whole = λ f of all. reads.whole f of all ∙ sym (same f of) } where
  at : (x : Option A) → IfSome x (λ v. (f : List ℕ) → is_of f → s f ≡ Some v) → IfSome x (λ v. (f : List ℕ) → is_of f → t f ≡ Some v)
  at None known = tt
  at (Some v) known = λ f of. same f of ∙ known f of

-- nothing was read in the step before
pub none_then : {A B : Type 0} {is_of : List ℕ → Type 0} {is_known : ℕ → ℕ → Bool} (s : List ℕ → Option A) (t : List ℕ → Option B)
    → ((f : List ℕ) → is_of f → s f ≡ None → t f ≡ None) → Reads is_of is_known s None → Reads is_of is_known t None
none_then s t ends reads = record { known = tt; whole = λ f of all. sym (ends f of (sym (reads.whole f of all))) }

-- what each file says that the bytes are of
pub settled : {A : Type 0} {is_of : List ℕ → Type 0} {is_known : ℕ → ℕ → Bool} (s : List ℕ → Option A) (r : Option A)
    → ((f : List ℕ) → is_of f → s f ≡ r) → Reads is_of is_known s r
settled {A} {is_of} {is_known} s r same = record { known = at r same; whole = λ f of all. sym (same f of) } where
  at : (x : Option A) → ((f : List ℕ) → is_of f → s f ≡ x) → IfSome x (λ v. (f : List ℕ) → is_of f → s f ≡ Some v)
  at None same = tt
  at (Some v) same = same

-- what isn't known of a file that is known is outside it
pub outside : (is_known : ℕ → ℕ → Bool) (f : List ℕ) (first len : ℕ) → AreAllKnown is_known f → is_known first len ≡ false → 0 < len → length f < first + len
outside is_known f first len all unknown some = elim (cases_Bool (nat_le (first + len) (length f))) [
  | inl inside ↦ (let seen : is_known first len ≡ true = all first len some (leb-true _ _ inside) in absurd (cc))
  | inr past ↦ leb-false _ _ past
]
