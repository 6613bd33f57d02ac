-- Turns one behind another, and what their first step tells.
use Rattle.std.proofs.Common.{◌≡◌, ◌∙◌, ◌⊎◌, ◌↔◌, ℕ, Bool, true, false, subst, inl, inr}
use Rattle.std.specs.Prelude.{IsTrue}
use Rattle.server_connections.specs.declared.table.Connections.{Connections}
use Rattle.server_sockets.specs.Turns.{KeepsSlots}

-- what two steps keep, both together do
pub keeps_on : (k : ℕ) (a b c : Connections) → KeepsSlots k a b → KeepsSlots k b c → KeepsSlots k a c
keeps_on k a b c first then = record {
  here = then.here ∙ first.here;
  others = λ other ne. then.others other ne ∙ first.others other ne;
  cap = then.cap ∙ first.cap;
  next = then.next ∙ first.next;
}

-- what a step finds was so at the beginning, if it is the first, or if an earlier one found it
pub first_tells : {C : Type 0} (P : C → Type 0) (counter : ℕ) (first now : C) → ((counter ≡ 0) × (now ≡ first)) ⊎ P first → P now → P first
first_tells P counter first now (inl yet) here = subst P yet.1 here
first_tells P counter first now (inr before) here = before

-- what a test denies isn't so
pub not_so : {P : Type 0} (b : Bool) → b ≡ false → (IsTrue b ↔ P) → ¬ P
not_so b is same so = let both : b ≡ true = same.1 so in cc
