-- A slot that is taken for a newcomer.
use Rattle.std.proofs.Common.{◌≡◌, ◌+◌, ℕ, [], ◌∷◌, length, nat_eq, Option, Some, None, refl, sym, subst, arith, inl, inr}
use Rattle.std.specs.Prelude.{IsSomeAnd}
use Rattle.std.specs.Map.{remove_entry}
use Rattle.std.proofs.lemmas.Bool.{cases_Bool}
use Rattle.std.proofs.lemmas.Option.{none-some}
use Rattle.server_connections.specs.declared.timed.Timed.{Timed}
use Rattle.server_connections.specs.Table.{Table, timed_at}
use Rattle.server_connections.specs.Yielding.{MayYield}

-- one that is there is taken away, and there is one less
pub one_less : (k : ℕ) (table : Table) (p : Timed) → timed_at k table ≡ Some p → length (remove_entry (nat_eq k) table) + 1 ≡ length table
one_less k [] p there = absurd (none-some p there)
one_less k (e ∷ table) p there =
    elim (cases_Bool (nat_eq k e.0)) [
      | inl same ↦ rw same (omega arith)
      | inr other ↦ rw other (omega (arith, one_less k table p (rw other at there)))
    ]

there_less : (P : Timed → Type 0) (k : ℕ) (table : Table) (o : Option Timed) → timed_at k table ≡ o → IsSomeAnd o P
    → length (remove_entry (nat_eq k) table) + 1 ≡ length table
there_less P k table None is may = absurd may
there_less P k table (Some p) is may = one_less k table p is

pub found_less : (P : Timed → Type 0) (k : ℕ) (old new : Table) → IsSomeAnd (timed_at k old) P → new ≡ remove_entry (nat_eq k) old
    → length new + 1 ≡ length old
found_less P k old new may is =
    subst (λ (table : Table). length table + 1 ≡ length old) (sym is) (there_less P k old (timed_at k old) refl may)

pub taken_less : (now patience k : ℕ) (old new : Table) → IsSomeAnd (timed_at k old) (MayYield now patience)
    → new ≡ remove_entry (nat_eq k) old → length new + 1 ≡ length old
taken_less now patience k old new may is = found_less (MayYield now patience) k old new may is
