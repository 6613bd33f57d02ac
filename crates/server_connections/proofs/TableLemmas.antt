-- The table of connections.
use Rattle.std.proofs.Common.{◌≡◌, ◌≢◌, ℕ, ◌+◌, ◌-◌, ◌<◌, ◌≤◌, true, false, cond, nat_eq, [], ◌∷◌, length, take, Option, Some, None, Result, Ok, Err, refl, sym, ap, ◌∙◌, subst, arith, inl, inr}
use Rattle.std.specs.Prelude.{Contains, if◌then◌else◌, OnErr, option_map, is_some}
use Rattle.std.specs.Map.{lookup_entry, remove_entry, set_value}
use Rattle.std.proofs.lemmas.Bool.{cases_Bool}
use Rattle.std.proofs.lemmas.Bool.Decides.{nat_tests}
use Rattle.std.proofs.lemmas.Option.{none-some}
use Rattle.std.proofs.lemmas.List.{take_all}
use Rattle.lru.proofs.Splits.{Contains-cons, Contains-nil}
use Rattle.lru.specs.LruCache.{LruCache, put_entries}
use Rattle.cog_server.specs.Additions.{ServiceState}
use Rattle.cog_server.specs.Status.{GoesOnBy}
use Rattle.server_connections.specs.declared.timed.Timed.{Timed}
use Rattle.server_connections.specs.Table.{Table, timed_at, OthersStay, Changes, Becomes, GoesOnAt, AreFalling}

pub anyway : {A E : Type 0} {P : Type 0} (r : Result A E) → P → OnErr r P
anyway (Ok a) p = tt
anyway (Err e) p = p

same_number : (k : ℕ) → nat_eq k k ≡ true
same_number k = grind (arith, nat_tests)

is_number : (k j : ℕ) → nat_eq k j ≡ true → j ≡ k
is_number k j e = grind (arith, nat_tests)

other_number : (k j : ℕ) → k ≢ j → nat_eq k j ≡ false
other_number k j ne = grind (arith, nat_tests)

-- ---- changes in place

set_here : (k : ℕ) (table : Table) (p w : Timed) → timed_at k table ≡ Some p → timed_at k (set_value (nat_eq k) table w) ≡ Some w
set_here k [] p w e = absurd (none-some p e)
set_here k (x ∷ table) p w e =
    elim (cases_Bool (nat_eq k x.0)) [
      | inl same ↦ rw (same, same) refl
      | inr other ↦ rw (other, other) (set_here k table p w (rw other at e))
    ]

pub others_kept : (k : ℕ) (table : Table) (w : Timed) → OthersStay k table (set_value (nat_eq k) table w)
others_kept k [] w other ne = refl
others_kept k (x ∷ table) w other ne =
    elim (cases_Bool (nat_eq k x.0)) [
      | inl same ↦ (let no : nat_eq other x.0 ≡ false = other_number other x.0 (λ e. ne (e ∙ is_number k x.0 same)) in rw (same, no) refl)
      | inr different ↦ rw different (ap (cond (nat_eq other x.0) (Some x.1)) (others_kept k table w other ne))
    ]

pub becomes : (k : ℕ) (table : Table) (p w : Timed) → timed_at k table ≡ Some p → Becomes k (Some w) table (set_value (nat_eq k) table w)
becomes k table p w found = record { here = set_here k table p w found; others = others_kept k table w }

pub changes : (k : ℕ) (f : Timed → Timed) (table : Table) (p w : Timed) → timed_at k table ≡ Some p → w ≡ f p
    → Changes k f table (set_value (nat_eq k) table w)
changes k f table p w found is = record {
  here = set_here k table p w found ∙ ap Some is ∙ sym (ap (option_map f) found);
  others = others_kept k table w;
}

pub nothing_changes : (k : ℕ) (f : Timed → Timed) (table : Table) → timed_at k table ≡ None → Changes k f table table
nothing_changes k f table none = record { here = none ∙ sym (ap (option_map f) none); others = λ other ne. refl }

pub is_there : (o : Option Timed) (p : Timed) → o ≡ Some p → true ≡ is_some o
is_there o p found = sym (ap is_some found)

pub none_there : (o : Option Timed) → o ≡ None → false ≡ is_some o
none_there o none = sym (ap is_some none)

pub goes_nowhere : (service : ServiceState) (k now : ℕ) (o : Option Timed) (table : Table) → o ≡ None → GoesOnAt service k now o table table None
goes_nowhere service k now o table none = subst (λ (x : Option Timed). GoesOnAt service k now x table table None) (sym none) (refl, refl)

pub goes_on_at : (service : ServiceState) (k now : ℕ) (table : Table) (p w : Timed) (status : Option ℕ) → timed_at k table ≡ Some p
    → GoesOnBy service p.connection w.connection status → w.progress ≡ (if is_some status then now else p.progress) → w.tried ≡ p.tried
    → GoesOnAt service k now (timed_at k table) table (set_value (nat_eq k) table w) status
goes_on_at service k now table p w status found goes progress tried =
    let same : w ≡ record { connection = w.connection; progress = if is_some status then now else p.progress; tried = p.tried } =
    λ i. record { connection = w.connection; progress = progress i; tried = tried i } in
    let b = becomes k table p w found in
    subst (λ (x : Option Timed). GoesOnAt service k now x table (set_value (nat_eq k) table w) status) (sym found)
    (w.connection, goes, record { here = b.here ∙ ap Some same; others = b.others })

-- ---- numbers

pub falling_set : (k n : ℕ) (table : Table) (w : Timed) → AreFalling n table → AreFalling n (set_value (nat_eq k) table w)
falling_set k n [] w h = tt
falling_set k n (x ∷ table) w h =
    elim (cases_Bool (nat_eq k x.0)) [
      | inl same ↦ rw same h
      | inr other ↦ rw other (h.0, falling_set k x.0 table w h.1)
    ]

-- they fall from below any greater number, too
further : (n m : ℕ) (table : Table) → n ≤ m → AreFalling n table → AreFalling m table
further n m [] le h = tt
further n m (x ∷ table) le h = (omega (arith, le, h.0), h.1)

falling_without : (k n : ℕ) (table : Table) → AreFalling n table → AreFalling n (remove_entry (nat_eq k) table)
falling_without k n [] h = tt
falling_without k n (x ∷ table) h =
    elim (cases_Bool (nat_eq k x.0)) [
      | inl same ↦ rw same (further x.0 n table (omega (arith, h.0)) h.1)
      | inr other ↦ rw other (h.0, falling_without k x.0 table h.1)
    ]

pub falling_removed : (k n : ℕ) (table new : Table) → new ≡ remove_entry (nat_eq k) table → AreFalling n table → AreFalling n new
falling_removed k n table new is h = subst (AreFalling n) (sym is) (falling_without k n table h)

-- a number that isn't below that one isn't there
absent : (k n : ℕ) (table : Table) → AreFalling n table → n ≤ k → (lookup_entry (nat_eq k) table ≡ None) × (timed_at k table ≡ None)
absent k n [] h le = (refl, refl)
absent k n (x ∷ table) h le =
    let no : nat_eq k x.0 ≡ false = other_number k x.0 (omega (arith, le, h.0)) in
    rw no (absent k x.0 table h.1 (omega (arith, le, h.0)))

pub new_number : (n : ℕ) (table : Table) → AreFalling n table → timed_at n table ≡ None
new_number n table h = (absent n n table h (omega arith)).1

-- each number is there once
removed : (k n : ℕ) (table : Table) → AreFalling n table → timed_at k (remove_entry (nat_eq k) table) ≡ None
removed k n [] h = refl
removed k n (x ∷ table) h =
    elim (cases_Bool (nat_eq k x.0)) [
      | inl same ↦ rw same (absent k x.0 table h.1 (let is : x.0 ≡ k = is_number k x.0 same in omega (arith, is))).1
      | inr other ↦ rw (other, other) (removed k x.0 table h.1)
    ]

pub gone : (k n : ℕ) (table new : Table) → new ≡ remove_entry (nat_eq k) table → AreFalling n table → timed_at k new ≡ None
gone k n table new is h = ap (timed_at k) is ∙ removed k n table h

-- what is there has a lower number
below : (k n : ℕ) (p : Timed) (table : Table) → AreFalling n table → Contains table (k, p) → k < n
below k n p [] h there = absurd (Contains-nil (k, p) there)
below k n p (x ∷ table) h there = elim (Contains-cons x table (k, p) there) [
  | inl same ↦ (let is : x.0 ≡ k = ap (λ (e : ℕ × Timed). e.0) same in let less = h.0 in omega (arith, is, less))
  | inr later ↦ (let less = h.0 in let lower = below k x.0 p table h.1 later in omega (arith, less, lower))
]

-- what is there is found by its number
pub found_there : (k n : ℕ) (p : Timed) (table : Table) → AreFalling n table → Contains table (k, p) → timed_at k table ≡ Some p
found_there k n p [] h there = absurd (Contains-nil (k, p) there)
found_there k n p (x ∷ table) h there = elim (Contains-cons x table (k, p) there) [
  | inl same ↦ subst (λ (e : ℕ × Timed). timed_at k (e ∷ table) ≡ Some p) (sym same) (rw (same_number k) refl)
  | inr later ↦
      (let lower = below k x.0 p table h.1 later in
      let no : nat_eq k x.0 ≡ false = other_number k x.0 (λ e. omega (arith, e, lower)) in rw no (found_there k x.0 p table h.1 later))
]

pub accepted : (c : LruCache ℕ Timed) (n : ℕ) (p : Timed) → AreFalling n c.entries → length c.entries < c.cap
    → put_entries nat_eq c n p ≡ (n, p) ∷ c.entries
accepted c n p h room =
    let all : take (c.cap - 1) c.entries ≡ c.entries = take_all (c.cap - 1) c.entries (omega (arith, room)) in
    rw (absent n n c.entries h (omega arith)).0 (ap (λ (t : Table). (n, p) ∷ t) all)

pub becomes_new : (n : ℕ) (p : Timed) (table new : Table) → new ≡ (n, p) ∷ table → Becomes n (Some p) table new
becomes_new n p table new is =
    subst (Becomes n (Some p) table) (sym is) (record {
      here = rw (same_number n) refl;
      others = λ other ne. (let no : nat_eq other n ≡ false = other_number other n ne in rw no refl);
    })

pub falling_accepted : (n : ℕ) (p : Timed) (table new : Table) → AreFalling n table → new ≡ (n, p) ∷ table → AreFalling (n + 1) new
falling_accepted n p table new h is = subst (AreFalling (n + 1)) (sym is) (omega arith, h)

pub one_more : (e : ℕ × Timed) (table new : Table) → new ≡ e ∷ table → length new ≡ length table + 1
one_more e table new is = let long = ap length is in omega (arith, long)

-- ---- the one that is taken away

still : (k other : ℕ) (table : Table) → other ≢ k → timed_at other (remove_entry (nat_eq k) table) ≡ timed_at other table
still k other [] ne = refl
still k other (x ∷ table) ne =
    elim (cases_Bool (nat_eq k x.0)) [
      | inl same ↦ (let no : nat_eq other x.0 ≡ false = other_number other x.0 (λ e. ne (e ∙ is_number k x.0 same)) in rw (same, no) refl)
      | inr different ↦ rw different (ap (cond (nat_eq other x.0) (Some x.1)) (still k other table ne))
    ]

fewer_without : (k : ℕ) (table : Table) → length (remove_entry (nat_eq k) table) ≤ length table
fewer_without k [] = omega arith
fewer_without k (x ∷ table) =
    elim (cases_Bool (nat_eq k x.0)) [
      | inl same ↦ rw same (omega arith)
      | inr other ↦ rw other (let fewer = fewer_without k table in omega (arith, fewer))
    ]

pub fewer : (k : ℕ) (table new : Table) → new ≡ remove_entry (nat_eq k) table → length new ≤ length table
fewer k table new is = subst (λ (t : Table). length t ≤ length table) (sym is) (fewer_without k table)

pub others_still : (k : ℕ) (table new : Table) → new ≡ remove_entry (nat_eq k) table → OthersStay k table new
others_still k table new is other ne = ap (timed_at other) is ∙ still k other table ne
