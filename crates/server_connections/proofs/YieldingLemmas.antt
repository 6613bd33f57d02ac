-- Looking for the connection that has waited longest.
use Rattle.std.proofs.Common.{◌≡◌, ℕ, ◌≤◌, ◌<◌, Bool, true, false, [], ◌∷◌, ◌++◌, Option, Some, None, refl, sym, ap, ◌∙◌, subst, arith, append_assoc, slice_index_or, Bor}
use Rattle.std.specs.Prelude.{All, IsSomeAnd, nat_lt}
use Rattle.std.proofs.lemmas.Bool.Decides.{nat_tests}
use Rattle.std.proofs.lemmas.List.Elements.{All-nil, All-cons, All-append, Contains-append_left, Contains-append_right}
use Rattle.lru.proofs.Splits.{Contains-head}
use Rattle.server_connections.specs.declared.timed.Timed.{Timed}
use Rattle.server_connections.specs.declared.candidate.Candidate.{Candidate}
use Rattle.cog_server.specs.Server.{ServerState}
use Rattle.server_connections.specs.declared.candidate.Candidate.TheVariants.{Outdated}
use Rattle.server_connections.specs.Table.{AreFalling, Table, timed_at}
use Rattle.server_connections.specs.Yielding.{Finds, IsFirstOutdated, IsLongest, is_longer, passes, since}
use Rattle.server_connections.proofs.TableLemmas.{found_there}

apart : {A : Type 0} (b : Bool) → b ≡ true → b ≡ false → A
apart b is isnt = let clash : true ≡ false = sym is ∙ isnt in cc

one : (P : ℕ × Timed → Type 0) (e : ℕ × Timed) → P e → All P (e ∷ [])
one P e h = All-cons P e [] h (All-nil P)

-- the next one is none of those that are looked for, or has made progress later
pub passed_by : (candidate : Candidate) (seen : Table) (k : ℕ) (p : Timed) (found : Option (ℕ × ℕ)) → passes candidate p ≡ false → Finds candidate seen found
    → Finds candidate (seen ++ (k, p) ∷ []) found
passed_by candidate seen k p None isnt h =
    All-append (λ e. passes candidate e.1 ≡ false) seen ((k, p) ∷ []) h (one (λ e. passes candidate e.1 ≡ false) (k, p) isnt)
passed_by candidate seen k p (Some f) isnt h = record {
  timed = h.timed;
  there = Contains-append_left seen ((k, p) ∷ []) (f.0, h.timed) h.there;
  passing = h.passing;
  at = h.at;
  longest = All-append (λ e. passes candidate e.1 ≡ true → f.1 ≤ since candidate e.1) seen ((k, p) ∷ []) h.longest
      (one (λ e. passes candidate e.1 ≡ true → f.1 ≤ since candidate e.1) (k, p) (λ is. apart (passes candidate p) is isnt));
}

pub later : (candidate : Candidate) (seen : Table) (k : ℕ) (p : Timed) (f : ℕ × ℕ) → f.1 ≤ since candidate p → Finds candidate seen (Some f)
    → Finds candidate (seen ++ (k, p) ∷ []) (Some f)
later candidate seen k p f after h = record {
  timed = h.timed;
  there = Contains-append_left seen ((k, p) ∷ []) (f.0, h.timed) h.there;
  passing = h.passing;
  at = h.at;
  longest = All-append (λ e. passes candidate e.1 ≡ true → f.1 ≤ since candidate e.1) seen ((k, p) ∷ []) h.longest
      (one (λ e. passes candidate e.1 ≡ true → f.1 ≤ since candidate e.1) (k, p) (λ _. after));
}

-- it is one of those, and has waited longer than all before it
earlier : (candidate : Candidate) (seen : Table) (n : ℕ) (found : Option (ℕ × ℕ)) → is_longer found n ≡ true → Finds candidate seen found
    → All (λ e. passes candidate e.1 ≡ true → n ≤ since candidate e.1) seen
earlier candidate seen n None is h = λ i d lt passing. apart (passes candidate (slice_index_or seen i d).1) passing (h i d lt)
earlier candidate seen n (Some f) is h = λ i d lt passing.
    let less : n < f.1 = grind (arith, nat_tests) in let after = h.longest i d lt passing in omega (arith, less, after)

pub taken : (candidate : Candidate) (seen : Table) (k : ℕ) (p : Timed) (n : ℕ) (found : Option (ℕ × ℕ)) → n ≡ since candidate p → passes candidate p ≡ true
    → is_longer found n ≡ true → Finds candidate seen found → Finds candidate (seen ++ (k, p) ∷ []) (Some (k, n))
taken candidate seen k p n found at passing is h = record {
  timed = p;
  there = Contains-append_right seen ((k, p) ∷ []) (k, p) (Contains-head (k, p) []);
  passing = passing;
  at = sym at;
  longest = All-append (λ e. passes candidate e.1 ≡ true → n ≤ since candidate e.1) seen ((k, p) ∷ []) (earlier candidate seen n found is h)
      (one (λ e. passes candidate e.1 ≡ true → n ≤ since candidate e.1) (k, p) (λ _. omega (arith, at)));
}

-- it has waited no longer
pub kept : (candidate : Candidate) (seen : Table) (k : ℕ) (p : Timed) (n : ℕ) (found : Option (ℕ × ℕ)) → n ≡ since candidate p
    → is_longer found n ≡ false → Finds candidate seen found → Finds candidate (seen ++ (k, p) ∷ []) found
kept candidate seen k p n None at is h = apart true refl is
kept candidate seen k p n (Some f) at is h =
    let no_less : nat_lt n f.1 ≡ false = is in
    let after : f.1 ≤ n = grind (arith, nat_tests) in
    later candidate seen k p f (omega (arith, at, after)) h

-- one more is seen, and so many are left
pub goes_behind : (seen left rest all : Table) (e : ℕ × Timed) → seen ++ left ≡ all → left ≡ e ∷ rest → (seen ++ e ∷ []) ++ rest ≡ all
goes_behind seen left rest all e is next = append_assoc seen (e ∷ []) rest ∙ ap (λ (t : Table). seen ++ t) (sym next) ∙ is

-- the one that was found is there by its number
pub longest_there : (P : Timed → Type 0) (candidate : Candidate) (table : Table) (k moment n : ℕ) → ((p : Timed) → passes candidate p ≡ true → P p)
    → AreFalling n table → IsLongest candidate table k moment → IsSomeAnd (timed_at k table) P
longest_there P candidate table k moment n passing falling is =
    subst (λ (o : Option Timed). IsSomeAnd o P) (sym (found_there k n is.timed table falling is.there)) (passing is.timed is.passing)

-- of those that keep old bytes
pub finds_outdated : (server : Bor ServerState) (table : Table) (found : Option (ℕ × ℕ)) → Finds (Outdated server) table found
    → IsFirstOutdated server.now.catalogue table found
finds_outdated server table None h = h
finds_outdated server table (Some found) h =
    record { timed = h.timed; there = h.there; passing = h.passing; at = h.at; longest = h.longest }
