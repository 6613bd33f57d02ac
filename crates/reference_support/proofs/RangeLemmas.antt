-- Adding up lists of ranges.
use Rattle.std.proofs.Common.{◌≡◌, ℕ, ◌+◌, ◌<◌, ◌≤◌, ◌^◌, ◌⊎◌, inr, subst, Bool, true, false, not, cond, List, [], ◌∷◌, ◌++◌, map, length, get_or, drop, Option, Some, None, Result, Ok, Err, refl, sym, ap, ◌∙◌, arith}
use Rattle.std.specs.List.{filter, sum_by}
use Rattle.std.specs.Option.{option_to_list}
use Rattle.std.proofs.lemmas.List.{drop_all, drop_more}
use Rattle.std.proofs.lemmas.List.Sums.{sum_by-cons}
use Rattle.extents.specs.Extent.{Extent, ends_past}
use Rattle.std.specs.Prelude.{MatchOption, IfSome, IfNone, OnOk}
use Rattle.tiff_dir.specs.declared.query.Query.{Query}
use Rattle.tiff_dir.specs.Query.{joined_after, blocks_of_extent, needs, cost}
use Rattle.reference_support.specs.declared.ranges.Extent as listed
use Rattle.reference_support.specs.Ranges.{blocks_inside, extent_of, extents_of}

-- ---- groups by their ranges

-- one more tile
pub one_tile_more : (range : ℕ → Option Extent) (tiles : List ℕ) (i : ℕ) (out new all : List Extent) (before after : Option Extent) → i < length tiles
    → out ++ joined_after before (map range (drop i tiles)) ≡ all
    → ((rest : List (Option Extent)) → new ++ joined_after after rest ≡ out ++ joined_after before (range (get_or tiles i 0) ∷ rest))
    → new ++ joined_after after (map range (drop (i + 1) tiles)) ≡ all
one_tile_more range tiles i out new all before after inside is step =
    let first : drop i tiles ≡ get_or tiles i 0 ∷ drop (i + 1) tiles = drop_more tiles i 0 inside in
    step (map range (drop (i + 1) tiles)) ∙ ap (λ ts. out ++ joined_after before (map range ts)) (sym first) ∙ is

on_ok_then : {T E : Type 0} (r : Result T E) (P Q : Type 0) → OnOk r P → (P → Q) → OnOk r Q
on_ok_then (Ok x) P Q p then = then p
on_ok_then (Err e) P Q p then = tt

-- the last group
pub all_grouped : {T E : Type 0} (r : Result T E) (range : ℕ → Option Extent) (tiles : List ℕ) (i : ℕ) (out new start : List Extent) (last : Option Extent) → length tiles ≤ i
    → out ++ joined_after last (map range (drop i tiles)) ≡ start ++ joined_after None (map range tiles)
    → OnOk r (new ≡ out ++ option_to_list last) → OnOk r (new ≡ start ++ joined_after None (map range tiles))
all_grouped r range tiles i out new start last past is pushed = on_ok_then r _ _ pushed (λ added.
    let none : drop i tiles ≡ [] = drop_all i tiles past in
    added ∙ (rw none at is))

-- the blocks of the ranges that end inside the file
pub sum_inside : (f : List ℕ) (rs : List Extent) → sum_by blocks_of_extent (filter (λ r. not (ends_past f r)) rs) ≡ sum_by (blocks_inside (length f)) rs
sum_inside f [] = refl
sum_inside f (r ∷ rs) = by_test (ends_past f r) refl (sum_inside f rs) ∙ sym (sum_by-cons (blocks_inside (length f)) r rs)
  where
    by_test : (b : Bool) → ends_past f r ≡ b → sum_by blocks_of_extent (filter (λ s. not (ends_past f s)) rs) ≡ sum_by (blocks_inside (length f)) rs
        → sum_by blocks_of_extent (cond (not b) (r ∷ filter (λ s. not (ends_past f s)) rs) (filter (λ s. not (ends_past f s)) rs)) ≡ blocks_inside (length f) r + sum_by (blocks_inside (length f)) rs
    by_test true past rest = rw past (rest ∙ omega arith)
    by_test false past rest = rw past (sum_by-cons blocks_of_extent r (filter (λ s. not (ends_past f s)) rs) ∙ ap (λ n. blocks_of_extent r + n) rest)

sum_seen : (g : Extent → ℕ) (rs : List listed.Extent) → sum_by (λ r. g (extent_of r)) rs ≡ sum_by g (extents_of rs)
sum_seen g [] = refl
sum_seen g (r ∷ rs) = sum_by-cons (λ x. g (extent_of x)) r rs ∙ ap (λ n. g (extent_of r) + n) (sum_seen g rs) ∙ sym (sum_by-cons g (extent_of r) (extents_of rs))

-- what is added up is the cost
pub cost_is : (f : List ℕ) (q : Query) (rs : List listed.Extent) → extents_of rs ≡ needs f q → sum_by (λ r. blocks_inside (length f) (extent_of r)) rs ≡ cost f q
unfolding cost
cost_is f q rs same =
    sum_seen (blocks_inside (length f)) rs ∙ ap (λ xs. sum_by (blocks_inside (length f)) xs) same ∙ sym (sum_inside f (needs f q))

pub some_cost : (o : Option ℕ) (total wanted : ℕ) → MatchOption o (2 ^ 64 ≤ total) (λ n. n ≡ total) → total ≡ wanted → IfSome o (λ n. n ≡ wanted)
some_cost None total wanted sum same = tt
some_cost (Some n) total wanted sum same = sum ∙ same

pub no_cost : (o : Option ℕ) (total wanted : ℕ) (P : Type 0) → MatchOption o (2 ^ 64 ≤ total) (λ n. n ≡ total) → total ≡ wanted → IfNone o (P ⊎ (2 ^ 64 ≤ wanted))
no_cost None total wanted P sum same = inr (subst (λ n. 2 ^ 64 ≤ n) same sum)
no_cost (Some n) total wanted P sum same = tt
