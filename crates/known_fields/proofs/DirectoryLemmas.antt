-- Which directories a file has.
use Rattle.std.proofs.Common.{◌≡◌, ◌≢◌, ℕ, zero, suc, ◌+◌, ◌-◌, ◌<◌, ◌≤◌, Bool, true, false, List, [], ◌∷◌, Option, Some, None, refl, sym, ap, ◌∙◌, arith, inl, inr, nat_le, nat_lt, subst}
use Rattle.std.specs.Prelude.{◌&&◌, is_some, IsSome}
use Rattle.std.specs.List.{filter, range_with_len}
use Rattle.std.specs.Option.{option_map_or}
use Rattle.std.proofs.lemmas.Bool.{cases_Bool, false_from_ne_true, leb-false, leb-true, lt-ltb}
use Rattle.tiff_dir.specs.File.{directories, directory, has_directory, number, order_of}
use Rattle.known_fields.specs.Directories.{IsChainWhole}

-- Numbers of which the first k pass
kept_first : (p : ℕ → Bool) (a n k : ℕ) → k ≤ n → ((j : ℕ) → a ≤ j → j < a + k → p j ≡ true) → ((j : ℕ) → a + k ≤ j → p j ≡ false)
    → filter p (range_with_len a n) ≡ range_with_len a k
kept_first p a zero k few passes fails = let none : k ≡ 0 = omega arith in rw none refl
kept_first p a (suc n) zero few passes fails =
    let fails' : (j : ℕ) → a + 1 + 0 ≤ j → p j ≡ false = λ j past. fails j (omega arith) in
    rw (fails a (omega arith)) (kept_first p (a + 1) n 0 (omega arith) (λ j low high. absurd (omega arith)) fails')
kept_first p a (suc n) (suc k) few passes fails =
    rw (passes a (omega arith) (omega arith))
    (ap (λ xs. a ∷ xs) (kept_first p (a + 1) n k (omega arith) (λ j low high. passes j (omega arith) (omega arith)) (λ j past. fails j (omega arith))))

-- The first directory
pub has_first : (f : List ℕ) → has_directory f 0 ≡ true
unfolding has_directory
has_first f = refl

-- the next one is there where its place isn't 0
pub has_next : (f : List ℕ) (k next at : ℕ) → next ≡ k + 1 → has_directory f k ≡ true → directory f next ≡ Some at → 0 < at → has_directory f next ≡ true
unfolding has_directory
has_next f k next at is here told some = let e : next ≡ suc k = omega arith in
    let told' : directory f (suc k) ≡ Some at = rw (sym e) told in
    rw (e, here, told', lt-ltb 0 at some) refl

pub has_no_next : (f : List ℕ) (k next : ℕ) → next ≡ k + 1 → has_directory f k ≡ true → directory f next ≡ Some 0 → has_directory f next ≡ false
unfolding has_directory
has_no_next f k next is here told = let e : next ≡ suc k = omega arith in
    let told' : directory f (suc k) ≡ Some 0 = rw (sym e) told in
    rw (e, here, told') refl

first_holds : (a b : Bool) → (a && b) ≡ true → a ≡ true
first_holds true b e = refl
first_holds false b e = e

shorter : (f : List ℕ) (k : ℕ) → has_directory f (suc k) ≡ true → has_directory f k ≡ true
unfolding has_directory
shorter f k here = first_holds _ _ here

-- those before one that is there are there
has_before : (f : List ℕ) (j k : ℕ) → j ≤ k → has_directory f k ≡ true → has_directory f j ≡ true
has_before f j zero le here = let is : j ≡ 0 = omega arith in subst (λ i. has_directory f i ≡ true) (sym is) here
has_before f j (suc k) le here = elim (cases_Bool (nat_le j k)) [
  | inl before ↦ has_before f j k (leb-true j k before) (shorter f k here)
  | inr past ↦ (let more = leb-false j k past in let is : j ≡ suc k = omega arith in subst (λ i. has_directory f i ≡ true) (sym is) here)
]

-- those after one that isn't there aren't
has_after : (f : List ℕ) (j k : ℕ) → j ≤ k → has_directory f j ≡ false → has_directory f k ≡ false
has_after f j k le gone = false_from_ne_true _ (λ here. let there = has_before f j k le here in let e : true ≡ false = sym there ∙ gone in cc)

pub counted : (f : List ℕ) (k n : ℕ) → n ≡ k + 1 → n ≤ 16 → has_directory f k ≡ true → has_directory f n ≡ false → directories f ≡ range_with_len 0 n
unfolding directories
counted f k n is few here gone = kept_first (has_directory f) 0 16 n few
    (λ j low high. has_before f j k (omega arith) here) (λ j past. has_after f n j (omega arith) gone)

-- there are sixteen where the last one is there
pub counted_all : (f : List ℕ) → has_directory f 15 ≡ true → directories f ≡ range_with_len 0 16
unfolding directories
counted_all f here = all (has_directory f) 0 16 (λ j low high. has_before f j 15 (omega arith) here) where
  all : (p : ℕ → Bool) (a n : ℕ) → ((j : ℕ) → a ≤ j → j < a + n → p j ≡ true) → filter p (range_with_len a n) ≡ range_with_len a n
  all p a zero passes = refl
  all p a (suc n) passes = rw (passes a (omega arith) (omega arith)) (ap (λ xs. a ∷ xs) (all p (a + 1) n (λ j low high. passes j (omega arith) (omega arith))))

-- A chain that breaks

none_there : {A : Type 0} (o : Option A) → o ≡ None → IsSome o → ⊥
none_there o none some = let e : true ≡ false = sym some ∙ ap is_some none in cc

pub broken : (f : List ℕ) (k next : ℕ) → next ≡ k + 1 → next < 16 → has_directory f k ≡ true → directory f next ≡ None → IsChainWhole f → ⊥
broken f k next is few here none whole =
    let e : next ≡ suc k = omega arith in
    none_there (directory f (suc k)) (subst (λ i. directory f i ≡ None) e none) (whole k (omega arith) here)

pub unordered : (f : List ℕ) → order_of f ≡ None → directory f 1 ≡ None
unfolding directory number
unordered f none = rw none refl
