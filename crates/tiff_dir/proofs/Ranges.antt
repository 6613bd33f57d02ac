-- Lists of numbers and of ranges.
use Rattle.std.proofs.Common.{◌≡◌, ℕ, zero, suc, ◌+◌, ◌-◌, ◌<◌, ◌≤◌, Bool, true, List, [], ◌∷◌, ◌++◌, map, length, drop, Option, Some, None, refl, ap, ◌∙◌, inl, inr, arith}
use Rattle.std.specs.Prelude.{slice_get}
use Rattle.std.specs.Option.{option_map}
use Rattle.std.specs.List.{filter, last_or, range_with_len}
use Rattle.std.proofs.lemmas.Bool.{cases_Bool, cond-true, cond-false}

pub range_split : (a m n : ℕ) → range_with_len a (m + n) ≡ range_with_len a m ++ range_with_len (a + m) n
range_split a zero n =
    let e : zero + n ≡ n = omega arith in
    let e2 : a ≡ a + zero = omega arith in
    rw e (ap (λ (x : ℕ). range_with_len x n) e2)
range_split a (suc m) n =
    let e : suc m + n ≡ suc (m + n) = omega arith in
    let e2 : a + 1 + m ≡ a + suc m = omega arith in
    rw e (ap (λ (xs : List ℕ). a ∷ xs) (range_split (a + 1) m n ∙ ap (λ (x : ℕ). range_with_len (a + 1) m ++ range_with_len x n) e2))

pub range_more : (k : ℕ) → range_with_len 0 (suc k) ≡ range_with_len 0 k ++ k ∷ []
range_more k =
    let e : suc k ≡ k + 1 = omega arith in
    let e2 : 0 + k ≡ k = omega arith in
    ap (range_with_len 0) e ∙ range_split 0 k 1 ∙ ap (λ (x : ℕ). range_with_len 0 k ++ x ∷ []) e2

-- no number from a on passes the test
pub filter_none : (p : ℕ → Bool) (a n : ℕ) → ((j : ℕ) → a ≤ j → p j ≡ true → ⊥) → filter p (range_with_len a n) ≡ []
filter_none p a zero none = refl
filter_none p a (suc n) none =
    elim (cases_Bool (p a)) [
      | inl here ↦ absurd (none a (omega arith) here)
      | inr gone ↦ cond-false (p a) _ _ gone ∙ filter_none p (a + 1) n (λ j h. none j (omega arith))
    ]

-- each of n numbers from a on passes it
pub filter_all : (p : ℕ → Bool) (a n : ℕ) → ((j : ℕ) → a ≤ j → j < a + n → p j ≡ true) → filter p (range_with_len a n) ≡ range_with_len a n
filter_all p a zero all = refl
filter_all p a (suc n) all =
    cond-true (p a) _ _ (all a (omega arith) (omega arith)) ∙ ap (λ (xs : List ℕ). a ∷ xs) (filter_all p (a + 1) n (λ j h lt. all j (omega arith) (omega arith)))

pub last_or-map : {A B : Type 0} (g : A → B) (o : Option A) (xs : List A) → last_or (option_map g o) (map g xs) ≡ option_map g (last_or o xs)
last_or-map g o [] = refl
last_or-map g o (x ∷ xs) = last_or-map g (Some x) xs

last_get : {A : Type 0} (x : A) (xs : List A) → last_or (Some x) xs ≡ slice_get (x ∷ xs) (length xs)
last_get x [] = refl
last_get x (y ∷ ys) = last_get y ys

pub last_or-slice_get : {A : Type 0} (xs : List A) → last_or None xs ≡ slice_get xs (length xs - 1)
last_or-slice_get [] = refl
last_or-slice_get (x ∷ xs) =
    let e : length xs ≡ suc (length xs) - 1 = omega arith in
    last_get x xs ∙ ap (slice_get (x ∷ xs)) e

pub drop_next : {A : Type 0} (n : ℕ) (xs : List A) (x : A) (rest : List A) → drop n xs ≡ x ∷ rest → drop (n + 1) xs ≡ rest
drop_next zero [] x rest e = absurd (cc)
drop_next zero (y ∷ ys) x rest e = cc
drop_next (suc n) [] x rest e = absurd (cc)
drop_next (suc n) (y ∷ ys) x rest e =
    let h : suc n + 1 ≡ suc (n + 1) = omega arith in
    rw h (drop_next n ys x rest e)
