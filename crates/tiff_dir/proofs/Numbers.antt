-- Numbers in a part of a list of bytes.
use Rattle.std.proofs.Common.{◌≡◌, ℕ, zero, suc, ◌+◌, ◌≤◌, List, take, drop, refl, ap, ◌∙◌, arith}
use Rattle.std.proofs.lemmas.List.{get_or-drop}
use Rattle.byteorder.specs.Endian.{big_from, little_from}
use Rattle.byteorder.specs.Numbers.{big_from-take, little_from-take}
use Rattle.tiff_dir.specs.declared.order.Order.{Order}
use Rattle.tiff_dir.specs.declared.order.Order.TheVariants.{Little, Big}
use Rattle.tiff_dir.specs.Number.{number_in}

little_from-drop : (i n a : ℕ) (xs : List ℕ) → little_from i n (drop a xs) ≡ little_from (a + i) n xs
little_from-drop i zero a xs = refl
little_from-drop i (suc n) a xs =
    let rest : little_from (suc i) n (drop a xs) ≡ little_from (suc (a + i)) n xs =
    little_from-drop (suc i) n a xs ∙ ap (λ (k : ℕ). little_from k n xs) (omega arith) in
    rw (get_or-drop a xs i 0, rest) refl

big_from-drop : (i n a : ℕ) (xs : List ℕ) → big_from i n (drop a xs) ≡ big_from (a + i) n xs
big_from-drop i zero a xs = refl
big_from-drop i (suc n) a xs =
    let rest : big_from (suc i) n (drop a xs) ≡ big_from (suc (a + i)) n xs =
    big_from-drop (suc i) n a xs ∙ ap (λ (k : ℕ). big_from k n xs) (omega arith) in
    rw (get_or-drop a xs i 0, rest) refl

pub number_in-drop : (o : Order) (i n a : ℕ) (xs : List ℕ) → number_in o i n (drop a xs) ≡ number_in o (a + i) n xs
unfolding number_in
number_in-drop Little i n a xs = little_from-drop i n a xs
number_in-drop Big i n a xs = big_from-drop i n a xs

pub number_in-take : (o : Order) (i n m : ℕ) (xs : List ℕ) → i + n ≤ m → number_in o i n (take m xs) ≡ number_in o i n xs
unfolding number_in
number_in-take Little i n m xs h = little_from-take i n m xs h
number_in-take Big i n m xs h = big_from-take i n m xs h

-- the number from at, in the front of the bytes that are left there
pub number-little : (at n : ℕ) (xs : List ℕ) → little_from 0 n (drop at xs) ≡ number_in Little at n xs
unfolding number_in
number-little at n xs = little_from-drop 0 n at xs ∙ ap (λ (k : ℕ). little_from k n xs) (omega arith)

pub number-big : (at n : ℕ) (xs : List ℕ) → big_from 0 n (drop at xs) ≡ number_in Big at n xs
unfolding number_in
number-big at n xs = big_from-drop 0 n at xs ∙ ap (λ (k : ℕ). big_from k n xs) (omega arith)
