-- A number in the bytes that are left from its place on.
use Rattle.std.proofs.Common.{◌≡◌, ℕ, zero, suc, ◌+◌, List, drop, refl, ap, ◌∙◌, arith}
use Rattle.std.proofs.lemmas.List.{get_or-drop}
use Rattle.byteorder.specs.Endian.{big_from, little_from}
use Rattle.tiff_dir.specs.declared.order.Order.TheVariants.{Little, Big}
use Rattle.tiff_dir.specs.Number.{number_in}

little_from-drop : (i n at : ℕ) (xs : List ℕ) → little_from i n (drop at xs) ≡ little_from (at + i) n xs
little_from-drop i zero at xs = refl
little_from-drop i (suc n) at xs =
    let rest : little_from (suc i) n (drop at xs) ≡ little_from (suc (at + i)) n xs =
    little_from-drop (suc i) n at xs ∙ ap (λ (k : ℕ). little_from k n xs) (omega arith) in
    rw (get_or-drop at xs i 0, rest) refl

big_from-drop : (i n at : ℕ) (xs : List ℕ) → big_from i n (drop at xs) ≡ big_from (at + i) n xs
big_from-drop i zero at xs = refl
big_from-drop i (suc n) at xs =
    let rest : big_from (suc i) n (drop at xs) ≡ big_from (suc (at + i)) n xs =
    big_from-drop (suc i) n at xs ∙ ap (λ (k : ℕ). big_from k n xs) (omega arith) in
    rw (get_or-drop at xs i 0, rest) refl

pub number-little : (at n : ℕ) (xs : List ℕ) → little_from 0 n (drop at xs) ≡ number_in Little at n xs
unfolding number_in
number-little at n xs = little_from-drop 0 n at xs ∙ ap (λ (k : ℕ). little_from k n xs) (omega arith)

pub number-big : (at n : ℕ) (xs : List ℕ) → big_from 0 n (drop at xs) ≡ number_in Big at n xs
unfolding number_in
number-big at n xs = big_from-drop 0 n at xs ∙ ap (λ (k : ℕ). big_from k n xs) (omega arith)
