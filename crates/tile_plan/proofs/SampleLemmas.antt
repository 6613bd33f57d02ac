-- Samples in bytes.
use Rattle.std.proofs.Common.{◌≡◌, ℕ, zero, suc, ◌+◌, ◌*◌, ◌<◌, ◌≤◌, ◌⊎◌, inl, inr, Bool, true, false, List, [], ◌∷◌, length, get_or, refl, sym, subst, ap, ◌∙◌, arith}
use Rattle.std.specs.Prelude.{◌||◌, ◌==◌, IsTrue}
use Rattle.std.proofs.lemmas.Bool.{cases_Bool, eqb-true}
use Rattle.tiff_dir.specs.declared.order.Order.{Order}
use Rattle.tiff_dir.specs.declared.order.Order.TheVariants.{Little, Big}
use Rattle.tiff_dir.specs.Number.{big_from, little_from, number_in}
use Rattle.tiff_dir.specs.Profile.{is_depth, sample_bytes}
use Rattle.tile_plan.specs.Pairs.{exchanged}

-- ---- numbers of the same bytes

same_little : (n at to : ℕ) (xs ys : List ℕ) → ((b : ℕ) → b < n → get_or xs (at + b) 0 ≡ get_or ys (to + b) 0) → little_from at n xs ≡ little_from to n ys
same_little zero at to xs ys same = refl
same_little (suc n) at to xs ys same =
    let here : get_or xs at 0 ≡ get_or ys to 0 = ap (λ k. get_or xs k 0) (plain at) ∙ same 0 (omega arith) ∙ ap (λ k. get_or ys k 0) (sym (plain to)) in
    let rest = same_little n (suc at) (suc to) xs ys (λ b less. ap (λ k. get_or xs k 0) (next at b) ∙ same (suc b) (omega (arith, less)) ∙ ap (λ k. get_or ys k 0) (sym (next to b))) in
    rw (here, rest) refl where
      plain : (k : ℕ) → k ≡ k + 0
      plain k = omega arith

      next : (k b : ℕ) → suc k + b ≡ k + suc b
      next k b = omega arith

same_big : (n at to : ℕ) (xs ys : List ℕ) → ((b : ℕ) → b < n → get_or xs (at + b) 0 ≡ get_or ys (to + b) 0) → big_from at n xs ≡ big_from to n ys
same_big zero at to xs ys same = refl
same_big (suc n) at to xs ys same =
    let here : get_or xs at 0 ≡ get_or ys to 0 = ap (λ k. get_or xs k 0) (plain at) ∙ same 0 (omega arith) ∙ ap (λ k. get_or ys k 0) (sym (plain to)) in
    let rest = same_big n (suc at) (suc to) xs ys (λ b less. ap (λ k. get_or xs k 0) (next at b) ∙ same (suc b) (omega (arith, less)) ∙ ap (λ k. get_or ys k 0) (sym (next to b))) in
    rw (here, rest) refl where
      plain : (k : ℕ) → k ≡ k + 0
      plain k = omega arith

      next : (k b : ℕ) → suc k + b ≡ k + suc b
      next k b = omega arith

-- bytes that are the same are the same number
pub same_number : (o : Order) (n at to : ℕ) (xs ys : List ℕ) → ((b : ℕ) → b < n → get_or xs (at + b) 0 ≡ get_or ys (to + b) 0) → number_in o at n xs ≡ number_in o to n ys
unfolding number_in
same_number Little n at to xs ys same = same_little n at to xs ys same
same_number Big n at to xs ys same = same_big n at to xs ys same

-- ---- bytes in pairs

exchanged_pair : (k : ℕ) (xs : List ℕ) → k * 2 + 2 ≤ length xs → (get_or (exchanged xs) (k * 2) 0 ≡ get_or xs (suc (k * 2)) 0) × (get_or (exchanged xs) (suc (k * 2)) 0 ≡ get_or xs (k * 2) 0)
exchanged_pair k [] fits = absurd (omega (arith, fits))
exchanged_pair k (x ∷ []) fits = absurd (omega (arith, fits))
exchanged_pair zero (x ∷ y ∷ xs) fits = (refl, refl)
exchanged_pair (suc k) (x ∷ y ∷ xs) fits =
    let place : suc k * 2 ≡ suc (suc (k * 2)) = omega arith in
    let rest = exchanged_pair k xs (omega (arith, fits)) in
    rw place rest

two_bytes : (k : ℕ) (xs : List ℕ) → k * 2 + 2 ≤ length xs → number_in Big (k * 2) 2 (exchanged xs) ≡ number_in Little (k * 2) 2 xs
unfolding number_in
two_bytes k xs fits = (let pair = exchanged_pair k xs fits in omega (arith, pair.0, pair.1))

one_byte : (o : Order) (at : ℕ) (xs : List ℕ) → number_in Big at 1 xs ≡ number_in o at 1 xs
unfolding number_in
one_byte Little at xs = omega arith
one_byte Big at xs = refl

pub depth : (bits : ℕ) → IsTrue (is_depth bits) → (bits ≡ 8) ⊎ (bits ≡ 16)
depth bits is = elim (cases_Bool (bits == 8)) [
  | inl h ↦ inl (eqb-true bits 8 h)
  | inr h ↦ inr (eqb-true bits 16 (second (bits == 8) (bits == 16) h is))
] where
  second : (a b : Bool) → a ≡ false → IsTrue (a || b) → b ≡ true
  second true b h is = absurd (no h) where
    no : true ≡ false → ⊥
    no h = cc
  second false b h is = is

pub exchanged_samples : (bits : ℕ) (xs ys : List ℕ) → bits ≡ 16 → ys ≡ exchanged xs → (k : ℕ) → k * sample_bytes bits + sample_bytes bits ≤ length xs
    → number_in Big (k * sample_bytes bits) (sample_bytes bits) ys ≡ number_in Little (k * sample_bytes bits) (sample_bytes bits) xs
exchanged_samples bits xs ys is same k fits =
    let two : sample_bytes bits ≡ 2 = ap sample_bytes is in
    subst (λ s. number_in Big (k * s) s ys ≡ number_in Little (k * s) s xs) (sym two)
    (ap (number_in Big (k * 2) 2) same ∙ two_bytes k xs (subst (λ s. k * s + s ≤ length xs) two fits))

pub plain_samples : (o : Order) (bits : ℕ) (xs : List ℕ) → IsTrue (is_depth bits) → (bits ≡ 16 → ⊥) → (k : ℕ)
    → number_in Big (k * sample_bytes bits) (sample_bytes bits) xs ≡ number_in o (k * sample_bytes bits) (sample_bytes bits) xs
plain_samples o bits xs is small k = elim (depth bits is) [
  | inl eight ↦ subst (λ s. number_in Big (k * s) s xs ≡ number_in o (k * s) s xs) (sym (ap sample_bytes eight)) (one_byte o (k * 1) xs)
  | inr sixteen ↦ absurd (small sixteen)
]
