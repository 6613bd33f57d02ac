-- The last level with so many columns.
use Rattle.std.proofs.Common.{◌≡◌, ℕ, zero, suc, ◌+◌, Bool, true, false, Option, Some, None, refl, sym, ap, ◌∙◌, arith, inl, inr}
use Rattle.std.specs.Prelude.{if◌then◌else◌, unwrap_or}
use Rattle.std.specs.List.{filter, last_or, range_with_len}
use Rattle.std.proofs.lemmas.Bool.{cases_Bool}

-- the last one of the numbers from a on that pass, one number more
last_more : (p : ℕ → Bool) (o : Option ℕ) (a n : ℕ) → last_or o (filter p (range_with_len a (suc n))) ≡ (if p (a + n) then Some (a + n) else last_or o (filter p (range_with_len a n)))
last_more p o a zero = (let here : a + 0 ≡ a = omega arith in elim (cases_Bool (p a)) [ inl h ↦ rw (here, h) refl | inr h ↦ rw (here, h) refl ])
last_more p o a (suc n) =
    let here : a + 1 + n ≡ a + suc n = omega arith in
    elim (cases_Bool (p a)) [
      | inl h ↦ (let rest = last_more p (Some a) (a + 1) n in rw h (rest ∙ ap (λ k. if p k then Some k else last_or (Some a) (filter p (range_with_len (a + 1) n))) here))
      | inr h ↦ (let rest = last_more p o (a + 1) n in rw h (rest ∙ ap (λ k. if p k then Some k else last_or o (filter p (range_with_len (a + 1) n))) here))
    ]

abbrev pub greatest : (ℕ → Bool) → ℕ → ℕ
greatest p n = unwrap_or (last_or None (filter p (range_with_len 0 n))) 0

-- one number more: it passes, or it doesn't
more_numbers : (p : ℕ → Bool) (n next : ℕ) → next ≡ n + 1 → greatest p next ≡ unwrap_or (if p n then Some n else last_or None (filter p (range_with_len 0 n))) 0
more_numbers p n next more =
    let is : next ≡ suc n = omega (arith, more) in
    let same : 0 + n ≡ n = omega arith in
    ap (λ k. greatest p k) is ∙ ap (λ o. unwrap_or o 0) (last_more p None 0 n
    ∙ ap (λ k. if p k then Some k else last_or None (filter p (range_with_len 0 n))) same)

pub one_passes : (p : ℕ → Bool) (n next new : ℕ) → next ≡ n + 1 → p n ≡ true → new ≡ n → new ≡ greatest p next
one_passes p n next new more passes is =
    is ∙ sym (more_numbers p n next more ∙ ap (λ b. unwrap_or (if b then Some n else last_or None (filter p (range_with_len 0 n))) 0) passes)

pub one_fails : (p : ℕ → Bool) (n next new old : ℕ) → next ≡ n + 1 → p n ≡ false → new ≡ old → old ≡ greatest p n → new ≡ greatest p next
one_fails p n next new old more fails same was =
    same ∙ was ∙ sym (more_numbers p n next more ∙ ap (λ b. unwrap_or (if b then Some n else last_or None (filter p (range_with_len 0 n))) 0) fails)
