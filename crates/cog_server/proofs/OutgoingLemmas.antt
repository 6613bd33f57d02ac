-- What of an answer isn't written, in two parts.
use Rattle.std.proofs.Common.{◌≡◌, ℕ, zero, suc, ◌-◌, List, [], ◌∷◌, ◌++◌, length, take, drop, ap, ◌∙◌, arith}
use Rattle.std.specs.Prelude.{min}
use Rattle.std.proofs.lemmas.List.{drop_min, take_rest, drop_all}

dropped_both : (n : ℕ) (xs ys : List ℕ) → drop n xs ++ drop (n - length xs) ys ≡ drop n (xs ++ ys)
dropped_both n [] ys =
    let e : n - 0 ≡ n = omega arith in ap (λ (zs : List ℕ). zs ++ drop (n - 0) ys) (drop_all n [] (omega arith)) ∙ ap (λ (k : ℕ). drop k ys) e
dropped_both zero (x ∷ xs) ys = let e : 0 - suc (length xs) ≡ 0 = omega arith in ap (λ (k : ℕ). x ∷ (xs ++ drop k ys)) e
dropped_both (suc n) (x ∷ xs) ys =
    let e : suc n - suc (length xs) ≡ n - length xs = omega arith in ap (λ (k : ℕ). drop n xs ++ drop k ys) e ∙ dropped_both n xs ys

pub shown_parts : (d b : List ℕ) (m m' sent skipped : ℕ) → m ≡ min sent (length d) → skipped ≡ sent - length d → m' ≡ min skipped (length b)
    → take (length d - m) (drop m d) ++ take (length b - m') (drop m' b) ≡ drop sent (d ++ b)
shown_parts d b m m' sent skipped is skips is' =
    ap (λ (xs : List ℕ). xs ++ take (length b - m') (drop m' b)) (take_rest d m ∙ ap (λ (k : ℕ). drop k d) is ∙ drop_min sent d)
    ∙ ap (λ (xs : List ℕ). drop sent d ++ xs) (take_rest b m' ∙ ap (λ (k : ℕ). drop k b) is' ∙ drop_min skipped b ∙ ap (λ (k : ℕ). drop k b) skips)
    ∙ dropped_both sent d b
