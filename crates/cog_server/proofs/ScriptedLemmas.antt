-- What a script gives next.
use Rattle.std.proofs.Common.{◌≡◌, ℕ, ◌+◌, ◌≤◌, List, length, drop, sym, ap, ◌∙◌, arith}
use Rattle.std.specs.Prelude.{min}
use Rattle.std.proofs.lemmas.List.{drop_min, drop-drop}

-- counting the reads up to a most stops at no size that is there
pub next_turn : (sizes : List ℕ) (reads next most : ℕ) → length sizes ≤ most → next ≡ min (reads + 1) most → drop next sizes ≡ drop 1 (drop reads sizes)
next_turn sizes reads next most few is =
    let same : min next (length sizes) ≡ min (reads + 1) (length sizes) = omega (arith, few, is) in
    sym (drop_min next sizes) ∙ ap (λ (k : ℕ). drop k sizes) same ∙ drop_min (reads + 1) sizes ∙ sym (drop-drop 1 reads sizes)
