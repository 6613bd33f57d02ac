-- A part of a part of a list.
use Rattle.std.proofs.Common.{◌≡◌, ℕ, ◌+◌, ◌-◌, ◌≤◌, List, length, take, drop, sym, ap, ◌∙◌, arith}
use Rattle.std.specs.List.{slice_range}
use Rattle.std.proofs.lemmas.List.{drop-take, drop-drop, take-take, length-take-le}
use Rattle.std.proofs.Common.{length-drop}

-- bytes of the bytes from one place on
pub part_of : (l : List ℕ) (first len at count : ℕ) → at + count ≤ len
    → slice_range (slice_range l first (first + len)) at (at + count) ≡ slice_range l (first + at) (first + at + count)
part_of l first len at count within =
    let whole : first + len - first ≡ at + (len - at) = omega (arith, within) in
    let some : at + count - at ≡ count = omega arith in
    let same : first + at + count - (first + at) ≡ count = omega arith in
    ap (λ k. take k (drop at (take (first + len - first) (drop first l)))) some
    ∙ ap (λ k. take count (drop at (take k (drop first l)))) whole
    ∙ ap (take count) (drop-take at (len - at) (drop first l))
    ∙ take-take count (len - at) (drop at (drop first l)) (omega (arith, within))
    ∙ ap (take count) (drop-drop at first l)
    ∙ ap (λ k. take k (drop (first + at) l)) (sym same)

-- so many from one place on are so many
pub length_of : (l : List ℕ) (first len : ℕ) → first + len ≤ length l → length (slice_range l first (first + len)) ≡ len
length_of l first len within =
    let same : first + len - first ≡ len = omega arith in
    length-take-le (first + len - first) (drop first l) (omega (arith, within, length-drop first l)) ∙ same

-- the first ones of the bytes from one place on
pub front_of : (l piece : List ℕ) (at count : ℕ) → piece ≡ slice_range l at (at + length piece) → count ≤ length piece → take count piece ≡ slice_range l at (at + count)
front_of l piece at count is few =
    let whole : at + length piece - at ≡ length piece = omega arith in
    let some : at + count - at ≡ count = omega arith in
    ap (take count) is ∙ ap (λ k. take count (take k (drop at l))) whole ∙ take-take count (length piece) (drop at l) few ∙ ap (λ k. take k (drop at l)) (sym some)
