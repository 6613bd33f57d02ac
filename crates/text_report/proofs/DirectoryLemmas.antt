-- The directories of a file that has so many.
use Rattle.std.proofs.Common.{◌≡◌, ℕ, ◌+◌, ◌<◌, List, length, Some, ap, ◌∙◌, arith}
use Rattle.std.specs.Prelude.{slice_get}
use Rattle.std.specs.List.{range_with_len}
use Rattle.std.proofs.lemmas.List.FromFn.{get_or-range_with_len, length-range_with_len}
use Rattle.std.proofs.lemmas.Option.{slice_get-get_or}
use Rattle.tiff_dir.specs.File.{directories}

-- each number below the count is one of them
pub numbered : (f : List ℕ) (n k : ℕ) → directories f ≡ range_with_len 0 n → k < n → slice_get (directories f) k ≡ Some k
numbered f n k are below =
    let within : k < length (range_with_len 0 n) = omega (arith, below, length-range_with_len 0 n) in
    let same : 0 + k ≡ k = omega arith in
    ap (λ xs. slice_get xs k) are ∙ slice_get-get_or (range_with_len 0 n) k 0 within ∙ ap Some (get_or-range_with_len 0 n k 0 below ∙ same)
