-- The sum of numbers, one more after another.
use Rattle.std.proofs.Common.{◌≡◌, ℕ, suc, ◌+◌, ◌*◌, List, Option, Some, refl, sym, arith}
use Rattle.tiff_dir.specs.File.{◌>>=◌, number}
use Rattle.known_fields.specs.Sum.{sum_at}

pub sum_first : (f : List ℕ) (at size : ℕ) → sum_at f at size 0 ≡ Some 0
unfolding sum_at
sum_first f at size = refl

pub sum_next : (f : List ℕ) (at size n place len next sum value : ℕ) → next ≡ n + 1 → len ≡ size → place ≡ at + n * len
    → sum_at f at size n ≡ Some sum → number f place len ≡ Some value → sum_at f at size next ≡ Some (sum + value)
unfolding sum_at
sum_next f at size n place len next sum value is same stands before told =
    let e : next ≡ suc n = omega arith in
    let there : place ≡ at + n * size = rw (sym same) stands in
    let told' : number f (at + n * size) size ≡ Some value = rw (sym there, sym same) told in
    rw (e, before, told') refl
