-- The sum of numbers that stand one after another.
use Rattle.std.specs.Prelude.{ℕ, zero, suc, ◌+◌, ◌*◌, List, Option, Some}
use Rattle.tiff_dir.specs.File.{◌>>=◌, number}

-- the sum of `n` numbers of `size` bytes each, from `at` on
unfoldable pub sum_at : List ℕ → ℕ → ℕ → ℕ → Option ℕ
sum_at f at size zero = Some 0
sum_at f at size (suc n) = do
  sum ← sum_at f at size n
  value ← number f (at + n * size) size
  Some (sum + value)
