use Rattle.std.proofs.Common.{◌≡◌, ℕ, length, slice_get, Some}
use Rattle.reference_support.specs.Info.{sides_of}
use Rattle.reference_support.proofs.info.level_sides.Given as goal

-- the sides of the levels so far
abbrev pub invariant-loop-n : goal.invariant-loop-n
invariant-loop-n l = record {
  size : length l.sides.items ≡ l.n;
  each : (n : ℕ) (s : ℕ × ℕ) → slice_get l.sides.items n ≡ Some s → sides_of l.file n ≡ Some s;
}
