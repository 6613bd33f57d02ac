use Rattle.std.proofs.Common.{◌≡◌, ◌<◌, ℕ, length, get_or, Some}
use Rattle.tiff_dir.specs.File.{value}
use Rattle.reference_support.proofs.info.values.Given as goal

-- the values so far
abbrev pub invariant-loop-i : goal.invariant-loop-i
invariant-loop-i l = record {
  size : length l.values.items ≡ l.i;
  each : (i : ℕ) → i < length l.values.items → value l.file l.k l.tag i ≡ Some (get_or l.values.items i 0);
}
