use Rattle.std.proofs.Common.{◌≡◌, ◌<◌, ◌/◌, ◌%◌, ℕ, length, get_or}
use Rattle.tiff_dir.specs.Window.{IsSample}
use Rattle.reference_support.proofs.unpacked.row.Given as goal

-- the samples of the row so far
abbrev pub invariant-loop-i : goal.invariant-loop-i
invariant-loop-i l = record {
  size : length l.row.items ≡ l.i;
  each : (i : ℕ) → i < length l.row.items → IsSample l.file l.n (i / l.level.samples) l.y (i % l.level.samples) (get_or l.row.items i 0);
}
