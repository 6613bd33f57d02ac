use Rattle.std.proofs.Common.{◌≡◌, ℕ, length, Some, slice_get}
use Rattle.std.specs.Global.{Vec}
use Rattle.reference_support.specs.Modest.{layout_of}
use Rattle.reference_support.specs.Tile.{IsRow}
use Rattle.reference_support.proofs.unpacked.level_samples.Given as goal

-- the rows so far
abbrev pub invariant-loop-y : goal.invariant-loop-y
invariant-loop-y l = record {
  count : length l.rows.items ≡ l.y;
  each : (y : ℕ) (row : Vec ℕ) → slice_get l.rows.items y ≡ Some row → IsRow l.file l.n (layout_of l.level) y row.items;
}
