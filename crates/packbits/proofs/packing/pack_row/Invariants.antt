use Rattle.std.proofs.Common.{◌-◌, ◌≤◌, take, length}
use Rattle.tiff_dir.specs.Packets.{Packs}
use Rattle.packbits.proofs.packing.pack_row.Given as goal

abbrev pub invariant-loop-at : goal.invariant-loop-at
invariant-loop-at l = record {
  inside : l.at ≤ length l.row;
  packs : Packs (length l.row) l.packed.items (take l.at l.row);
}

abbrev pub decreases-loop-at : goal.decreases-loop-at
decreases-loop-at l = length l.row - l.at
