use Rattle.std.proofs.Common.{◌-◌, length}
use Rattle.reference_support.specs.Unpacking.{IsUnpackedTo}
use Rattle.reference_support.proofs.packets.unpack.Given as goal

abbrev pub invariant-loop-at : goal.invariant-loop-at
invariant-loop-at l = IsUnpackedTo l.row l.bytes l.at l.out.items

abbrev pub decreases-loop-at : goal.decreases-loop-at
decreases-loop-at l = length l.bytes - l.at
