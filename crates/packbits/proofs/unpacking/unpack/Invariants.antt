use Rattle.std.proofs.Common.{◌-◌, length}
use Rattle.packbits.proofs.PacketLemmas.{IsUnpackedTo}
use Rattle.packbits.proofs.unpacking.unpack.Given as goal

abbrev pub invariant-loop-at : goal.invariant-loop-at
invariant-loop-at l = IsUnpackedTo l.row l.seg l.out l.at l.done l.room

abbrev pub decreases-loop-at : goal.decreases-loop-at
decreases-loop-at l = length l.seg - l.at
