use Rattle.std.proofs.Common.{◌≡◌, take, replicate}
use Rattle.packbits.proofs.packing.run_len.Given as goal

abbrev pub invariant-loop-i : goal.invariant-loop-i
invariant-loop-i l = take l.i l.bytes ≡ replicate l.i l.first
