use Rattle.tile_plan.specs.Rows.{AreCopied}
use Rattle.tile_plan.proofs.rows.copy_slice_rows.Given as goal

abbrev pub invariant-loop-n : goal.invariant-loop-n
invariant-loop-n l = AreCopied l.n l.len l.from l.read l.fn.to l.to l.write
