use Rattle.std.proofs.Common.{◌-◌, ◌≤◌}
use Rattle.tile_plan.specs.Rows.{AreCopied}
use Rattle.tile_plan.proofs.rows.copy_rows.Given as goal

abbrev pub invariant-loop-n : goal.invariant-loop-n
invariant-loop-n g l = record {
  few : l.n ≤ l.count;
  copied : AreCopied l.n l.len (g.B.Bytes.bytes l.from) l.read l.fn.to l.to l.write;
}

abbrev pub decreases-loop-n : goal.decreases-loop-n
decreases-loop-n g l = l.count - l.n
