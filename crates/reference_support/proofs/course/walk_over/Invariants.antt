use Rattle.std.proofs.Common.{length}
use Rattle.tiff_dir.specs.Walk.{WalkAgrees, to_come}
use Rattle.reference_support.proofs.course.walk_over.Given as goal

-- the walk agrees with the file
abbrev pub invariant-loop-walk : goal.invariant-loop-walk
invariant-loop-walk l = WalkAgrees l.walk l.file

-- the ranges that are still to come
abbrev pub decreases-loop-walk : goal.decreases-loop-walk
decreases-loop-walk l = length (to_come l.walk l.file)
