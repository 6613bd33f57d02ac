use Rattle.std.proofs.Common.{◌≡◌, take}
use Rattle.std.specs.List.{sum_by}
use Rattle.reference_support.specs.Ranges.{extent_of, blocks_inside}
use Rattle.reference_support.proofs.ranges.sum_blocks.Given as goal

abbrev pub invariant-loop-range : goal.invariant-loop-range
invariant-loop-range l = l.total ≡ sum_by (λ r. blocks_inside l.complete (extent_of r)) (take l.range-index l.ranges)
