use Rattle.std.proofs.Common.{◌-◌, length}
use Rattle.tile_plan.proofs.PairLemmas.{IsExchangedTo}
use Rattle.tile_plan.proofs.swap.swap_pairs.Given as goal

abbrev pub invariant-loop-bytes : goal.invariant-loop-bytes
invariant-loop-bytes l = IsExchangedTo l.fn.bytes l.bytes l.at

abbrev pub decreases-loop-bytes : goal.decreases-loop-bytes
decreases-loop-bytes l = length l.bytes - l.at
