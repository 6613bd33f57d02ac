use Rattle.std.proofs.Common.{◌≡◌, ℕ, ◌<◌, map}
use Rattle.std.specs.List.{range_with_len}
use Rattle.tile_plan.specs.Block.{tile_of_block}
use Rattle.tile_plan.specs.Groups.{grouped}
use Rattle.tile_plan.specs.Plan.{range_in, group_of}
use Rattle.tile_plan.proofs.PlanLemmas.{IsKnown}
use Rattle.tile_plan.proofs.plan.groups.Given as goal

abbrev pub invariant-loop-n : goal.invariant-loop-n
invariant-loop-n l = record {
  groups : map group_of l.groups.items ≡ grouped (range_in l.order l.level l.offsets l.counts) (map (tile_of_block l.block) (range_with_len 0 l.n));
  known : (k : ℕ) → k < l.n → IsKnown l.order l.level l.file_length l.offsets l.counts (tile_of_block l.block k);
}
