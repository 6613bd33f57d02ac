use Rattle.std.proofs.Common.{◌≡◌, ◌-◌, ◌*◌, take, map, min, max}
use Rattle.std.specs.List.{range_with_len}
use Rattle.extents.specs.declared.limits.TheConstants.{BLOCK_SIZE}
use Rattle.range_cache.specs.Cache.{blocks_in, byte_at}
use Rattle.range_cache.proofs.blocks.copy.Given as goal

abbrev pub invariant-loop-number : goal.invariant-loop-number
invariant-loop-number l =
    let done = min (max l.first (l.number * BLOCK_SIZE)) l.end - l.first in
    take done l.out ≡ map (byte_at (blocks_in l.blocks.entries)) (range_with_len l.first done)
