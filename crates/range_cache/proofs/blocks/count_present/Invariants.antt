use Rattle.std.proofs.Common.{◌≡◌, ◌+◌, ◌-◌, ◌≤◌}
use Rattle.range_cache.specs.Numbers.{missing}
use Rattle.range_cache.specs.Cache.{blocks_in, numbers}
use Rattle.range_cache.proofs.blocks.count_present.Given as goal

abbrev pub invariant-loop-number : goal.invariant-loop-number
invariant-loop-number l = record {
  rest :
      l.count + missing (numbers (blocks_in l.blocks.entries)) l.from (l.to - l.from)
      ≡ (l.number-counter - l.from) + missing (numbers (blocks_in l.blocks.entries)) l.number-counter (l.to - l.number-counter);
  few : l.count ≤ l.number-counter - l.from;
}
