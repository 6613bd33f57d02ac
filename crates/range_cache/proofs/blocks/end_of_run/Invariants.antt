use Rattle.std.proofs.Common.{◌≡◌, false, ℕ, ◌<◌, ◌≤◌}
use Rattle.range_cache.specs.Numbers.{has}
use Rattle.range_cache.specs.Cache.{blocks_in, numbers}
use Rattle.range_cache.proofs.blocks.end_of_run.Given as goal

abbrev pub invariant-loop-number : goal.invariant-loop-number
invariant-loop-number l = (k : ℕ) → l.from ≤ k → k < l.number-counter → has k (numbers (blocks_in l.blocks.entries)) ≡ false
