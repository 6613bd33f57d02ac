use Rattle.std.proofs.Common.{◌≡◌, ℕ, ◌<◌, ◌≤◌, true}
use Rattle.range_cache.specs.Cache.{numbers}
use Rattle.range_cache.specs.Numbers.{has}
use Rattle.cog_reader.proofs.early.first_gap.Given as goal

abbrev pub invariant-loop-block : goal.invariant-loop-block
invariant-loop-block l = record {
  before : (k : ℕ) → l.from ≤ k → k < l.block → has k (numbers l.cache.entries) ≡ true;
}
