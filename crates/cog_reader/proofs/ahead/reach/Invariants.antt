use Rattle.std.proofs.Common.{◌≡◌, ℕ, List, ◌+◌, ◌*◌, ◌<◌, ◌≤◌, false}
use Rattle.extents.specs.declared.limits.TheConstants.{BLOCK_SIZE}
use Rattle.range_cache.specs.Cache.{numbers}
use Rattle.range_cache.specs.Numbers.{has}
use Rattle.cog_reader.specs.Reader.{file_length_of, to_come, ReaderAgrees}
use Rattle.cog_reader.specs.Going.{IsWantedLater, OneTouches}
use Rattle.cog_reader.proofs.ahead.reach.Given as goal

abbrev pub invariant-loop-index : goal.invariant-loop-index
invariant-loop-index l = record {
  low : l.from ≤ l.end;
  high : l.end ≤ l.limit;
  inside : l.end * BLOCK_SIZE < file_length_of l.reader + BLOCK_SIZE;
  gone : (k : ℕ) → l.from ≤ k → k < l.end → has k (numbers l.cache.entries) ≡ false;
  wanted : (k : ℕ) → l.from ≤ k → k < l.end → IsWantedLater l.reader k;
  needed : (f : List ℕ) → ReaderAgrees l.reader f → (k : ℕ) → l.from ≤ k → k < l.end → OneTouches (to_come l.reader f) k;
}
