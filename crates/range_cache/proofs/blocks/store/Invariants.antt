use Rattle.std.proofs.Common.{◌≡◌, ◌+◌, ◌-◌, ◌≤◌, map}
use Rattle.std.specs.List.{range_with_len}
use Rattle.range_cache.specs.Cache.{blocks_in, stored, stores}
use Rattle.range_cache.specs.Piece.{block_in}
use Rattle.range_cache.proofs.blocks.store.Given as goal

abbrev pub invariant-loop-number : goal.invariant-loop-number
invariant-loop-number l = record {
  inside : l.number - l.from ≤ l.to - l.from;
  capacity : l.blocks.cap ≡ l.fn.blocks.cap;
  entries : blocks_in l.blocks.entries ≡ stored l.fn.blocks.cap (map (block_in l.file_length l.first l.bytes) (range_with_len l.from (l.number - l.from))) (blocks_in l.fn.blocks.entries);
  count : l.count + stores l.fn.blocks.cap (map (block_in l.file_length l.first l.bytes) (range_with_len l.number (l.to - l.number))) (blocks_in l.blocks.entries)
      ≡ stores l.fn.blocks.cap (map (block_in l.file_length l.first l.bytes) (range_with_len l.from (l.to - l.from))) (blocks_in l.fn.blocks.entries);
}
