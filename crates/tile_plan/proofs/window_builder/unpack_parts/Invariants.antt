use Rattle.std.proofs.Common.{◌≡◌, ◌+◌, ◌++◌, ℕ, List, length, take, drop}
use Rattle.std.specs.List.{All}
use Rattle.tiff_dir.specs.Level.{plain_size}
use Rattle.tiff_dir.specs.Described.{layout_of}
use Rattle.tile_plan.specs.Plan.{Adjoin}
use Rattle.tile_plan.specs.WindowBuilder.{tile_extent, IsPainted, AreArraysOf, AreBytesOf}
use Rattle.tile_plan.specs.TileCache.{AreTilesOf}
use Rattle.tile_plan.proofs.window_builder.unpack_parts.Given as goal

abbrev pub invariant-loop-tile : goal.invariant-loop-tile
invariant-loop-tile g l = record {
  rest : (first : ℕ) → Adjoin (tile_extent l.arrays) first l.tiles (first + length (g.B.Bytes.bytes l.bytes)) → Adjoin (tile_extent l.arrays) (first + l.at) (drop l.tile-index l.tiles) (first + length (g.B.Bytes.bytes l.bytes));
  level : l.canvas.level ≡ l.fn.canvas.level;
  rectangle : l.canvas.rectangle ≡ l.fn.canvas.rectangle;
  size : length l.canvas.bytes ≡ length l.fn.canvas.bytes;
  room : length l.room ≡ length l.fn.room;
  plain : length l.plain.items ≡ plain_size (layout_of l.arrays.level);
  painted : (f : List ℕ) (n first : ℕ) (done : List ℕ) → AreArraysOf f n l.arrays → AreBytesOf f first (g.B.Bytes.bytes l.bytes) → Adjoin (tile_extent l.arrays) first l.tiles (first + length (g.B.Bytes.bytes l.bytes))
      → AreTilesOf f l.fn.tile_cache → All (IsPainted f n l.fn.canvas) done → All (IsPainted f n l.canvas) (done ++ take l.tile-index l.tiles);
  kept : (f : List ℕ) (n first : ℕ) → AreArraysOf f n l.arrays → AreBytesOf f first (g.B.Bytes.bytes l.bytes) → Adjoin (tile_extent l.arrays) first l.tiles (first + length (g.B.Bytes.bytes l.bytes))
      → AreTilesOf f l.fn.tile_cache → AreTilesOf f l.tile_cache;
  most : l.tile_cache.most ≡ l.fn.tile_cache.most;
}
