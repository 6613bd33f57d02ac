use Rattle.std.proofs.Common.{◌≡◌, ◌+◌, ◌++◌, ℕ, List, length, take, drop}
use Rattle.std.specs.List.{All}
use Rattle.tile_plan.specs.Plan.{Adjoin}
use Rattle.tile_plan.specs.WindowBuilder.{tile_extent, IsPainted, AreArraysOf, AreBytesOf}
use Rattle.tile_plan.proofs.window_builder.paint_parts.Given as goal

abbrev pub invariant-loop-tile : goal.invariant-loop-tile
invariant-loop-tile g l = record {
  rest : (first : ℕ) → Adjoin (tile_extent l.arrays) first l.tiles (first + length (g.B.Bytes.bytes l.bytes))
      → Adjoin (tile_extent l.arrays) (first + l.at) (drop l.tile-index l.tiles) (first + length (g.B.Bytes.bytes l.bytes));
  level : l.canvas.level ≡ l.fn.canvas.level;
  rectangle : l.canvas.rectangle ≡ l.fn.canvas.rectangle;
  size : length l.canvas.bytes ≡ length l.fn.canvas.bytes;
  painted : (f : List ℕ) (n first : ℕ) (done : List ℕ) → AreArraysOf f n l.arrays → AreBytesOf f first (g.B.Bytes.bytes l.bytes)
      → Adjoin (tile_extent l.arrays) first l.tiles (first + length (g.B.Bytes.bytes l.bytes))
      → All (IsPainted f n l.fn.canvas) done → All (IsPainted f n l.canvas) (done ++ take l.tile-index l.tiles);
}
