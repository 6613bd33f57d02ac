-- Some columns and rows of a level's tiles.
use Rattle.std.specs.Prelude.{ℕ, ◌+◌, ◌*◌, ◌/◌, ◌%◌}
use Rattle.tile_plan.specs.declared.block.Block.{Block}

-- the number of tile `n` of the block, whose tiles are counted row by row
abbrev pub tile_of_block : Block → ℕ → ℕ
tile_of_block b n = (b.top + n / b.columns) * b.across + b.left + n % b.columns
