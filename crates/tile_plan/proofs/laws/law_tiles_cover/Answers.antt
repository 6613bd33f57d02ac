use Rattle.tiff_dir.specs.Described.{grid_of}
use Rattle.tile_plan.specs.Levels.{rectangle_of}
use Rattle.tile_plan.proofs.BlockLemmas.{in_level, tile_among}
use Rattle.tile_plan.proofs.laws.law_tiles_cover.Goals as goal

pub returns : goal.returns
returns c l r i j inside wide tall = tile_among (grid_of l) (rectangle_of r) i j (in_level l r inside) wide tall
