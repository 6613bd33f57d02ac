-- The tiles of a rectangle cover it.
use Rattle.std.specs.Prelude.{ℕ, ◌+◌, ◌<◌, IsTrue}
use Rattle.std.specs.List.{IsAmong}
use Rattle.tiff_dir.specs.declared.level.Level.{Level}
use Rattle.tiff_dir.specs.Described.{grid_of}
use Rattle.tiff_dir.specs.Window.{tile_at}
use Rattle.tile_plan.specs.declared.asked.Rectangle.{Rectangle}
use Rattle.tile_plan.specs.Levels.{is_inside}
use Rattle.tile_plan.specs.Plan.{tiles_of}

-- the tile of a pixel of a rectangle in a level is one of the rectangle's
abbrev pub TilesCover : Type 0
TilesCover =
    (l : Level) (r : Rectangle) (i j : ℕ) → IsTrue (is_inside l r.x r.y r.w r.h) → i < r.w → j < r.h
    → IsAmong (tiles_of l r) (tile_at (grid_of l) (r.x + i) (r.y + j))
