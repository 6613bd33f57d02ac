-- World files: where the pixels of a window lie, in doubles, each result rounded (IEEE 754).
use Rattle.std.specs.Prelude.{ℕ, pos, slice_get, Option, Some, None}
use Rattle.std.specs.Float.Ieee.{Float, binary64, add, of_int}
use Rattle.tiff_dir.specs.declared.query.Query.{Query}
use Rattle.tiff_dir.specs.declared.query.Query.TheVariants.{Window}
use Rattle.tiff_dir.specs.declared.query.Pick.TheVariants.{Level}
use Rattle.cog_reader.specs.declared.outcome.Info.{Info}
use Rattle.text_description.specs.Covering.{placement_by}
use Rattle.text_description.specs.Placement.{of_level, place_of}
use Rattle.text_description.specs.declared.placement.Placement.{Placement}
use Rattle.text_description.specs.declared.world.TheConstants.{HALF}
use Rattle.text_description.specs.declared.world.WorldFile.{WorldFile}

-- the middle along a side of the pixel with this number
abbrev pub middle : ℕ → Float
middle n = add binary64 (of_int binary64 (pos n)) HALF

-- the steps to the next column and to the next row, and the middle of the pixel in a column and a row
abbrev pub world_at : Placement → (column row : ℕ) → WorldFile
world_at p column row = record { across = p.across; down = p.down; first = place_of p (middle column) (middle row) }

-- The same in a level, by the columns and rows of the first level, `whole`, and of the level itself. A level that isn't there has no
-- pixels, and the first level stands for it.
abbrev pub world_by : Option Placement → (whole sides : Option (ℕ × ℕ)) → (column row : ℕ) → Option WorldFile
world_by None whole sides column row = None
world_by (Some p) (Some whole) (Some sides) column row = Some (world_at (of_level p whole sides) column row)
world_by (Some p) whole sides column row = Some (world_at p column row)

-- the same by what Info says of a file
abbrev pub world_in : Info → (level column row : ℕ) → Option WorldFile
world_in i level column row = world_by (placement_by i) (slice_get i.sides.items 0) (slice_get i.sides.items level) column row

-- the world file of a window of a level, by what Info says of a file
unfoldable pub world_file : Info → Query → Option WorldFile
world_file i (Window x y w h (Level level)) = world_in i level x y
world_file i query = None
