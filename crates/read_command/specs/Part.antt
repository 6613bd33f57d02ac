-- The window of a part of a level, and its world file, by what Info says of a file.
use Rattle.std.specs.Prelude.{ℕ, Bool, true, false, slice_get, Option, Some, None, Result, Ok, Err}
use Rattle.std.specs.Option.{unwrap_or}
use Rattle.tiff_dir.specs.declared.query.Query.{Query}
use Rattle.tiff_dir.specs.declared.query.Query.TheVariants.{Window}
use Rattle.tiff_dir.specs.declared.query.Pick.TheVariants.{Level}
use Rattle.cog_reader.specs.declared.outcome.Info.{Info}
use Rattle.text_description.specs.Covering.{window_covering}
use Rattle.text_description.specs.World.{world_file}
use Rattle.text_description.specs.declared.covering.NoPixels.{NoPixels}
use Rattle.text_description.specs.declared.world.WorldFile.{WorldFile}
use Rattle.read_command.specs.declared.part.Area.{Area}
use Rattle.read_command.specs.declared.part.Area.TheVariants as area
use Rattle.read_command.specs.declared.part.Given.{Given}
use Rattle.read_command.specs.declared.part.NotGiven.{NotGiven}
use Rattle.read_command.specs.declared.part.NotGiven.TheVariants.{NoWindow, NoWorld}
use Rattle.read_command.specs.declared.part.Part.{Part}

-- The whole of a level, or one pixel of a level that isn't there.
abbrev pub whole_window : Option (ℕ × ℕ) → (level : ℕ) → Query
whole_window sides level = let s = unwrap_or sides (1, 1) in Window 0 0 s.0 s.1 (Level level)

-- the window of an area of a level
abbrev pub area_window : Info → Area → (level : ℕ) → Result Query NoPixels
area_window i area.Whole level = Ok (whole_window (slice_get i.sides.items level) level)
area_window i (area.Bounds b) level = window_covering i b level
area_window i (area.Pixels x y w h) level = Ok (Window x y w h (Level level))

-- a window with its world file, if one is asked for
abbrev pub with_world : (has_world : Bool) → Query → Option WorldFile → Result Given NotGiven
with_world false window world = Ok (record { window = window; world = None })
with_world true window None = Err NoWorld
with_world true window (Some world) = Ok (record { window = window; world = Some world })

abbrev pub given_in : Info → Part → Result Query NoPixels → Result Given NotGiven
given_in i part (Err why) = Err (NoWindow why)
given_in i part (Ok window) = with_world part.has_world window (world_file i window)

-- What Info gives for a part: its window, and its world file if one is asked for; or why there is none.
unfoldable pub part_given : Info → Part → Result Given NotGiven
part_given i part = given_in i part (area_window i part.area part.level)
