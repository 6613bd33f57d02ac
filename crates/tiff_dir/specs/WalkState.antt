-- What a walk holds, and when it is what a file says. Callers use the words of the module Walk.
use Rattle.std.specs.Prelude.{◌≡◌, ℕ, true, List, map, drop}
use Rattle.std.specs.List.{list_any}
use Rattle.tiff_dir.specs.declared.table.DirectoryEntry.{DirectoryEntry}
use Rattle.tiff_dir.specs.declared.geo.GeoEntries.{GeoEntries}
use Rattle.tiff_dir.specs.declared.level.Level.{Level}
use Rattle.tiff_dir.specs.declared.stage.Stage.{Stage}
use Rattle.extents.specs.Extent.{ends_past}
use Rattle.tiff_dir.specs.Needs.{needs_of_directories}
use Rattle.tiff_dir.specs.Described.{described}
use Rattle.tiff_dir.specs.GeoEntries.{geo_in}
use Rattle.tiff_dir.specs.Stage.{is_past_first, AgreesAt, HasTable, index_of, layouts_below, still}

-- the stage, the levels so far, the entries of the geo fields, and how many ranges the walk has taken
pub record WalkState : Type 0 where
  pub stage : Stage
  pub levels : List Level
  pub geo : GeoEntries
  pub given : ℕ

-- the entries of the geo fields are those of the first directory
pub record HasGeo (f : List ℕ) (geo : GeoEntries) : Type 0 where
  pub entries : List DirectoryEntry
  pub told : HasTable f 0 entries
  pub are : geo ≡ geo_in entries

-- what a walk holds is what the file says
pub record IsTold (w : WalkState) (f : List ℕ) : Type 0 where
  pub here : AgreesAt f w.stage
  pub levels : map described w.levels ≡ layouts_below f (index_of w.stage)
  pub geo : is_past_first w.stage ≡ true → HasGeo f w.geo
  pub come : drop w.given (needs_of_directories f) ≡ still f w.stage
  pub inside : list_any (ends_past f) (needs_of_directories f) ≡ list_any (ends_past f) (still f w.stage)
