-- When the answer to a query is true of a file.
use Rattle.tiff_dir.specs.declared.tags.TheConstants.{BITS_PER_SAMPLE, GEO_ASCII_PARAMS, GEO_DOUBLE_PARAMS, MODEL_PIXEL_SCALE, MODEL_TIEPOINT, MODEL_TRANSFORMATION, SAMPLES_PER_PIXEL}
use Rattle.std.specs.Prelude.{◌≡◌, ℕ, ◌*◌, List, length, map, Option, Some}
use Rattle.std.specs.Option.{option_map}
use Rattle.tiff_dir.specs.declared.level.Level.{Level}
use Rattle.tiff_dir.specs.declared.order.Order.{Order}
use Rattle.tiff_dir.specs.declared.query.Query.{Query}
use Rattle.tiff_dir.specs.declared.query.Query.TheVariants as query
use Rattle.tiff_dir.specs.declared.fault.FileFault.{FileFault}
use Rattle.tiff_dir.specs.File.{order_of}
use Rattle.tiff_dir.specs.Fault.{sides}
use Rattle.tiff_dir.specs.Faulty.{IsFaulty, IsWindow}
use Rattle.tiff_dir.specs.Geo.{geo_place, key_source}
use Rattle.tiff_dir.specs.Level.{level_directories, level_value}
use Rattle.tiff_dir.specs.Needs.{extent_of_place}
use Rattle.tiff_dir.specs.Profile.{sample_bytes}
use Rattle.tiff_dir.specs.Query.{Rectangle, rectangle}
use Rattle.extents.specs.Extent.{bytes_in}
use Rattle.geokeys.specs.Doubles.{doubles_in}
use Rattle.geokeys.specs.Keys.{AreKeys}
use Rattle.cog_reader.specs.declared.outcome.Info.{Info}
use Rattle.cog_reader.specs.declared.outcome.Outcome.{Outcome}
use Rattle.cog_reader.specs.declared.outcome.Outcome.TheVariants as outcome
use Rattle.cog_reader.specs.declared.outcome.Window.{Window}
use Rattle.cog_reader.specs.GeoFields.{geo_bytes}
use Rattle.tile_plan.specs.Samples.{samples_in}

-- the width and the length of a level
abbrev pub level_sides : Level → ℕ × ℕ
level_sides l = (l.width, l.length)

-- The window is the one that the query asks for, and its bytes are the window's samples.
pub record IsWindowOf (f : List ℕ) (q : Query) (v : Window) : Type 0 where
  pub window : IsWindow f q (samples_in v.bits v.pixels.items)
  pub asked : Rectangle
  pub asked_is : rectangle f q ≡ Some asked
  pub width : v.w ≡ asked.width
  pub height : v.h ≡ asked.height
  pub samples : level_value f asked.level SAMPLES_PER_PIXEL 0 ≡ Some v.samples
  pub bits : level_value f asked.level BITS_PER_SAMPLE 0 ≡ Some v.bits
  pub size : length v.pixels.items ≡ v.w * v.h * (v.samples * sample_bytes v.bits)

-- the items of eight bytes of a geo field, if it is there, each with its most significant byte first
abbrev pub items_of : Order → List ℕ → ℕ → Option (List (List ℕ))
items_of order f tag = option_map (λ p. doubles_in order (bytes_in f (extent_of_place p))) (geo_place f tag)

-- The file has no fault for Info, and it has these sides, keys and items (OGC 19-008, sections 7 and 8).
pub record IsInfoOf (f : List ℕ) (i : Info) : Type 0 where
  pub sound : (fault : FileFault) → IsFaulty f query.Info fault → ⊥
  pub order : Order
  pub order_is : order_of f ≡ Some order
  pub sides_are : map Some i.sides.items ≡ map (sides f) (level_directories f)
  pub keys : AreKeys (key_source f) order (geo_bytes f GEO_DOUBLE_PARAMS) (geo_bytes f GEO_ASCII_PARAMS) i.geo
  pub scale : option_map (λ v. v.items) i.scale ≡ items_of order f MODEL_PIXEL_SCALE
  pub tiepoints : option_map (λ v. v.items) i.tiepoints ≡ items_of order f MODEL_TIEPOINT
  pub transformation : option_map (λ v. v.items) i.transformation ≡ items_of order f MODEL_TRANSFORMATION

-- The answer to the query is true of the file.
abbrev pub IsTrueOf : List ℕ → Query → Outcome → Type 0
IsTrueOf f q (outcome.Window v) = IsWindowOf f q v
IsTrueOf f q (outcome.Info i) = (q ≡ query.Info) × IsInfoOf f i
IsTrueOf f q (outcome.Fault fault) = IsFaulty f q fault
