-- What a description says of a file.
use Rattle.std.specs.Prelude.{◌≡◌, ℕ, Bool, true, false, List, [], length, slice_get, Option, Some, IfSome, IsSomeAnd, MatchOption, option_map, ⊤}
use Rattle.std.specs.Option.{unwrap_or}
use Rattle.std.specs.Cow.{cow_str_bytes}
use Rattle.std.specs.Str.Lossy.{utf8_lossy}
use Rattle.cog_reader.specs.declared.outcome.Info.{Info}
use Rattle.cog_reader.specs.declared.outcome.Outcome.{Outcome}
use Rattle.cog_reader.specs.declared.outcome.Outcome.TheVariants as outcome
use Rattle.cog_client.specs.declared.report.Report.{Report}
use Rattle.cog_client.specs.Client.{ClientState, AreDirectoriesKnown, Knows, report_of, revision_of}
use Rattle.tiff_dir.specs.declared.level.Level.{Level}
use Rattle.tiff_dir.specs.Described.{AreLevels}
use Rattle.tiff_dir.specs.File.{size_of}
use Rattle.known_fields.specs.Sum.{sum_at}
use Rattle.std.specs.List.{AllZip}
use Rattle.text_description.specs.declared.description.Description.{Description}
use Rattle.text_description.specs.declared.facts.LevelFacts.{LevelFacts}
use Rattle.text_description.specs.declared.facts.RasterType.{RasterType}
use Rattle.text_description.specs.declared.facts.RasterType.TheVariants.{Point}
use Rattle.text_description.specs.Facts.{raster_type_by, IsFactsOf, IsSystemBy}
use Rattle.text_description.specs.NoData.{mask_directories, IsNoDataText}
use Rattle.text_description.specs.Placement.{corners_by, geo_transform_of, placement_of}

-- the length of the file that the client reads
abbrev pub length_of : ClientState → Option ℕ
length_of c = option_map (λ v. v.complete) (revision_of c)

abbrev pub is_point : Option RasterType → Bool
is_point (Some Point) = true
is_point _ = false

-- The description has this ETag and length, the sides of the first level, what the keys say, and where columns, rows and corners lie.
pub record Says (tag : List ℕ) (length : Option ℕ) (info : Info) (d : Description) : Type 0 where
  pub tag_is : cow_str_bytes d.tag ≡ utf8_lossy tag
  pub length_is : length ≡ Some d.length
  pub size_is : d.size ≡ slice_get info.sides.items 0
  pub system_is : IsSystemBy info.geo.keys.items d.coordinate_system
  pub raster_type_is : d.raster_type ≡ raster_type_by info.geo.keys.items
  pub placement_is : d.placement ≡ placement_of info (is_point d.raster_type)
  pub transform_is : d.geo_transform ≡ option_map geo_transform_of d.placement
  pub corners_are : d.corner_coordinates ≡ corners_by d.placement d.size

-- it is a description of what Info says
abbrev pub SaysOf : List ℕ → Option ℕ → Outcome → Description → Type 0
SaysOf tag length (outcome.Info info) d = Says tag length info d
SaysOf tag length (outcome.Window window) d = ⊥
SaysOf tag length (outcome.Fault fault) d = ⊥

-- the description is of what the client's report of Info says
abbrev pub Describes : ClientState → Description → Type 0
Describes c d = IsSomeAnd (report_of c) (λ report. SaysOf report.tag (length_of c) report.outcome d)

-- The client has these levels: those of the file once it knows all directories, and none before.
pub record HasLevels (c : ClientState) (levels : Option (List Level)) : Type 0 where
  pub known : MatchOption levels (¬ AreDirectoriesKnown c) (λ _. AreDirectoriesKnown c)
  pub of_file : (f : List ℕ) → Knows f c → IfSome levels (AreLevels f)

-- The facts are the level's. If the bytes of its tiles are counted, their number is the sum of the level's TileByteCounts in the file.
pub record IsFactsBy (c : ClientState) (level : Level) (facts : LevelFacts) : Type 0 where
  pub seen : IsFactsOf level facts
  pub bytes : IfSome facts.bytes (λ n. (f : List ℕ) → Knows f c
      → sum_at f level.counts.first (size_of level.counts.kind) level.counts.count ≡ Some n)

-- these are the facts of the levels that the client has, one for each, in their order
abbrev pub AreLevelsBy : ClientState → List LevelFacts → Type 0
AreLevelsBy c facts = (levels : Option (List Level)) × HasLevels c levels × AllZip (IsFactsBy c) (unwrap_or levels []) facts

-- the text is that of the file's field GDAL_NODATA, with U+FFFD for what isn't UTF-8
abbrev pub HasNoData : ClientState → List ℕ → Type 0
HasNoData c text = (field : List ℕ) × (text ≡ utf8_lossy field) × ((f : List ℕ) → Knows f c → IsNoDataText f field)

-- the file has `n` transparency masks
abbrev pub HasMasks : ClientState → ℕ → Type 0
HasMasks c n = (f : List ℕ) → Knows f c → n ≡ length (mask_directories f)

-- the outcome is no Info
abbrev pub IsNoInfo : Outcome → Type 0
IsNoInfo (outcome.Info info) = ⊥
IsNoInfo (outcome.Window window) = ⊤
IsNoInfo (outcome.Fault fault) = ⊤

-- the client has no report of Info
abbrev pub HasNoInfo : ClientState → Type 0
HasNoInfo c = (report : Report) → report_of c ≡ Some report → IsNoInfo report.outcome
