-- What the levels and the keys of a file say (GeoTIFF 1.1, OGC 19-008, annex A).
use Rattle.std.specs.Prelude.{◌≡◌, ◌⊎◌, ℕ, ◌==◌, ◌||◌, Bool, if◌then◌else◌, List, drop, codes, nat_eq, Option, Some, None, find, option_and_then, option_map, IsSome}
use Rattle.std.specs.List.{before_first, starts_with}
use Rattle.std.specs.Option.{option_or}
use Rattle.std.specs.Cow.{cow_str_bytes}
use Rattle.std.specs.Str.Lossy.{utf8_lossy}
use Rattle.geokeys.specs.declared.geo.Key.{Key}
use Rattle.geokeys.specs.declared.geo.KeyValue.{KeyValue}
use Rattle.geokeys.specs.declared.geo.KeyValue.TheVariants.{Short, Doubles, Ascii}
use Rattle.tiff_dir.specs.declared.level.Compression.{Compression}
use Rattle.tiff_dir.specs.declared.level.Compression.TheVariants.{Plain, Packed}
use Rattle.tiff_dir.specs.declared.level.Codec.TheVariants.{PackBits}
use Rattle.tiff_dir.specs.declared.level.Level.{Level}
use Rattle.text_description.specs.declared.facts.CoordinateSystem.{CoordinateSystem}
use Rattle.text_description.specs.declared.facts.LevelFacts.{LevelFacts}
use Rattle.text_description.specs.declared.facts.RasterType.{RasterType}
use Rattle.text_description.specs.declared.facts.RasterType.TheVariants.{Area, Point}

-- ---- levels

-- GDAL's name of the type of a sample of `bits` bits
abbrev pub type_name : ℕ → List ℕ
type_name bits = if bits == 8 then codes "Byte" else codes "UInt16"

-- The standard's name of a value of field 262. A level has one sample to a pixel if it is 1, and three if it is 2 (TIFF 6.0, section 8).
abbrev pub photometric_name : ℕ → List ℕ
photometric_name samples = if samples == 1 then codes "BlackIsZero" else codes "RGB"

abbrev pub compression_name : Compression → List ℕ
compression_name Plain = codes "none"
compression_name (Packed PackBits) = codes "PackBits"

-- The facts are the level's.
pub record IsFactsOf (level : Level) (facts : LevelFacts) : Type 0 where
  pub columns : facts.size.0 ≡ level.width
  pub rows : facts.size.1 ≡ level.length
  pub tile_columns : facts.block.0 ≡ level.tile_width
  pub tile_rows : facts.block.1 ≡ level.tile_length
  pub tiles : facts.tiles ≡ level.offsets.count
  pub samples : facts.samples ≡ level.samples
  pub bits : facts.bits ≡ level.bits
  pub kind : facts.kind.now ≡ type_name level.bits
  pub photometric : facts.photometric.now ≡ photometric_name level.samples
  pub compression : facts.compression.now ≡ compression_name level.compression

-- ---- keys

-- the value of the first key with this number
abbrev pub value_of : ℕ → List Key → Option KeyValue
value_of id keys = option_map (λ key. key.value) (find (λ key. key.id == id) keys)

abbrev pub number_in : KeyValue → Option ℕ
number_in (Short n) = Some n
number_in (Doubles numbers) = None
number_in (Ascii bytes) = None

-- the number of the key, if it has one
abbrev pub number_of : ℕ → List Key → Option ℕ
number_of id keys = option_and_then number_in (value_of id keys)

-- GTRasterTypeGeoKey 1 is an area, 2 a point
abbrev pub raster_type_of : ℕ → Option RasterType
raster_type_of n = if n == 1 then Some Area else (if n == 2 then Some Point else None)

abbrev pub raster_type_by : List Key → Option RasterType
raster_type_by keys = option_and_then raster_type_of (number_of 1025 keys)

-- a bar or a NUL ends a text
abbrev pub is_end : ℕ → Bool
is_end byte = (byte == 124) || (byte == 0)

-- the text begins with the label of a projected system's name, or of a geodetic one's
abbrev pub has_label : List ℕ → Bool
has_label text = starts_with nat_eq text (codes "PCS Name = ") || starts_with nat_eq text (codes "GCS Name = ")

-- the name in a text: what follows its label, if it has one
abbrev pub named_in : List ℕ → List ℕ
named_in text = if has_label text then drop 11 text else text

-- the name in the text up to its end
abbrev pub text_in : KeyValue → Option (List ℕ)
text_in (Short n) = None
text_in (Doubles numbers) = None
text_in (Ascii bytes) = Some (named_in (before_first is_end bytes.items))

-- the name in the text of the key, if it has one
abbrev pub text_of : ℕ → List Key → Option (List ℕ)
text_of id keys = option_and_then text_in (value_of id keys)

-- 0 is undefined and 32767 user-defined: neither numbers a system (requirements of ProjectedCRSGeoKey and GeodeticCRSGeoKey)
abbrev pub numbered : ℕ → Option ℕ
numbered n = if (n == 0) || (n == 32767) then None else Some n

-- the number in ProjectedCRSGeoKey, or in GeodeticCRSGeoKey if the first isn't there
abbrev pub system_number : List Key → Option ℕ
system_number keys = option_and_then numbered (option_and_then number_in (option_or (value_of 3072 keys) (value_of 2048 keys)))

-- if ProjectedCRSGeoKey has a value, the text names the base of the system, and not the system
abbrev pub unless_projected : Option KeyValue → Option (List ℕ) → Option (List ℕ)
unless_projected None text = text
unless_projected (Some projected) text = None

-- GeodeticCitationGeoKey, if it names the system
abbrev pub geodetic_citation : List Key → Option (List ℕ)
geodetic_citation keys = unless_projected (value_of 3072 keys) (text_of 2049 keys)

-- ProjectedCitationGeoKey; or else GeodeticCitationGeoKey, if it names the system; or else GTCitationGeoKey
abbrev pub citation : List Key → Option (List ℕ)
citation keys = option_or (text_of 3073 keys) (option_or (geodetic_citation keys) (text_of 1026 keys))

-- The number and the text of the coordinate system, with U+FFFD for what isn't UTF-8. There is no system if no key has either.
abbrev pub IsSystemBy : List Key → Option CoordinateSystem → Type 0
IsSystemBy keys None = (system_number keys ≡ None) × (citation keys ≡ None)
IsSystemBy keys (Some system) = (IsSome system.number ⊎ IsSome system.name) × (system.number ≡ system_number keys)
    × (option_map cow_str_bytes system.name ≡ option_map utf8_lossy (citation keys))
