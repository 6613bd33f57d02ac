-- What callers see of a walk over a file's directories. The walk is given one range of the file after another.
use Rattle.tiff_dir.specs.declared.tags.TheConstants.{BITS_PER_SAMPLE, COMPRESSION, GEO_ASCII_PARAMS, GEO_DOUBLE_PARAMS, GEO_KEY_DIRECTORY, IMAGE_LENGTH, IMAGE_WIDTH, MODEL_PIXEL_SCALE, MODEL_TIEPOINT, MODEL_TRANSFORMATION, SAMPLES_PER_PIXEL, TILE_BYTE_COUNTS, TILE_LENGTH, TILE_OFFSETS, TILE_WIDTH}
use Rattle.extents.specs.declared.limits.TheConstants.{MAX_RANGE_BYTES}
use Rattle.tiff_dir.specs.declared.limits.TheConstants.{MAX_GEO_BYTES}
use Rattle.std.specs.Prelude.{◌≡◌, ℕ, ◌+◌, ◌*◌, ◌<◌, ◌≤◌, ◌^◌, ⊤, true, List, drop, Option, Some, None, Result, Ok, Err, IsSomeAnd}
use Rattle.tiff_dir.specs.declared.level.Level.{Level}
use Rattle.tiff_dir.specs.declared.level.Place.{Place}
use Rattle.tiff_dir.specs.declared.level.Kind.{Kind}
use Rattle.tiff_dir.specs.declared.level.Kind.TheVariants as kind
use Rattle.tiff_dir.specs.declared.geo.GeoPlaces.{GeoPlaces}
use Rattle.extents.specs.declared.span.Span.{Span}
use Rattle.tiff_dir.specs.declared.fault.FileFault.{FileFault}
use Rattle.tiff_dir.specs.declared.fault.WalkError.{WalkError}
use Rattle.tiff_dir.specs.declared.fault.WalkError.TheVariants as errors
use Rattle.tiff_dir.specs.File.{◌>>=◌, field, has_all_tags, size_of}
use Rattle.tiff_dir.specs.Level.{compression_of, level_directory, level_grid, level_layout, level_value, plain_size, plain_size_at}
use Rattle.tiff_dir.specs.Described.{grid_of, layout_of}
use Rattle.extents.specs.Extent.{Extent, bytes_in, extent_of_span}
use Rattle.tiff_dir.specs.Needs.{extent_of_place, needs_of_directories}
use Rattle.tiff_dir.specs.Query.{array_range}
use Rattle.tiff_dir.specs.Geo.{geo_place, IsGeoFault}
use Rattle.tiff_dir.specs.Stage.{range_of}
use Rattle.tiff_dir.specs.WalkState.{WalkState, IsTold}

-- The range that the walk wants next. There is none at the end.
unfoldable pub wanted : WalkState → Option Extent
wanted w = range_of w.stage

abbrev pub HasEnded : WalkState → Type 0
HasEnded w = wanted w ≡ None

-- How many ranges the walk has taken.
unfoldable pub given_of : WalkState → ℕ
given_of w = w.given

-- The levels that the walk has read.
unfoldable pub levels_of : WalkState → List Level
levels_of w = w.levels

-- `len` is the number of bytes that the walk wants
abbrev pub IsWanted : WalkState → ℕ → Type 0
IsWanted w len = IsSomeAnd (wanted w) (λ r. len ≡ r.len)

-- the bytes of the file that the walk wants
abbrev pub IsWantedOf : List ℕ → WalkState → List ℕ → Type 0
IsWantedOf f w bytes = IsSomeAnd (wanted w) (λ r. bytes ≡ bytes_in f r)

-- The ranges of the file that a walk still has to take: those that the directories need, without those that it took.
unfoldable pub to_come : WalkState → List ℕ → List Extent
to_come w f = drop w.given (needs_of_directories f)

-- A walk agrees with a file: all that it holds is what the file says, and no fault of the file was passed over.
unfoldable pub WalkAgrees : WalkState → List ℕ → Type 0
WalkAgrees w f = IsTold w f

-- the answer is the wanted range of a file of `file_length` bytes; there is none at the end
abbrev pub Wants : WalkState → ℕ → Option Span → Type 0
Wants w file_length None = HasEnded w
Wants w file_length (Some span) =
    (wanted w ≡ Some (extent_of_span span)) × (span.last < file_length) × (span.last + 1 ≤ span.first + MAX_RANGE_BYTES)

-- the level `l` has what level `n` of the file says of itself
pub record IsDescribed (f : List ℕ) (n : ℕ) (l : Level) : Type 0 where
  pub width : level_value f n IMAGE_WIDTH 0 ≡ Some l.width
  pub length : level_value f n IMAGE_LENGTH 0 ≡ Some l.length
  pub tile_width : level_value f n TILE_WIDTH 0 ≡ Some l.tile_width
  pub tile_length : level_value f n TILE_LENGTH 0 ≡ Some l.tile_length
  pub samples : level_value f n SAMPLES_PER_PIXEL 0 ≡ Some l.samples
  pub bits : level_value f n BITS_PER_SAMPLE 0 ≡ Some l.bits
  pub grid : level_grid f n ≡ Some (grid_of l)
  pub compression : (level_value f n COMPRESSION 0 >>= compression_of) ≡ Some l.compression
  pub plain_size : (level_directory f n >>= plain_size_at f) ≡ Some (plain_size (layout_of l))
  pub layout : level_layout f n ≡ Some (layout_of l)
  pub offsets : array_range f n TILE_OFFSETS ≡ Some (extent_of_place l.offsets)
  pub counts : array_range f n TILE_BYTE_COUNTS ≡ Some (extent_of_place l.counts)

-- `P` holds of the fault of a refusal, if it has one
abbrev pub IfFile : Result (Unit {0}) WalkError → (FileFault → Type 0) → Type 0
IfFile (Ok _) P = Unit {0}
IfFile (Err (errors.File fault)) P = P fault
IfFile (Err errors.Memory) P = Unit {0}

-- the bytes of the file where a field's values stand
abbrev pub IsArrayOf : List ℕ → Place → List ℕ → Type 0
IsArrayOf f p bytes = bytes ≡ bytes_in f (extent_of_place p)

-- the values of a geo field stand at the place, or the field is absent
abbrev pub IsGeoFieldAt : List ℕ → ℕ → Option Place → Type 0
IsGeoFieldAt f tag None = field f 0 tag ≡ None
IsGeoFieldAt f tag (Some p) = geo_place f tag ≡ Some p

-- the geo fields that are there stand at these places
pub record AreGeoPlaces (f : List ℕ) (p : GeoPlaces) : Type 0 where
  pub whole : has_all_tags f 0 ≡ true
  pub directory : IsGeoFieldAt f GEO_KEY_DIRECTORY p.directory
  pub doubles : IsGeoFieldAt f GEO_DOUBLE_PARAMS p.doubles
  pub ascii : IsGeoFieldAt f GEO_ASCII_PARAMS p.ascii
  pub scale : IsGeoFieldAt f MODEL_PIXEL_SCALE p.scale
  pub tiepoints : IsGeoFieldAt f MODEL_TIEPOINT p.tiepoints
  pub transformation : IsGeoFieldAt f MODEL_TRANSFORMATION p.transformation
  -- their types, counts and lengths have no fault
  pub sound : (fault : FileFault) → IsGeoFault f fault → ⊥

-- if there is a place, it is of values of this type, and of at most 65,536 bytes; it begins below 2^33
abbrev pub IsGeoPlace : Kind → Option Place → Type 0
IsGeoPlace k None = ⊤
IsGeoPlace k (Some p) =
    (p.kind ≡ k) × (p.len ≡ p.count * size_of k) × (0 < p.len) × (p.len ≤ MAX_GEO_BYTES) × (p.first < 2 ^ 33)

pub record AreTyped (p : GeoPlaces) : Type 0 where
  pub directory : IsGeoPlace kind.Short p.directory
  pub doubles : IsGeoPlace kind.Double p.doubles
  pub ascii : IsGeoPlace kind.Ascii p.ascii
  pub scale : IsGeoPlace kind.Double p.scale
  pub tiepoints : IsGeoPlace kind.Double p.tiepoints
  pub transformation : IsGeoPlace kind.Double p.transformation
