-- The levels of a file: its image and the reduced-resolution images of it (TIFF 6.0, sections 8 and 15; OGC 21-026).
use Rattle.tiff_dir.specs.declared.tags.TheConstants.{BITS_PER_SAMPLE, COMPRESSION, IMAGE_LENGTH, IMAGE_WIDTH, NEW_SUBFILE_TYPE, SAMPLES_PER_PIXEL, TILE_BYTE_COUNTS, TILE_LENGTH, TILE_OFFSETS, TILE_WIDTH}
use Rattle.tiff_dir.specs.declared.field_values.TheConstants.{COMPRESSION_NONE, COMPRESSION_PACKBITS}
use Rattle.std.specs.Prelude.{ℕ, ◌*◌, Bool, false, ◌||◌, ◌==◌, if◌then◌else◌, List, map, length, slice_get, Option, Some, None}
use Rattle.std.specs.Option.{option_map_or}
use Rattle.std.specs.List.{filter, last_or, range_with_len}
use Rattle.tiff_dir.specs.declared.level.Place.{Place}
use Rattle.tiff_dir.specs.declared.level.Compression.{Compression}
use Rattle.tiff_dir.specs.declared.level.Compression.TheVariants.{Plain, Packed}
use Rattle.tiff_dir.specs.declared.level.Codec.TheVariants.{PackBits}
use Rattle.tiff_dir.specs.File.{◌>>=◌, Field, field, kind_of, size_of, values_at, value, directories}
use Rattle.tiff_dir.specs.Profile.{is_depth, sample_bytes, tile_bytes, tiles_along}

-- directory 0, and each later one whose NewSubfileType is 1
unfoldable pub is_level : List ℕ → ℕ → Bool
is_level f k = k == 0 || option_map_or (λ v. v == 1) (value f k NEW_SUBFILE_TYPE 0) false

-- the directories that are levels, in order
unfoldable pub level_directories : List ℕ → List ℕ
level_directories f = filter (is_level f) (directories f)

-- the directory of the level before directory `k`
unfoldable pub previous_level : List ℕ → ℕ → Option ℕ
previous_level f k = last_or None (filter (is_level f) (range_with_len 0 k))

-- where the values of a field stand: in its entry or outside
unfoldable pub place_of : List ℕ → Field → Option Place
place_of f e = do
  kind ← e.kind >>= kind_of
  count ← e.count
  first ← values_at f e (count * size_of kind)
  Some (record { first = first; len = count * size_of kind; count = count; kind = kind })

-- the compression that a value of the field Compression stands for (section 8)
abbrev pub compression_of : ℕ → Option Compression
compression_of v =
    if v == COMPRESSION_NONE then Some Plain
    else if v == COMPRESSION_PACKBITS then Some (Packed PackBits) else None

-- how a level is cut into tiles: its sides and the tiles', in pixels
pub record Grid : Type 0 where
  pub width : ℕ
  pub length : ℕ
  pub tile_width : ℕ
  pub tile_length : ℕ

-- what a directory says of its level, except for the bytes of the tile arrays
pub record Layout : Type 0 where
  pub grid : Grid
  pub samples : ℕ
  pub bits : ℕ
  pub compression : Compression
  pub offsets : Place
  pub counts : Place

-- the grid of directory `k`, if its four values are in the file
unfoldable pub grid_at : List ℕ → ℕ → Option Grid
grid_at f k = do
  width ← value f k IMAGE_WIDTH 0
  length ← value f k IMAGE_LENGTH 0
  tile_width ← value f k TILE_WIDTH 0
  tile_length ← value f k TILE_LENGTH 0
  Some (record { width = width; length = length; tile_width = tile_width; tile_length = tile_length })

-- the bits of a sample of directory `k`, if they are 8 or 16
unfoldable pub depth_at : List ℕ → ℕ → Option ℕ
depth_at f k = value f k BITS_PER_SAMPLE 0 >>= λ bits. if is_depth bits then Some bits else None

-- the layout of directory `k`, if all that it says is in the file
unfoldable pub layout_at : List ℕ → ℕ → Option Layout
layout_at f k = do
  grid ← grid_at f k
  samples ← value f k SAMPLES_PER_PIXEL 0
  bits ← depth_at f k
  compression ← value f k COMPRESSION 0 >>= compression_of
  offsets ← field f k TILE_OFFSETS >>= place_of f
  counts ← field f k TILE_BYTE_COUNTS >>= place_of f
  Some (record { grid = grid; samples = samples; bits = bits; compression = compression; offsets = offsets; counts = counts })

-- the layouts of the levels in order, each if it is described
unfoldable pub layouts : List ℕ → List (Option Layout)
layouts f = map (layout_at f) (level_directories f)

-- the directory of level `n`, its grid and its layout
unfoldable pub level_directory : List ℕ → ℕ → Option ℕ
level_directory f n = slice_get (level_directories f) n

unfoldable pub level_grid : List ℕ → ℕ → Option Grid
level_grid f n = level_directory f n >>= grid_at f

unfoldable pub level_layout : List ℕ → ℕ → Option Layout
level_layout f n = level_directory f n >>= layout_at f

-- value `i` of the field with this tag in level `n`
unfoldable pub level_value : List ℕ → ℕ → ℕ → ℕ → Option ℕ
level_value f n tag i = level_directory f n >>= λ k. value f k tag i

-- how many tiles stand side by side, and how many tiles there are
abbrev pub across : Grid → ℕ
across g = tiles_along g.width g.tile_width

abbrev pub tile_total : Grid → ℕ
tile_total g = across g * tiles_along g.length g.tile_length

-- how many bytes a pixel has, then a row of an unpacked tile, and then such a tile
abbrev pub pixel_size : Layout → ℕ
pixel_size l = l.samples * sample_bytes l.bits

abbrev pub plain_row : Layout → ℕ
plain_row l = l.grid.tile_width * l.samples * sample_bytes l.bits

abbrev pub plain_size : Layout → ℕ
plain_size l = tile_bytes l.grid.tile_width l.grid.tile_length l.samples l.bits

-- how many bytes an unpacked tile of directory `k` has
unfoldable pub plain_size_at : List ℕ → ℕ → Option ℕ
plain_size_at f k = do
  tile_width ← value f k TILE_WIDTH 0
  tile_length ← value f k TILE_LENGTH 0
  samples ← value f k SAMPLES_PER_PIXEL 0
  bits ← depth_at f k
  Some (tile_bytes tile_width tile_length samples bits)
