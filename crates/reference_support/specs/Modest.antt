-- Levels that the plain program reads: those whose numbers and products have 64 bits, and whose tiles have sides.
use Rattle.std.specs.Prelude.{ℕ, ◌+◌, ◌^◌, Bool, ◌&&◌, nat_lt, nat_le, length, slice_range, if◌then◌else◌, List, Option, Some, None}
use Rattle.tiff_dir.specs.File.{◌>>=◌}
use Rattle.tiff_dir.specs.Level as file
use Rattle.reference_support.specs.declared.levels.Grid.{Grid}
use Rattle.reference_support.specs.declared.levels.Level.{Level}

-- The grid and the layout, as the definitions see them.
abbrev pub grid_of : Grid → file.Grid
grid_of g = record { width = g.width; length = g.length; tile_width = g.tile_width; tile_length = g.tile_length }

abbrev pub layout_of : Level → file.Layout
layout_of l = record {
  grid = grid_of l.grid;
  samples = l.samples;
  bits = l.bits;
  compression = l.compression;
  offsets = l.offsets;
  counts = l.counts;
}

abbrev pub is_modest_grid : file.Grid → Bool
is_modest_grid g =
    nat_lt g.width (2 ^ 30) && nat_lt g.length (2 ^ 30)
    && nat_lt 0 g.tile_width && nat_lt g.tile_width (2 ^ 24) && nat_lt 0 g.tile_length && nat_lt g.tile_length (2 ^ 24)

abbrev pub when_modest_grid : file.Grid → Option file.Grid
when_modest_grid g = if is_modest_grid g then Some g else None

abbrev pub are_modest : ℕ → ℕ → Bool
are_modest samples bits = nat_lt samples (2 ^ 8) && nat_le 8 bits && nat_le bits 64

abbrev pub is_modest : file.Layout → Bool
is_modest l = is_modest_grid l.grid && are_modest l.samples l.bits

abbrev pub when_modest : file.Layout → Option file.Layout
when_modest l = if is_modest l then Some l else None

-- The grid and the layout of directory `k`, and those of level `n`.
abbrev pub modest_grid_at : List ℕ → ℕ → Option file.Grid
modest_grid_at f k = file.grid_at f k >>= when_modest_grid

abbrev pub modest_at : List ℕ → ℕ → Option file.Layout
modest_at f k = file.layout_at f k >>= when_modest

abbrev pub modest_grid : List ℕ → ℕ → Option file.Grid
modest_grid f n = file.level_grid f n >>= when_modest_grid

abbrev pub modest_level : List ℕ → ℕ → Option file.Layout
modest_level f n = file.level_layout f n >>= when_modest

-- The `count` bytes from `first`, where they are in the file.
abbrev pub part : List ℕ → ℕ → ℕ → Option (List ℕ)
part f first count = if nat_lt (length f) (first + count) then None else Some (slice_range f first (first + count))
