-- A level that was read, in the words of the definitions.
use Rattle.std.specs.Prelude.{ℕ, List, map, Option, Some, ◌≡◌}
use Rattle.tiff_dir.specs.declared.level.Level.{Level}
use Rattle.tiff_dir.specs.Level.{Grid, Layout, layouts}

abbrev pub grid_of : Level → Grid
grid_of l = record { width = l.width; length = l.length; tile_width = l.tile_width; tile_length = l.tile_length }

abbrev pub layout_of : Level → Layout
layout_of l = record {
  grid = grid_of l;
  samples = l.samples;
  bits = l.bits;
  compression = l.compression;
  offsets = l.offsets;
  counts = l.counts;
}

abbrev pub described : Level → Option Layout
described l = Some (layout_of l)

-- these are the levels of the file, each described
abbrev pub AreLevels : List ℕ → List Level → Type 0
AreLevels f ls = map described ls ≡ layouts f
