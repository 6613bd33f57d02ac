-- The tests of a level's sides, of its tiles and of their arrays, by the numbers of its draft.
use Rattle.std.specs.Prelude.{◌≡◌, ℕ, ◌+◌, ◌*◌, ◌<◌, ◌⊎◌, Bool, true, false, ◌&&◌, ◌==◌, nat_lt, nat_le, List, length, Option, Some, None, IsSome}
use Rattle.tiff_dir.specs.declared.geo.GeoEntries.{GeoEntries}
use Rattle.tiff_dir.specs.GeoEntries.{AreNear}
use Rattle.tiff_dir.specs.declared.level.Level.{Level}
use Rattle.tiff_dir.specs.declared.stage.Draft.{Draft}
use Rattle.tiff_dir.specs.declared.stage.WalkStep.{WalkStep}
use Rattle.tiff_dir.specs.declared.stage.Stage.{Stage}
use Rattle.tiff_dir.specs.declared.fault.FileFault.{FileFault}
use Rattle.tiff_dir.specs.declared.fault.FileFault.TheVariants.{LevelShape, TileSize, TileArray}
use Rattle.tiff_dir.specs.declared.limits.TheConstants.{MAX_TILES, MAX_TILE_BYTES}
use Rattle.tiff_dir.specs.Profile.{is_tile_side, tile_bytes, tile_count}
use Rattle.tiff_dir.specs.Fault.{is_smaller}
use Rattle.tiff_dir.specs.Level.{Layout}
use Rattle.tiff_dir.specs.Stage.{index_of, is_past_first, is_first_table, IsKept}

-- the sides aren't 0
abbrev pub has_sides : Draft → Bool
has_sides d = nat_lt 0 d.width && nat_lt 0 d.length

-- the sides aren't 0, and are smaller than those of the level before
abbrev pub fits_under : Option Level → Draft → Bool
fits_under None d = has_sides d
fits_under (Some p) d = has_sides d && is_smaller (d.width, d.length) (p.width, p.length)

-- the sides of a tile and its unpacked size are allowed by the profile
abbrev pub has_tiles : Draft → ℕ → Bool
has_tiles d bits =
    is_tile_side d.tile_width && (is_tile_side d.tile_length
    && nat_le (tile_bytes d.tile_width d.tile_length d.samples bits) MAX_TILE_BYTES)

-- how many tiles the draft has
abbrev pub draft_tiles : Draft → ℕ
draft_tiles d = tile_count d.width d.length d.tile_width d.tile_length

-- there are not too many tiles, and as many offsets and byte counts as tiles
abbrev pub has_arrays : Draft → Bool
has_arrays d = nat_le (draft_tiles d) MAX_TILES && ((draft_tiles d == d.offsets.count) && (draft_tiles d == d.counts.count))

-- the draft passes all three tests
pub record IsShaped (previous : Option Level) (d : Draft) (bits : ℕ) : Type 0 where
  pub sides : fits_under previous d ≡ true
  pub tiles : has_tiles d bits ≡ true
  pub arrays : has_arrays d ≡ true

-- the draft fails one of the tests
abbrev pub IsShapeFault : Option Level → Draft → ℕ → FileFault → Type 0
IsShapeFault previous d bits LevelShape = fits_under previous d ≡ false
IsShapeFault previous d bits TileSize = has_tiles d bits ≡ false
IsShapeFault previous d bits TileArray = (has_tiles d bits ≡ true) × (has_arrays d ≡ false)
IsShapeFault previous d bits _ = ⊥

-- the layout of a level that is read
abbrev pub layout_from : Draft → ℕ → Layout
layout_from d bits = record {
  grid = record { width = d.width; length = d.length; tile_width = d.tile_width; tile_length = d.tile_length };
  samples = d.samples;
  bits = bits;
  compression = d.compression;
  offsets = d.offsets;
  counts = d.counts;
}

-- a step keeps the bounds of a walk: the first directory is a level, and only its table leads past it
pub record IsNext (stage : Stage) (given : ℕ) (step : WalkStep) : Type 0 where
  pub kept : IsKept step.stage given
  pub some : 0 < index_of step.stage → (0 < index_of stage) ⊎ IsSome step.level
  pub first : is_past_first step.stage ≡ true → (is_past_first stage ≡ true) ⊎ (is_first_table stage ≡ true)

-- a step that ends directory `k` has its level
pub record IsEnd (k : ℕ) (step : WalkStep) : Type 0 where
  pub kept : IsKept step.stage (1 + 4 * (k + 1))
  pub some : IsSome step.level

-- the bounds that a walk keeps
pub record IsSoFar (stage : Stage) (levels : List Level) (geo : GeoEntries) (given : ℕ) : Type 0 where
  pub kept : IsKept stage given
  pub some : 0 < index_of stage → 0 < length levels
  pub near : AreNear geo
