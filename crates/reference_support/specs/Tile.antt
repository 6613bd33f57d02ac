-- The unpacked tiles of a level, and the rows of its samples.
use Rattle.std.specs.Prelude.{◌≡◌, ℕ, ◌*◌, ◌/◌, ◌%◌, ◌<◌, List, length, get_or, Option, Some, slice_get, MatchOption}
use Rattle.std.specs.Global.{Vec}
use Rattle.tiff_dir.specs.Level.{Layout, level_layout}
use Rattle.tiff_dir.specs.Query.{segment}
use Rattle.tiff_dir.specs.Window.{IsSample, IsUnpacked}

-- Tile `t` of level `n` has the bytes `plain` when it is unpacked.
abbrev pub IsTile : (f : List ℕ) (n : ℕ) (l : Layout) (t : ℕ) (plain : List ℕ) → Type 0
IsTile f n l t plain = (bytes : List ℕ) × (segment f n t ≡ Some bytes) × IsUnpacked l bytes plain

-- No bytes are those of tile `t`.
abbrev pub HasNoTile : (f : List ℕ) (n : ℕ) (l : Layout) (t : ℕ) → Type 0
HasNoTile f n l t = (plain : List ℕ) → IsTile f n l t plain → ⊥

-- These are all tiles of level `n`, each where it has bytes.
pub record AreTiles (f : List ℕ) (n : ℕ) (l : Layout) (total : ℕ) (tiles : List (Option (Vec ℕ))) : Type 0 where
  pub count : length tiles ≡ total
  pub each : (t : ℕ) (o : Option (Vec ℕ)) → slice_get tiles t ≡ Some o
      → MatchOption o (HasNoTile f n l t) (λ plain. IsTile f n l t plain.items)

-- The row has the samples of row `y` of level `n`. Value i is sample i % samples of the pixel in column i / samples.
pub record IsRow (f : List ℕ) (n : ℕ) (l : Layout) (y : ℕ) (row : List ℕ) : Type 0 where
  pub size : length row ≡ l.grid.width * l.samples
  pub each : (i : ℕ) → i < length row → IsSample f n (i / l.samples) y (i % l.samples) (get_or row i 0)

abbrev pub HasNoRow : (f : List ℕ) (n : ℕ) (l : Layout) (y : ℕ) → Type 0
HasNoRow f n l y = (row : List ℕ) → IsRow f n l y row → ⊥

-- The rows are those of level `n`.
pub record AreRows (f : List ℕ) (n : ℕ) (rows : List (Vec ℕ)) : Type 0 where
  pub layout : Layout
  pub layout_is : level_layout f n ≡ Some layout
  pub count : length rows ≡ layout.grid.length
  pub each : (y : ℕ) (row : Vec ℕ) → slice_get rows y ≡ Some row → IsRow f n layout y row.items

abbrev pub HasNoRows : List ℕ → ℕ → Type 0
HasNoRows f n = (rows : List (Vec ℕ)) → AreRows f n rows → ⊥
