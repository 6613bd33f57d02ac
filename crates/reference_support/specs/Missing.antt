-- Tiles and samples that are missing.
use Rattle.std.specs.Prelude.{ℕ, List}
use Rattle.tiff_dir.specs.Level.{Layout}
use Rattle.tiff_dir.specs.Window.{IsSample, IsUnpacked}

-- The bytes are no tile of the level.
abbrev pub IsNotUnpacked : Layout → List ℕ → Type 0
IsNotUnpacked l bytes = (plain : List ℕ) → IsUnpacked l bytes plain → ⊥

-- No value is sample `c` of the pixel.
abbrev pub HasNoSample : (f : List ℕ) (n x y c : ℕ) → Type 0
HasNoSample f n x y c = (v : ℕ) → IsSample f n x y c v → ⊥
