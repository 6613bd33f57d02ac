-- The paths of world files.
use Rattle.std.specs.Prelude.{◌≡◌, ◌≢◌, ◌++◌, ℕ, List}
use Rattle.programs.specs.declared.world_file.TheConstants.{ENDING}

-- `stem` is the path without this ending, which isn't that of a world file. An ending may be empty.
pub record IsStem (path stem : List ℕ) : Type 0 where
  pub ending : List ℕ
  pub cut : path ≡ stem ++ ending
  pub other : ending ≢ ENDING.now

-- The world file's path has the ending of a world file instead of the picture's. So it isn't the picture's own.
abbrev pub IsWorldPath : (picture world : List ℕ) → Type 0
IsWorldPath picture world = (stem : List ℕ) × IsStem picture stem × (world ≡ stem ++ ENDING.now)
