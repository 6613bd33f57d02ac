-- When the directories of a file can be counted.
use Rattle.std.specs.Prelude.{◌≡◌, ℕ, suc, ◌<◌, true, List, IsSome}
use Rattle.tiff_dir.specs.declared.limits.TheConstants.{MAX_DIRECTORIES}
use Rattle.tiff_dir.specs.File.{directory, has_directory}

-- after each directory but the 16th, the offset of the next one is in the file; it may be 0
abbrev pub IsChainWhole : List ℕ → Type 0
IsChainWhole f = (k : ℕ) → suc k < MAX_DIRECTORIES → has_directory f k ≡ true → IsSome (directory f (suc k))
