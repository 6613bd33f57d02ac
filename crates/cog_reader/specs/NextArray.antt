-- The array of a level that is read next.
use Rattle.std.specs.Prelude.{◌≡◌, ℕ, Some}
use Rattle.tiff_dir.specs.declared.level.Level.{Level}
use Rattle.cog_reader.specs.declared.kept_arrays.KeptArrays.{KeptArrays}
use Rattle.cog_reader.specs.declared.kept_arrays.KeptArrays.TheVariants as kept
use Rattle.cog_reader.specs.declared.kept_arrays.NextArray.{NextArray}
use Rattle.cog_reader.specs.declared.kept_arrays.NextArray.TheVariants.{Read, Both}
use Rattle.cog_reader.specs.KeptArrays.{next_array}

-- the next array of level `n`, or both if they are kept
abbrev pub IsNextArray : KeptArrays → ℕ → Level → NextArray → Type 0
IsNextArray k n l (Read place) = next_array k n l ≡ Some place
IsNextArray k n l (Both arrays) = k ≡ kept.Both n arrays.now
