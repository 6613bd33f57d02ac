-- The tile arrays that a reader keeps: those of the level that was read last, as far as they were read.
use Rattle.tiff_dir.specs.declared.tags.TheConstants.{TILE_OFFSETS}
use Rattle.std.specs.Prelude.{◌≡◌, ℕ, ⊤, ◌==◌, if◌then◌else◌, List, length, slice_get, Option, Some, None, IsSomeAnd}
use Rattle.tiff_dir.specs.declared.level.Level.{Level}
use Rattle.tiff_dir.specs.declared.level.Place.{Place}
use Rattle.tiff_dir.specs.WalkState.{WalkState}
use Rattle.tiff_dir.specs.Query.{array_range}
use Rattle.extents.specs.Extent.{bytes_in}
use Rattle.tiff_dir.specs.Walk.{levels_of, HasEnded}
use Rattle.tile_plan.specs.declared.arrays.Arrays.{Arrays}
use Rattle.cog_reader.specs.declared.kept_arrays.KeptArrays.{KeptArrays}
use Rattle.cog_reader.specs.declared.kept_arrays.KeptArrays.TheVariants.{Nothing, Offsets, Both}
use Rattle.tile_plan.specs.WindowBuilder.{AreArraysOf}

-- how many arrays of level `n` are kept
abbrev pub arrays_held : KeptArrays → ℕ → ℕ
arrays_held Nothing n = 0
arrays_held (Offsets k offsets) n = if k == n then 1 else 0
arrays_held (Both k arrays) n = if k == n then 2 else 0

-- both arrays of a level are kept, and `P` holds of them
abbrev pub HasBoth : KeptArrays → (Arrays → Type 0) → Type 0
HasBoth (Both n arrays) P = P arrays
HasBoth _ P = ⊥

-- the place of the next array of the level that is to be read
abbrev pub next_array : KeptArrays → ℕ → Level → Option Place
next_array Nothing n l = Some l.offsets
next_array (Offsets k offsets) n l = if k == n then Some l.counts else Some l.offsets
next_array (Both k arrays) n l = if k == n then None else Some l.offsets

-- the place of the array of the level that is read after the next one
abbrev pub array_after : KeptArrays → ℕ → Level → Option Place
array_after k n l = if arrays_held k n == 0 then Some l.counts else None

-- if only the offsets of level `n` are kept, they are as long as the level says
abbrev pub HoldsOffsets : KeptArrays → ℕ → Level → Type 0
HoldsOffsets Nothing n l = ⊤
HoldsOffsets (Offsets k offsets) n l = k ≡ n → length offsets.items ≡ l.offsets.len
HoldsOffsets (Both k arrays) n l = ⊤

-- the arrays are of a level of a walk that has ended
abbrev pub IsKeptOf : WalkState → KeptArrays → Type 0
IsKeptOf w Nothing = ⊤
IsKeptOf w (Offsets n offsets) =
    HasEnded w × IsSomeAnd (slice_get (levels_of w) n) (λ l. length offsets.items ≡ l.offsets.len)
IsKeptOf w (Both n arrays) = HasEnded w × (slice_get (levels_of w) n ≡ Some arrays.level)

-- the arrays are the file's
abbrev pub KeptAgrees : List ℕ → KeptArrays → Type 0
KeptAgrees f Nothing = ⊤
KeptAgrees f (Offsets n offsets) = IsSomeAnd (array_range f n TILE_OFFSETS) (λ r. offsets.items ≡ bytes_in f r)
KeptAgrees f (Both n arrays) = AreArraysOf f n arrays
