-- The value of a field for which a file isn't read.
use Rattle.std.specs.Prelude.{◌≡◌, ℕ, Bool, true, false, not, ◌||◌, ◌==◌, if◌then◌else◌, List, slice_get, Option, Some}
use Rattle.std.specs.List.{filter_map, find}
use Rattle.tiff_dir.specs.declared.tags.TheConstants.{BITS_PER_SAMPLE, COMPRESSION, PHOTOMETRIC_INTERPRETATION, PLANAR_CONFIGURATION, SAMPLES_PER_PIXEL, SAMPLE_FORMAT}
use Rattle.tiff_dir.specs.declared.field_values.TheConstants.{BLACK_IS_ZERO, CHUNKY, COMPRESSION_NONE, COMPRESSION_PACKBITS, RGB, UNSIGNED_INTEGER}
use Rattle.tiff_dir.specs.declared.fault.FileFault.{FileFault}
use Rattle.tiff_dir.specs.declared.fault.FileFault.TheVariants.{Unsupported}
use Rattle.tiff_dir.specs.File.{directories, value}
use Rattle.tiff_dir.specs.Level.{is_level, level_directories}

-- the values that the sentence on the field names as read; of a field on which it says nothing, all
abbrev pub is_read : ℕ → ℕ → Bool
is_read tag v =
    if tag == BITS_PER_SAMPLE then v == 8 || v == 16
    else if tag == COMPRESSION then v == COMPRESSION_NONE || v == COMPRESSION_PACKBITS
    else if tag == PHOTOMETRIC_INTERPRETATION then v == BLACK_IS_ZERO || v == RGB
    else if tag == SAMPLES_PER_PIXEL then v == 1 || v == 3
    else if tag == PLANAR_CONFIGURATION then v == CHUNKY
    else if tag == SAMPLE_FORMAT then v == UNSIGNED_INTEGER else true

-- of the first values of the field in the file's levels, the first one that isn't read
abbrev pub first_unread : List ℕ → ℕ → Option ℕ
first_unread f tag = find (λ v. not (is_read tag v)) (filter_map (λ k. value f k tag 0) (level_directories f))

-- one of the file's levels has this as the first value of the field
abbrev pub HasValue : List ℕ → ℕ → ℕ → Type 0
HasValue f tag v = (i k : ℕ) × (slice_get (directories f) i ≡ Some k) × (is_level f k ≡ true) × (value f k tag 0 ≡ Some v)

-- the fault is of a value that isn't read, and `v` is such a value that the file has
abbrev pub IsFoundIn : List ℕ → FileFault → ℕ → Type 0
IsFoundIn f (Unsupported tag) v = (is_read tag v ≡ false) × HasValue f tag v
IsFoundIn f _ v = ⊥
