-- Which pixels of a file mean no data, and its masks.
use Rattle.std.specs.Prelude.{◌≡◌, ℕ, ◌/◌, ◌%◌, ◌<◌, ◌≤◌, Bool, false, ◌==◌, ◌≢◌, All, List, length, slice_get, IsSome, Some}
use Rattle.std.specs.List.{filter}
use Rattle.std.specs.Option.{option_map_or}
use Rattle.tiff_dir.specs.declared.tags.TheConstants.{NEW_SUBFILE_TYPE}
use Rattle.tiff_dir.specs.File.{directories, value}
use Rattle.text_description.specs.declared.no_data.TheConstants.{GDAL_NODATA}

-- The text is that of GDAL_NODATA in the first directory: its bytes are the values before the first one that is 0.
pub record IsNoDataText (f text : List ℕ) : Type 0 where
  pub bytes : (i byte : ℕ) → slice_get text i ≡ Some byte → value f 0 GDAL_NODATA i ≡ Some byte
  pub ends : value f 0 GDAL_NODATA (length text) ≡ Some 0
  pub first : All (λ byte. byte ≢ 0) text

-- the text has at most 63 bytes: its NUL is one of the first 64, and no value before it is 256 or more
abbrev pub IsShortText : List ℕ → Type 0
IsShortText text = (length text ≤ 63) × All (λ byte. byte < 256) text

-- each directory has a value for NewSubfileType: its own, or the default
abbrev pub HaveTypes : List ℕ → Type 0
HaveTypes f = All (λ k. IsSome (value f k NEW_SUBFILE_TYPE 0)) (directories f)

-- a directory is a transparency mask: its NewSubfileType has the bit of value 4 (TIFF 6.0, section 8)
abbrev pub is_mask : List ℕ → ℕ → Bool
is_mask f k = option_map_or (λ v. v / 4 % 2 == 1) (value f k NEW_SUBFILE_TYPE 0) false

abbrev pub mask_directories : List ℕ → List ℕ
mask_directories f = filter (is_mask f) (directories f)
