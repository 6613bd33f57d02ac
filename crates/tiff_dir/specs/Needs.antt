-- The byte ranges of a file that every query needs: those of its directories.
use Rattle.tiff_dir.specs.declared.tags.TheConstants.{BITS_PER_SAMPLE, SAMPLE_FORMAT}
use Rattle.tiff_dir.specs.declared.limits.TheConstants.{MAX_ENTRIES}
use Rattle.std.specs.Prelude.{◌≡◌, ℕ, ◌+◌, ◌*◌, Bool, ◌&&◌, nat_lt, nat_le, if◌then◌else◌, List, [], ◌∷◌, ◌++◌, Option, Some, None}
use Rattle.std.specs.List.{flat_map}
use Rattle.std.specs.Option.{option_to_list}
use Rattle.extents.specs.Extent.{Extent}
use Rattle.tiff_dir.specs.declared.level.Place.{Place}
use Rattle.tiff_dir.specs.File.{◌>>=◌, directory, directories, entry_count, field}
use Rattle.tiff_dir.specs.Level.{is_level, place_of}

-- a directory has 1 to 256 entries
abbrev pub is_entry_count : ℕ → Bool
is_entry_count n = nat_lt 0 n && nat_le n MAX_ENTRIES

-- the bytes of the count of directory `k`
unfoldable pub count_range : List ℕ → ℕ → Option Extent
count_range f k = directory f k >>= λ at. Some (record { first = at; len = 2 })

-- its table of 1 to 256 entries, with the offset of the next directory
unfoldable pub table_range : List ℕ → ℕ → Option Extent
table_range f k = do
  at ← directory f k
  n ← entry_count f k
  if is_entry_count n then Some (record { first = at + 2; len = 12 * n + 4 }) else None

-- the bytes of a field's values
abbrev pub extent_of_place : Place → Extent
extent_of_place p = record { first = p.first; len = p.len }

-- the values of the field with this tag in directory `k`, in its entry or outside
unfoldable pub field_range : List ℕ → ℕ → ℕ → Option Extent
field_range f k tag = field f k tag >>= place_of f >>= λ p. Some (extent_of_place p)

-- these values, if they stand outside the entry
unfoldable pub outside_range : List ℕ → ℕ → ℕ → Option Extent
outside_range f k tag = field f k tag >>= place_of f >>= λ p. if nat_lt 4 p.len then Some (extent_of_place p) else None

-- the values of BitsPerSample and SampleFormat that stand outside the entries of a level
unfoldable pub outside_ranges : List ℕ → ℕ → List Extent
outside_ranges f k =
    if is_level f k then option_to_list (outside_range f k BITS_PER_SAMPLE) ++ option_to_list (outside_range f k SAMPLE_FORMAT) else []

-- the ranges that are read of directory `k`
unfoldable pub ranges_of_directory : List ℕ → ℕ → List Extent
ranges_of_directory f k = option_to_list (count_range f k) ++ option_to_list (table_range f k) ++ outside_ranges f k

-- The ranges that every query needs, in the order in which they are read: the header, and then those of each directory. A range is
-- among them if each value that gives its place is in the file.
unfoldable pub needs_of_directories : List ℕ → List Extent
needs_of_directories f = record { first = 0; len = 8 } ∷ flat_map (ranges_of_directory f) (directories f)

-- the ranges `few` are the last ones of `many`
pub record IsEndOf (few many : List Extent) : Type 0 where
  pub front : List Extent
  pub joined : many ≡ front ++ few
