-- The key directory (OGC 19-008, section 7.1.1): four numbers, then four for each key.
use Rattle.tiff_dir.specs.declared.tags.TheConstants.{GEO_ASCII_PARAMS, GEO_DOUBLE_PARAMS}
use Rattle.std.specs.Prelude.{◌≡◌, ◌≢◌, ℕ, ◌+◌, ◌*◌, ◌<◌, ◌⊎◌, nat_lt, ◌==◌, if◌then◌else◌, Option, Some, None, IsSomeAnd}
use Rattle.tiff_dir.specs.declared.fault.FileFault.{FileFault}
use Rattle.tiff_dir.specs.declared.fault.FileFault.TheVariants.{KeyHead, KeyOrder, KeyPlace}
use Rattle.tiff_dir.specs.File.{◌>>=◌}
use Rattle.tiff_dir.specs.Fault.{IsMisfit}

-- What keys are read from: the numbers of the directory (GeoKeyDirectory), and how many there are. Also how many items the fields
-- 34736 (GeoDoubleParams) and 34737 (GeoAsciiParams) have. What can't be known of a file is `None`.
pub record KeySource : Type 0 where
  pub value : ℕ → Option ℕ
  pub count : Option ℕ
  pub items : ℕ → Option ℕ

abbrev pub key_count : KeySource → Option ℕ
key_count s = s.value 3

-- number `j` of key `i`, if the head counts this key: KeyID, TIFFTagLocation, Count, Value_Offset
unfoldable pub key_number : KeySource → ℕ → ℕ → Option ℕ
key_number s i j = do
  n ← key_count s
  v ← s.value (4 + 4 * i + j)
  if nat_lt i n then Some v else None

-- the version or the revision isn't 1, or the field doesn't have four values and four for each key
abbrev pub IsBadKeyHead : KeySource → Type 0
IsBadKeyHead s =
    IsSomeAnd (s.value 0) (λ version. version ≢ 1)
    ⊎ (IsSomeAnd (s.value 1) (λ revision. revision ≢ 1)
    ⊎ (IsSomeAnd s.count (λ count. count < 4)
    ⊎ IsMisfit (λ count n. count == 4 + 4 * n) s.count (key_count s)))

-- A key's value is in no field, or past its end, as far as the numbers that are there say so. With location 0 the last number is the value
-- itself, and the count is 1. The other locations are the two fields, in which a key counts items from an index on.
abbrev pub IsMisplaced : KeySource → (location count first : Option ℕ) → Type 0
IsMisplaced s location count first = IsSomeAnd location (λ l.
    ((l ≡ 0) × IsSomeAnd count (λ n. n ≢ 1))
    ⊎ (IsSomeAnd (s.items l) (λ items. IsSomeAnd count (λ n. (0 < n) × IsSomeAnd first (λ at. items < at + n)))
    ⊎ ((l ≢ 0) × (l ≢ GEO_DOUBLE_PARAMS) × (l ≢ GEO_ASCII_PARAMS))))

-- The faults of the keys.
abbrev pub IsFaultOfKeys : KeySource → FileFault → Type 0
IsFaultOfKeys s KeyHead = IsBadKeyHead s
-- a KeyID isn't greater than the one before
IsFaultOfKeys s KeyOrder = (i : ℕ) × IsMisfit nat_lt (key_number s i 0) (key_number s (i + 1) 0)
IsFaultOfKeys s KeyPlace = (i : ℕ) × IsMisplaced s (key_number s i 1) (key_number s i 2) (key_number s i 3)
IsFaultOfKeys s _ = ⊥
