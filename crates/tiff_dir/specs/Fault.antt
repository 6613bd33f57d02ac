-- The faults of a file's directories. A file has them for every query. A condition on a value that isn't there doesn't hold.
use Rattle.tiff_dir.specs.declared.tags.TheConstants.{BITS_PER_SAMPLE, IMAGE_LENGTH, IMAGE_WIDTH, NEW_SUBFILE_TYPE, PHOTOMETRIC_INTERPRETATION, PLANAR_CONFIGURATION, SAMPLES_PER_PIXEL, TILE_BYTE_COUNTS, TILE_LENGTH, TILE_OFFSETS, TILE_WIDTH}
use Rattle.tiff_dir.specs.declared.limits.TheConstants.{MAX_DIRECTORIES, MAX_TILES, MAX_TILE_BYTES}
use Rattle.std.specs.Prelude.{◌≡◌, ◌≢◌, ℕ, ◌%◌, ◌<◌, ◌≤◌, ◌⊎◌, Bool, true, false, ◌&&◌, ◌||◌, nat_lt, nat_le, ◌==◌, if◌then◌else◌, List, [], ◌∷◌, length, Option, Some, None, IsSomeAnd}
use Rattle.std.specs.List.{Any, list_any}
use Rattle.tiff_dir.specs.declared.rule.Rule.{Rule}
use Rattle.tiff_dir.specs.declared.rule.ValueCount.{ValueCount}
use Rattle.tiff_dir.specs.declared.rule.ValueCount.TheVariants.{One, Samples, Tiles, Exactly, Multiple}
use Rattle.tiff_dir.specs.declared.fault.FileFault.{FileFault}
use Rattle.tiff_dir.specs.declared.fault.FileFault.TheVariants.{Header, PastEnd, DirPlace, DirCount, TagOrder, TooManyDirs, Missing, FieldType, Unsupported, LevelShape, TileArray, TileSize}
use Rattle.tiff_dir.specs.File.{◌>>=◌, order_of, number, directory, has_directory, entry_count, Field, fields, has_all_tags, field, value}
use Rattle.tiff_dir.specs.Profile.{subfile_rule, profile, has_typing, is_multiple, accepts, samples_fit, planes_fit, is_tile_side}
use Rattle.tiff_dir.specs.Level.{is_level, previous_level, grid_at, plain_size_at, tile_total}
use Rattle.extents.specs.Extent.{ends_past}
use Rattle.tiff_dir.specs.Needs.{is_entry_count, needs_of_directories}

-- a directory begins at an even place of at least 8
abbrev pub is_directory_place : ℕ → Bool
is_directory_place at = nat_le 8 at && (at % 2 == 0)

-- each tag is greater than the one before
unfoldable pub ascends : List Field → Bool
ascends [] = true
ascends (a ∷ []) = true
ascends (a ∷ b ∷ fields) = nat_lt a.tag b.tag && ascends (b ∷ fields)

-- two values that are there don't fit each other
abbrev pub IsMisfit : (ℕ → ℕ → Bool) → Option ℕ → Option ℕ → Type 0
IsMisfit fits a b = IsSomeAnd a (λ x. IsSomeAnd b (λ y. fits x y ≡ false))

-- a field has another number of values than the profile demands
abbrev pub IsMiscounted : List ℕ → ℕ → ValueCount → Field → Type 0
IsMiscounted f k One e = IsSomeAnd e.count (λ count. (count == 1) ≡ false)
IsMiscounted f k Samples e = IsMisfit (λ count samples. count == samples) e.count (value f k SAMPLES_PER_PIXEL 0)
IsMiscounted f k Tiles e = ⊥
IsMiscounted f k (Exactly n) e = IsSomeAnd e.count (λ count. (count == n) ≡ false)
IsMiscounted f k (Multiple n) e = IsSomeAnd e.count (λ count. is_multiple n count ≡ false)

-- the rule's field is missing, or has another type or count
abbrev pub IsRuleFault : List ℕ → ℕ → Rule → FileFault → Type 0
IsRuleFault f k rule (Missing tag) =
    (rule.tag ≡ tag) × (rule.required ≡ true) × (has_all_tags f k ≡ true) × (field f k tag ≡ None)
IsRuleFault f k rule (FieldType tag) =
    (rule.tag ≡ tag)
    × IsSomeAnd (field f k tag) (λ e. IsSomeAnd e.kind (λ kind. has_typing rule.typing kind ≡ false) ⊎ IsMiscounted f k rule.count e)
IsRuleFault f k rule _ = ⊥

-- The profile doesn't accept a value. Of SamplesPerPixel and PlanarConfiguration the accepted values depend on another field. The values
-- of BitsPerSample have to be equal.
abbrev pub IsUnsupported : List ℕ → ℕ → ℕ → Type 0
IsUnsupported f k tag =
    ((i : ℕ) × IsSomeAnd (value f k tag i) (λ v. accepts tag v ≡ false))
    ⊎ (((tag ≡ SAMPLES_PER_PIXEL) × IsMisfit samples_fit (value f k SAMPLES_PER_PIXEL 0) (value f k PHOTOMETRIC_INTERPRETATION 0))
    ⊎ (((tag ≡ PLANAR_CONFIGURATION) × IsMisfit planes_fit (value f k PLANAR_CONFIGURATION 0) (value f k SAMPLES_PER_PIXEL 0))
    ⊎ ((tag ≡ BITS_PER_SAMPLE) × ((i j : ℕ) × IsMisfit (λ a b. a == b) (value f k BITS_PER_SAMPLE i) (value f k BITS_PER_SAMPLE j)))))

-- a side of 0
abbrev pub HasNoSide : List ℕ → ℕ → ℕ → Type 0
HasNoSide f k tag = IsSomeAnd (value f k tag 0) (λ side. side ≡ 0)

unfoldable pub sides : List ℕ → ℕ → Option (ℕ × ℕ)
sides f k = do
  width ← value f k IMAGE_WIDTH 0
  length ← value f k IMAGE_LENGTH 0
  Some (width, length)

-- no side is greater, and one is smaller
abbrev pub is_smaller : ℕ × ℕ → ℕ × ℕ → Bool
is_smaller a b = (nat_le a.0 b.0 && nat_le a.1 b.1) && (nat_lt a.0 b.0 || nat_lt a.1 b.1)

-- the level isn't smaller than the one before
abbrev pub IsNotSmaller : List ℕ → ℕ → Type 0
IsNotSmaller f k =
    IsSomeAnd (previous_level f k) (λ before.
    IsSomeAnd (sides f k) (λ here. IsSomeAnd (sides f before) (λ there. is_smaller here there ≡ false)))

-- how many tiles a directory has, by its grid
unfoldable pub directory_tiles : List ℕ → ℕ → Option ℕ
directory_tiles f k = grid_at f k >>= λ g. if nat_lt 0 g.tile_width && nat_lt 0 g.tile_length then Some (tile_total g) else None

abbrev pub IsNoTileSide : List ℕ → ℕ → ℕ → Type 0
IsNoTileSide f k tag = IsSomeAnd (value f k tag 0) (λ side. is_tile_side side ≡ false)

-- an array of tiles has another count than there are tiles
abbrev pub IsNoTileArray : List ℕ → ℕ → ℕ → Type 0
IsNoTileArray f k tag = IsMisfit (λ n count. n == count) (directory_tiles f k) (field f k tag >>= λ e. e.count)

-- A fault of directory `k`, whether it is a level or not.
abbrev pub IsFaultOfDirectory : List ℕ → ℕ → FileFault → Type 0
IsFaultOfDirectory f k DirPlace = IsSomeAnd (directory f k) (λ at. is_directory_place at ≡ false)
IsFaultOfDirectory f k DirCount = IsSomeAnd (entry_count f k) (λ n. is_entry_count n ≡ false)
IsFaultOfDirectory f k TagOrder = ascends (fields f k) ≡ false
IsFaultOfDirectory f k (FieldType tag) = IsRuleFault f k subfile_rule (FieldType tag)
-- the first directory is no reduced-resolution image
IsFaultOfDirectory f k LevelShape = (k ≡ 0) × IsSomeAnd (value f 0 NEW_SUBFILE_TYPE 0) (λ v. v % 2 ≡ 1)
IsFaultOfDirectory f k _ = ⊥

-- A fault of directory `k`, which is a level.
abbrev pub IsFaultOfLevel : List ℕ → ℕ → FileFault → Type 0
IsFaultOfLevel f k (Missing tag) = Any (λ rule. IsRuleFault f k rule (Missing tag)) profile
IsFaultOfLevel f k (FieldType tag) = Any (λ rule. IsRuleFault f k rule (FieldType tag)) profile
IsFaultOfLevel f k (Unsupported tag) = IsUnsupported f k tag
IsFaultOfLevel f k LevelShape = HasNoSide f k IMAGE_WIDTH ⊎ (HasNoSide f k IMAGE_LENGTH ⊎ IsNotSmaller f k)
IsFaultOfLevel f k TileSize =
    IsNoTileSide f k TILE_WIDTH ⊎ (IsNoTileSide f k TILE_LENGTH ⊎ IsSomeAnd (plain_size_at f k) (λ n. nat_le n MAX_TILE_BYTES ≡ false))
IsFaultOfLevel f k TileArray =
    IsSomeAnd (directory_tiles f k) (λ n. nat_le n MAX_TILES ≡ false) ⊎ (IsNoTileArray f k TILE_OFFSETS ⊎ IsNoTileArray f k TILE_BYTE_COUNTS)
IsFaultOfLevel f k _ = ⊥

-- A fault of the file that isn't of one directory alone.
abbrev pub IsFaultOfChain : List ℕ → FileFault → Type 0
-- the bytes that name the byte order are there and are neither `II` nor `MM`, or the number after them isn't 42
IsFaultOfChain f Header = ((2 ≤ length f) × (order_of f ≡ None)) ⊎ IsSomeAnd (number f 2 2) (λ n. n ≢ 42)
IsFaultOfChain f PastEnd = list_any (ends_past f) (needs_of_directories f) ≡ true
-- the offset after as many directories as a file may have isn't 0
IsFaultOfChain f TooManyDirs = has_directory f MAX_DIRECTORIES ≡ true
IsFaultOfChain f _ = ⊥

abbrev pub IsFaultAt : List ℕ → ℕ → FileFault → Type 0
IsFaultAt f k fault = IsFaultOfDirectory f k fault ⊎ ((is_level f k ≡ true) × IsFaultOfLevel f k fault)

-- A fault of the file's directories: of their chain, or of directory `k` of the file.
unfoldable pub IsFaultOfDirectories : List ℕ → FileFault → Type 0
IsFaultOfDirectories f fault =
    IsFaultOfChain f fault ⊎ ((k : ℕ) × ((k < MAX_DIRECTORIES) × (has_directory f k ≡ true)) × IsFaultAt f k fault)
