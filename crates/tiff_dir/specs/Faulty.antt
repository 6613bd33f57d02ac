-- The faults of a file for a query, and the window that the query asks for.
use Rattle.tiff_dir.specs.declared.tags.TheConstants.{COMPRESSION, TILE_BYTE_COUNTS}
use Rattle.tiff_dir.specs.declared.field_values.TheConstants.{COMPRESSION_NONE}
use Rattle.tiff_dir.specs.declared.limits.TheConstants.{MAX_TILE_BYTES}
use Rattle.std.specs.Prelude.{◌≡◌, ℕ, ◌⊎◌, Bool, true, false, ◌&&◌, nat_lt, nat_le, ◌==◌, List, ◌++◌, Some, IsSomeAnd}
use Rattle.std.specs.List.{Any, flat_map, list_any}
use Rattle.std.specs.Option.{option_to_list}
use Rattle.tiff_dir.specs.declared.query.Query.{Query}
use Rattle.tiff_dir.specs.declared.query.Query.TheVariants.{Info}
use Rattle.tiff_dir.specs.declared.fault.FileFault.{FileFault}
use Rattle.tiff_dir.specs.declared.fault.FileFault.TheVariants.{PastEnd, TileSize, Packet, Outside, TooLarge}
use Rattle.tiff_dir.specs.File.{◌>>=◌}
use Rattle.tiff_dir.specs.Level.{level_directory, level_layout, level_value, plain_size_at}
use Rattle.extents.specs.Extent.{ends_past}
use Rattle.tiff_dir.specs.Geo.{IsGeoFault, geo_ranges, key_source}
use Rattle.tiff_dir.specs.Keys.{IsFaultOfKeys}
use Rattle.tiff_dir.specs.Fault.{IsFaultOfDirectories}
use Rattle.tiff_dir.specs.Query.{rectangle, is_outside, is_too_large, window_tiles, array_ranges, tile_ranges, segment}
use Rattle.tiff_dir.specs.Window.{HasSamples, IsUnpacked}

-- `P` holds of a tile of the window, by the number of its level and its own
abbrev pub HasTile : List ℕ → Query → (ℕ → ℕ → Type 0) → Type 0
HasTile f q P = IsSomeAnd (rectangle f q) (λ r. Any (P r.level) (window_tiles f q))

-- a tile may have `n` bytes
abbrev pub is_byte_count : ℕ → Bool
is_byte_count n = nat_lt 0 n && nat_le n MAX_TILE_BYTES

-- a tile that isn't compressed has another number of bytes than its samples (Compression, section 8)
abbrev pub IsNotPlainSize : List ℕ → ℕ → ℕ → Type 0
IsNotPlainSize f n count =
    (level_value f n COMPRESSION 0 ≡ Some COMPRESSION_NONE) × IsSomeAnd (level_directory f n >>= plain_size_at f) (λ s. (count == s) ≡ false)

-- the byte count of a tile of the window is wrong
abbrev pub HasBadTile : List ℕ → Query → Type 0
HasBadTile f q = HasTile f q (λ n t.
    IsSomeAnd (level_value f n TILE_BYTE_COUNTS t) (λ count. (is_byte_count count ≡ false) ⊎ IsNotPlainSize f n count))

-- the bytes of a tile of the window can't be unpacked: they are no packets that fill it
abbrev pub HasBadPackets : List ℕ → Query → Type 0
HasBadPackets f q = HasTile f q (λ n t.
    IsSomeAnd (level_layout f n) (λ l. IsSomeAnd (segment f n t) (λ bytes. (plain : List ℕ) → IsUnpacked l bytes plain → ⊥)))

-- A fault of the window itself.
abbrev pub IsFaultOfWindow : List ℕ → Query → FileFault → Type 0
IsFaultOfWindow f q PastEnd = list_any (ends_past f) (array_ranges f q ++ flat_map option_to_list (tile_ranges f q)) ≡ true
IsFaultOfWindow f q TileSize = HasBadTile f q
IsFaultOfWindow f q Packet = HasBadPackets f q
IsFaultOfWindow f q Outside = is_outside f q ≡ true
IsFaultOfWindow f q TooLarge = is_too_large f q ≡ true
IsFaultOfWindow f q _ = ⊥

-- A fault of Info itself.
abbrev pub IsFaultOfInfo : List ℕ → FileFault → Type 0
IsFaultOfInfo f PastEnd = list_any (ends_past f) (geo_ranges f) ≡ true
IsFaultOfInfo f fault = IsGeoFault f fault ⊎ IsFaultOfKeys (key_source f) fault

-- The file has the fault for the query.
unfoldable pub IsFaulty : List ℕ → Query → FileFault → Type 0
IsFaulty f Info fault = IsFaultOfDirectories f fault ⊎ IsFaultOfInfo f fault
IsFaulty f q fault = IsFaultOfDirectories f fault ⊎ IsFaultOfWindow f q fault

-- `v` is the window of the file: the file has no fault for the query, and `v` has the window's samples.
abbrev pub IsWindow : List ℕ → Query → List ℕ → Type 0
IsWindow f q v = ((fault : FileFault) → IsFaulty f q fault → ⊥) × IsSomeAnd (rectangle f q) (λ r. HasSamples f r v)
