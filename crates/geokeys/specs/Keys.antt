-- The keys in the bytes of the key directory and of the two fields that it points into (OGC 19-008, section 7.1.1).
use Rattle.tiff_dir.specs.declared.tags.TheConstants.{GEO_ASCII_PARAMS, GEO_DOUBLE_PARAMS}
use Rattle.std.specs.Prelude.{◌≡◌, ℕ, ◌+◌, ◌*◌, ◌/◌, ⊤, nat_le, ◌==◌, if◌then◌else◌, List, length, slice_get, Option, Some, None, IfSome, unwrap_or}
use Rattle.std.specs.List.{slice_range}
use Rattle.tiff_dir.specs.declared.order.Order.{Order}
use Rattle.tiff_dir.specs.Number.{number_in}
use Rattle.tiff_dir.specs.Keys.{KeySource, key_count, key_number, IsFaultOfKeys}
use Rattle.geokeys.specs.declared.geo.Geo.{Geo}
use Rattle.geokeys.specs.declared.geo.Key.{Key}
use Rattle.geokeys.specs.declared.geo.KeyValue.{KeyValue}
use Rattle.geokeys.specs.declared.geo.KeyValue.TheVariants.{Short, Doubles, Ascii}
use Rattle.tiff_dir.specs.declared.fault.WalkError.{WalkError as GeoError}
use Rattle.tiff_dir.specs.declared.fault.WalkError.TheVariants.{File, Memory}
use Rattle.geokeys.specs.Doubles.{doubles_in}

-- number `i` of the directory, if its two bytes are there
unfoldable pub number_at : Order → List ℕ → ℕ → Option ℕ
number_at order directory i =
    if nat_le (2 * i + 2) (length directory) then Some (number_in order (2 * i) 2 directory) else None

-- how many items a field has, if a key may point into it
abbrev pub item_count : List ℕ → List ℕ → ℕ → Option ℕ
item_count doubles ascii location =
    if location == GEO_DOUBLE_PARAMS then Some (length doubles / 8) else if location == GEO_ASCII_PARAMS then Some (length ascii) else None

-- What keys are read from. An empty directory is an absent field, of which nothing is known.
abbrev pub key_source : Order → List ℕ → List ℕ → List ℕ → KeySource
key_source order directory doubles ascii = record {
  value = number_at order directory;
  count = if length directory == 0 then None else Some (length directory / 2);
  items = item_count doubles ascii;
}

-- The value is what a key's location, count and offset say: the offset itself, or `count` items of a field from the offset on.
abbrev pub IsValue : Order → List ℕ → List ℕ → ℕ → ℕ → ℕ → KeyValue → Type 0
IsValue order doubles ascii location count first (Short number) = (location ≡ 0) × (number ≡ first)
IsValue order doubles ascii location count first (Doubles items) =
    (location ≡ GEO_DOUBLE_PARAMS) × (items.items ≡ doubles_in order (slice_range doubles (8 * first) (8 * (first + count))))
IsValue order doubles ascii location count first (Ascii bytes) =
    (location ≡ GEO_ASCII_PARAMS) × (bytes.items ≡ slice_range ascii first (first + count))

-- The key is what the four numbers of key `i` say.
pub record IsKey (s : KeySource) (order : Order) (doubles ascii : List ℕ) (i : ℕ) (key : Key) : Type 0 where
  pub location : ℕ
  pub count : ℕ
  pub first : ℕ
  pub id_is : key_number s i 0 ≡ Some key.id
  pub location_is : key_number s i 1 ≡ Some location
  pub count_is : key_number s i 2 ≡ Some count
  pub first_is : key_number s i 3 ≡ Some first
  pub value_is : IsValue order doubles ascii location count first key.value

-- The keys and the minor revision that the source states. Without a directory there are no keys, and the revision is 0.
pub record AreKeys (s : KeySource) (order : Order) (doubles ascii : List ℕ) (geo : Geo) : Type 0 where
  pub minor_is : geo.minor ≡ unwrap_or (s.value 2) 0
  pub count_is : length geo.keys.items ≡ unwrap_or (key_count s) 0
  pub each : (i : ℕ) → IfSome (slice_get geo.keys.items i) (IsKey s order doubles ascii i)

-- the keys have this fault, or memory ran out
abbrev pub IsKeyError : KeySource → GeoError → Type 0
IsKeyError s (File fault) = IsFaultOfKeys s fault
IsKeyError s Memory = ⊤
