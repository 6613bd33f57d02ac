-- The head of a key directory and the numbers of its keys, as they stand in its bytes.
use Rattle.std.specs.Prelude.{◌≡◌, ℕ, ◌+◌, ◌*◌, ⊤, List, length, Some, None}
use Rattle.tiff_dir.specs.declared.order.Order.{Order}
use Rattle.tiff_dir.specs.declared.fault.FileFault.TheVariants.{KeyPlace}
use Rattle.tiff_dir.specs.Number.{number_in}
use Rattle.tiff_dir.specs.Keys.{KeySource, IsMisplaced}
use Rattle.geokeys.specs.declared.entry.KeyDirectoryHeader.{KeyDirectoryHeader}
use Rattle.geokeys.specs.declared.entry.KeyEntry.{KeyEntry}
use Rattle.tiff_dir.specs.declared.fault.WalkError.{WalkError as GeoError}
use Rattle.tiff_dir.specs.declared.fault.WalkError.TheVariants.{File, Memory}
use Rattle.geokeys.specs.Keys.{number_at, item_count}

-- the first four numbers, and the number of bytes that they demand
pub record IsHead (order : Order) (directory : List ℕ) (head : KeyDirectoryHeader) : Type 0 where
  pub version : number_at order directory 0 ≡ Some 1
  pub revision : number_at order directory 1 ≡ Some 1
  pub minor : number_at order directory 2 ≡ Some head.minor
  pub keys : number_at order directory 3 ≡ Some head.keys
  pub size : length directory ≡ 8 + 8 * head.keys

-- what the directory says of key `i`
abbrev pub entry_at : Order → List ℕ → ℕ → KeyEntry
entry_at order directory i = record {
  id = number_in order (8 * i + 8) 2 directory;
  location = number_in order (8 * i + 10) 2 directory;
  count = number_in order (8 * i + 12) 2 directory;
  first = number_in order (8 * i + 14) 2 directory;
}

-- a source of keys that only has the items of two fields
abbrev pub only_items : List ℕ → List ℕ → KeySource
only_items doubles ascii = record { value = λ _. None; count = None; items = item_count doubles ascii }

-- the key isn't misplaced
abbrev pub IsPlaced : List ℕ → List ℕ → KeyEntry → Type 0
IsPlaced doubles ascii e = IsMisplaced (only_items doubles ascii) (Some e.location) (Some e.count) (Some e.first) → ⊥

-- the key has no value: it is misplaced, or memory ran out
abbrev pub IsRefusal : List ℕ → List ℕ → KeyEntry → GeoError → Type 0
IsRefusal doubles ascii e (File fault) = (fault ≡ KeyPlace) × IsMisplaced (only_items doubles ascii) (Some e.location) (Some e.count) (Some e.first)
IsRefusal doubles ascii e Memory = ⊤
