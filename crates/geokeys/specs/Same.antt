-- What keys say, wherever their values are kept in memory; and that the same bytes have only one list of keys.
use Rattle.std.specs.Prelude.{◌≡◌, ℕ, List, map}
use Rattle.tiff_dir.specs.declared.order.Order.{Order}
use Rattle.tiff_dir.specs.Keys.{KeySource}
use Rattle.geokeys.specs.declared.geo.Geo.{Geo}
use Rattle.geokeys.specs.declared.geo.Key.{Key}
use Rattle.geokeys.specs.declared.geo.KeyValue.{KeyValue}
use Rattle.geokeys.specs.declared.geo.KeyValue.TheVariants.{Short, Doubles, Ascii}
use Rattle.geokeys.specs.Keys.{AreKeys}

pub data Content : Type 0 where
  Number : ℕ → Content
  Items : List (List ℕ) → Content
  Text : List ℕ → Content

abbrev pub content_of : KeyValue → Content
content_of (Short number) = Number number
content_of (Doubles items) = Items items.items
content_of (Ascii bytes) = Text bytes.items

-- the number of a key, and what its value says
abbrev pub key_content : Key → ℕ × Content
key_content key = (key.id, content_of key.value)

abbrev pub contents : List Key → List (ℕ × Content)
contents keys = map key_content keys

-- one source states only one minor revision and one list of keys
abbrev pub KeysAreUnique : Type 0
KeysAreUnique = (s : KeySource) (order : Order) (doubles ascii : List ℕ) (a b : Geo) →
    AreKeys s order doubles ascii a → AreKeys s order doubles ascii b →
    (a.minor ≡ b.minor) × (contents a.keys.items ≡ contents b.keys.items)
