-- Tiles that are kept unpacked.
use Rattle.std.specs.Prelude.{◌≡◌, ◌-◌, ◌*◌, ◌/◌, ◌≤◌, ◌&&◌, nat_eq, cond, Bool, true, ℕ, List, [], ◌∷◌, length, take, Option, Some, None}
use Rattle.std.specs.List.{All, filter, sum_by}
use Rattle.std.specs.Map.{lookup, remove_entry}
use Rattle.std.specs.Option.{option_and_then}
use Rattle.lru.specs.LruCache.{LruCache}
use Rattle.extents.specs.Extent.{bytes_in}
use Rattle.tiff_dir.specs.declared.level.Codec.{Codec}
use Rattle.tiff_dir.specs.declared.level.Codec.TheVariants.{PackBits}
use Rattle.tiff_dir.specs.Window.{PacksBy}
use Rattle.tile_plan.specs.declared.tile_cache.Tile.{Tile}

-- where the packed bytes of a tile begin in the file, how many they are, and what they stand for by which codec
abbrev pub KeptTile : Type 0
KeptTile = ℕ × Tile

-- the tiles of a store, if there is one
abbrev pub tiles_in : Option (LruCache ℕ Tile) → List KeptTile
tiles_in None = []
tiles_in (Some store) = store.entries

-- the tiles that are kept, and how many bytes they may have together
pub record KeptTiles : Type 0 where
  pub most : ℕ
  pub tiles : List KeptTile

-- both are the same codec
abbrev pub same_codec : Codec → Codec → Bool
same_codec PackBits PackBits = true

-- what a tile stands for by the codec, if it has `len` packed bytes, and `size` bytes in rows of `row`
abbrev pub plain_of : Codec → ℕ → ℕ → ℕ → Tile → Option (List ℕ)
plain_of codec len row size t = cond (same_codec codec t.codec && nat_eq len t.len && nat_eq row t.row && nat_eq size (length t.plain.items)) (Some t.plain.items) None

-- the same for the tile that is kept for the place `first`, if one is
abbrev pub plain_at : Codec → ℕ → ℕ → ℕ → ℕ → KeptTiles → Option (List ℕ)
plain_at codec first len row size k = option_and_then (plain_of codec len row size) (lookup (nat_eq first) k.tiles)

-- how many bytes a tile has
abbrev pub size_of_tile : KeptTile → ℕ
size_of_tile t = length t.1.plain.items

-- how many bytes tiles have together
abbrev pub size_of_tiles : List KeptTile → ℕ
size_of_tiles tiles = sum_by size_of_tile tiles

-- the tiles of `size` bytes
abbrev pub tiles_of_size : ℕ → List KeptTile → List KeptTile
tiles_of_size size tiles = filter (λ t. nat_eq (size_of_tile t) size) tiles

-- a tile before those of its size; if there is no room for more, the one that was used longest ago is left out
abbrev pub kept_with : KeptTile → KeptTiles → List KeptTile
kept_with t k = t ∷ remove_entry (nat_eq t.0) (take (k.most / size_of_tile t - 1) (tiles_of_size (size_of_tile t) k.tiles))

-- the store has only tiles of `size` bytes, and room for as many of them as have `most` bytes together
pub record IsStore (most size : ℕ) (store : LruCache ℕ Tile) : Type 0 where
  pub few : store.cap * size ≤ most
  pub room : store.cap ≡ most / size
  pub alike : All (λ t. size_of_tile t ≡ size) store.entries

-- the packed bytes of the file stand for the tile
abbrev pub IsTileOf : List ℕ → KeptTile → Type 0
IsTileOf f t = PacksBy t.1.codec t.1.row (bytes_in f (record { first = t.0; len = t.1.len })) t.1.plain.items

-- Each tile that is kept is the file's.
unfoldable pub AreTilesOf : List ℕ → KeptTiles → Type 0
AreTilesOf f k = All (IsTileOf f) k.tiles
