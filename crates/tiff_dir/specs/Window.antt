-- The samples of a file, and the window that a query asks for (TIFF 6.0, sections 9 and 15).
use Rattle.std.specs.Prelude.{◌≡◌, Bool, true, false, ℕ, ◌+◌, ◌*◌, ◌/◌, ◌%◌, ◌<◌, List, nat_le, if◌then◌else◌, length, slice_index, Option, Some, None, IsSomeAnd}
use Rattle.tiff_dir.specs.declared.order.Order.{Order}
use Rattle.tiff_dir.specs.declared.level.Compression.{Compression}
use Rattle.tiff_dir.specs.declared.level.Compression.TheVariants.{Plain, Packed}
use Rattle.tiff_dir.specs.declared.level.Codec.{Codec}
use Rattle.tiff_dir.specs.declared.level.Codec.TheVariants.{PackBits}
use Rattle.tiff_dir.specs.Number.{number_in}
use Rattle.tiff_dir.specs.File.{order_of}
use Rattle.tiff_dir.specs.Profile.{sample_bytes}
use Rattle.tiff_dir.specs.Level.{Grid, Layout, level_layout, across, plain_size, plain_row}
use Rattle.tiff_dir.specs.Packets.{Packs}
use Rattle.tiff_dir.specs.Query.{Rectangle, segment}

-- Packed bytes stand for `out` by the codec, in rows of `row` bytes.
abbrev pub PacksBy : Codec → (row : ℕ) (bytes out : List ℕ) → Type 0
PacksBy PackBits row bytes out = Packs row bytes out

-- the bytes of a tile are packed
abbrev pub is_packed : Compression → Bool
is_packed Plain = false
is_packed (Packed codec) = true

-- A tile's bytes are those of its segment, or, if these are packed, what they stand for.
abbrev pub IsUnpackedBy : Compression → (row size : ℕ) (bytes out : List ℕ) → Type 0
IsUnpackedBy Plain row size bytes out = out ≡ bytes
IsUnpackedBy (Packed codec) row size bytes out = (length out ≡ size) × PacksBy codec row bytes out

abbrev pub IsUnpacked : Layout → List ℕ → List ℕ → Type 0
IsUnpacked l bytes out = IsUnpackedBy l.compression (plain_row l) (plain_size l) bytes out

-- the number of the tile that has the pixel, tiles being numbered left to right and then top to bottom
abbrev pub tile_at : Grid → ℕ → ℕ → ℕ
tile_at g x y = (y / g.tile_length) * across g + x / g.tile_width

-- the place of sample `c` of the pixel among the samples of its tile
abbrev pub place_in_tile : Layout → ℕ → ℕ → ℕ → ℕ
place_in_tile l x y c = ((y % l.grid.tile_length) * l.grid.tile_width + x % l.grid.tile_width) * l.samples + c

-- the value of sample `p` of a tile: the number in its one or two bytes, in the file's byte order
unfoldable pub sample_in : Order → ℕ → List ℕ → ℕ → Option ℕ
sample_in order bits plain p =
    let size = sample_bytes bits in
    if nat_le (p * size + size) (length plain) then Some (number_in order (p * size) size plain) else None

-- Sample `c` of the pixel in column `x` and row `y` of level `n` has this value.
unfoldable pub IsSample : (f : List ℕ) (n x y c v : ℕ) → Type 0
IsSample f n x y c v =
    IsSomeAnd (order_of f) (λ order. IsSomeAnd (level_layout f n) (λ l. IsSomeAnd (segment f n (tile_at l.grid x y)) (λ bytes.
    (plain : List ℕ) × IsUnpacked l bytes plain × (sample_in order l.bits plain (place_in_tile l x y c) ≡ Some v))))

-- `v` has the samples of the rectangle, row by row, and no others.
pub record HasSamples (f : List ℕ) (r : Rectangle) (v : List ℕ) : Type 0 where
  pub layout : Layout
  pub layout_is : level_layout f r.level ≡ Some layout
  pub size : length v ≡ r.width * r.height * layout.samples
  pub each : (i j c : ℕ) → i < r.width → j < r.height → c < layout.samples
      → IsSample f r.level (r.left + i) (r.top + j) c (slice_index v ((j * r.width + i) * layout.samples + c))
