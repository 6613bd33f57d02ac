-- The files of the tests: their tables of fields, and the bytes after these.
use Rattle.std.specs.Prelude.{ℕ, ◌+◌, ◌-◌, ◌*◌, List, [], ◌∷◌, ◌++◌, map, replicate, codes}
use Rattle.std.specs.List.{flat_map, range_with_len}
use Rattle.fixtures_support.specs.declared.build.Order.{Order}
use Rattle.fixtures_support.specs.declared.build.Order.TheVariants.{Little}
use Rattle.fixtures_support.specs.declared.build.FieldType.{FieldType}
use Rattle.fixtures_support.specs.declared.build.FieldType.TheVariants as kind
use Rattle.fixtures_support.specs.declared.build.Values.TheVariants as values
use Rattle.fixtures_support.specs.declared.build.Field.{Field}
use Rattle.fixtures_support.specs.Tiff.{number, header, directory}

-- A field with one value of two bytes.
abbrev pub short : ℕ → ℕ → Field
short tag value = record { tag = tag; values = values.Short value }

-- A field with one value of four bytes.
abbrev pub long : ℕ → ℕ → Field
long tag value = record { tag = tag; values = values.Long value }

-- A field with `count` values of type `type`, which stand from position `first` on.
abbrev pub outside : ℕ → FieldType → ℕ → ℕ → Field
outside tag type count first = record { tag = tag; values = values.At type count first }

-- The bytes of the numbers `vs`, one after the other, `size` bytes for each.
unfoldable pub numbers : ℕ → List ℕ → List ℕ
numbers size vs = flat_map (number Little size) vs

-- The `n` samples 0, 1 and on.
unfoldable pub rising_samples : ℕ → List ℕ
rising_samples n = range_with_len 0 n

-- The `n` samples 32768, 32769 and on, of 16 bits each.
unfoldable pub deep_samples : Order → ℕ → List ℕ
deep_samples order n = flat_map (number order 2) (map (λ t. 32768 + t) (range_with_len 0 n))

-- The bytes of `n` plain tiles of `size` bytes each. All bytes of tile t are `value t`.
unfoldable pub even_tiles : ℕ → (ℕ → ℕ) → ℕ → List ℕ
even_tiles size value n = flat_map (λ t. replicate size (value t)) (range_with_len 0 n)

-- The bytes of `n` packed rows of 16 samples each. All samples of row y are y.
unfoldable pub packed_rows : ℕ → List ℕ
packed_rows n = flat_map (λ y. 0xf1 ∷ y ∷ []) (range_with_len 0 n)

-- The bytes of `n` packed rows of an RGB tile. Row y has the pixel y, `t`, 255, and then 45 bytes 128.
unfoldable pub colour_rows : ℕ → ℕ → List ℕ
colour_rows t n = flat_map (λ y. 2 ∷ y ∷ t ∷ 0xff ∷ 0xd4 ∷ 0x80 ∷ []) (range_with_len 0 n)

-- The bytes of `n` packed tiles of 16 such rows.
unfoldable pub colour_tiles : ℕ → List ℕ
colour_tiles n = flat_map (λ t. colour_rows t 16) (range_with_len 0 n)

-- The offsets of `n` tiles of `size` bytes each. The first one is `first`.
unfoldable pub tile_places : ℕ → ℕ → ℕ → List ℕ
tile_places first size n = numbers 4 (map (λ t. first + size * t) (range_with_len 0 n))

-- The fields of 16 by 16 samples of `bits` bits, in one tile of `size` bytes.
abbrev pub one_tile_fields : ℕ → ℕ → List Field
one_tile_fields bits size =
    short 256 16 ∷ short 257 16 ∷ short 258 bits ∷ short 259 1 ∷ short 262 1 ∷ short 322 16 ∷ short 323 16
    ∷ long 324 122 ∷ long 325 size ∷ []

-- The bytes before the tile.
unfoldable pub one_tile_head : Order → ℕ → ℕ → List ℕ
one_tile_head order bits size = header order 8 ++ directory order (one_tile_fields bits size) 0

-- A file with one plain tile, whose samples are 0 to 255 in turn.
unfoldable pub one_tile : Order → List ℕ
one_tile order = one_tile_head order 8 256 ++ rising_samples 256

-- A file with one plain tile, whose samples of 16 bits are 32768 to 33023 in turn.
unfoldable pub deep_tile : Order → List ℕ
deep_tile order = one_tile_head order 16 512 ++ deep_samples order 256

-- The fields of samples of 8 bits in `n` plain square tiles. The arrays of offsets and of byte counts stand after the directory.
abbrev pub plain_fields : ℕ → ℕ → ℕ → ℕ → List Field
plain_fields width length side n =
    short 256 width ∷ short 257 length ∷ short 258 8 ∷ short 259 1 ∷ short 262 1 ∷ short 322 side ∷ short 323 side
    ∷ outside 324 kind.Long n 122 ∷ outside 325 kind.Long n (122 + 4 * n) ∷ []

-- The bytes before the tiles. After the directory stand the offsets of the tiles, from `first` on, and then their byte counts.
unfoldable pub plain_head : ℕ → ℕ → ℕ → ℕ → ℕ → List ℕ
plain_head width length side n first =
    header Little 8 ++ directory Little (plain_fields width length side n) 0
    ++ tile_places first (side * side) n ++ numbers 4 (replicate n (side * side))

-- A file of 256 by 256 samples in 256 plain tiles. The samples of tile t are all `value t`.
unfoldable pub many_tiles : (ℕ → ℕ) → List ℕ
many_tiles value = plain_head 256 256 16 256 2170 ++ even_tiles 256 value 256

-- The fields of 32 by 32 samples in four plain tiles, with keys.
abbrev pub first_level_fields : List Field
first_level_fields =
    short 256 32 ∷ short 257 32 ∷ short 258 8 ∷ short 259 1 ∷ short 262 1 ∷ short 322 16 ∷ short 323 16
    ∷ outside 324 kind.Long 4 296 ∷ outside 325 kind.Long 4 312 ∷ outside 33550 kind.Double 3 328
    ∷ outside 34735 kind.Short 16 352 ∷ outside 34736 kind.Double 1 384 ∷ outside 34737 kind.Ascii 8 392 ∷ []

-- The fields of 16 by 16 samples in one packed tile.
abbrev pub second_level_fields : List Field
second_level_fields =
    long 254 1 ∷ short 256 16 ∷ short 257 16 ∷ short 258 8 ∷ short 259 32773 ∷ short 262 1 ∷ short 322 16
    ∷ short 323 16 ∷ long 324 1424 ∷ long 325 32 ∷ []

-- The four numbers of each key. The first four are of the table of keys itself.
abbrev pub key_numbers : List ℕ
key_numbers = 1 ∷ 1 ∷ 0 ∷ 3 ∷ 1024 ∷ 0 ∷ 1 ∷ 2 ∷ 1026 ∷ 34737 ∷ 7 ∷ 0 ∷ 2057 ∷ 34736 ∷ 1 ∷ 0 ∷ []

-- The values outside the entries of the first level. They are the offsets of its tiles, their byte counts, and the scale, which is three
-- times the double 1. Then come the keys, the double that they name, and their text, which ends in 0.
unfoldable pub outside_values : List ℕ
outside_values =
    numbers 4 (400 ∷ 656 ∷ 912 ∷ 1168 ∷ []) ++ numbers 4 (replicate 4 256) ++ numbers 8 (replicate 3 0x3ff0_0000_0000_0000)
    ++ numbers 2 key_numbers ++ numbers 8 (0x0102_0304_0506_0708 ∷ []) ++ (codes "WGS 84|" ++ 0 ∷ [])

-- A file of two levels. The first has four plain tiles, and the samples of tile t are all 16 + t. The second has one packed tile, and the
-- samples of row y are all y.
unfoldable pub two_levels : List ℕ
two_levels =
    header Little 8 ++ directory Little first_level_fields 170 ++ directory Little second_level_fields 0 ++ outside_values
    ++ even_tiles 256 (λ t. 16 + t) 4 ++ packed_rows 16

-- The fields of 20 by 18 RGB pixels in four packed tiles.
abbrev pub colour_fields : List Field
colour_fields =
    short 256 20 ∷ short 257 18 ∷ outside 258 kind.Short 3 134 ∷ short 259 32773 ∷ short 262 2 ∷ short 277 3
    ∷ short 322 16 ∷ short 323 16 ∷ outside 324 kind.Long 4 140 ∷ outside 325 kind.Short 4 156 ∷ []

-- A file of four packed RGB tiles. After the directory stand the bits of the three samples, the offsets of the tiles, and their byte
-- counts.
unfoldable pub colours : List ℕ
colours =
    header Little 8 ++ directory Little colour_fields 0 ++ numbers 2 (replicate 3 8)
    ++ numbers 4 (164 ∷ 260 ∷ 356 ∷ 452 ∷ []) ++ numbers 2 (replicate 4 96) ++ colour_tiles 4

-- The bytes before the tiles, which begin with the second block. The bytes from 282 on are zeros.
unfoldable pub large_head : List ℕ
large_head = plain_head 1280 1024 256 20 16384 ++ replicate (16384 - 282) 0

-- A file of 1280 by 1024 samples in 20 plain tiles of 65,536 bytes. The samples of tile t are all t.
unfoldable pub large : List ℕ
large = large_head ++ even_tiles 65536 (λ t. t) 20
