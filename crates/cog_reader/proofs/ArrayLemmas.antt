-- The arrays of a level stand at places, and have bytes.
use Rattle.std.proofs.Common.{◌≡◌, ℕ, ◌+◌, ◌-◌, ◌*◌, ◌%◌, ◌<◌, false, List, length, take, drop, min, Option, Some, None, ap, arith, length-drop}
use Rattle.std.specs.Prelude.{◌==◌, nat_lt}
use Rattle.std.proofs.Math.Nat.{mul-le-mul_left}
use Rattle.std.proofs.lemmas.Bool.{le-ltb, ltb-true, and_parts}
use Rattle.std.proofs.lemmas.Nat.{le-div}
use Rattle.std.proofs.lemmas.List.{length-take}
use Rattle.std.proofs.lemmas.Option.{none-some}
use Rattle.tiff_dir.specs.declared.level.Kind.{Kind}
use Rattle.tiff_dir.specs.declared.level.Kind.TheVariants as kind
use Rattle.tiff_dir.specs.declared.level.Level.{Level}
use Rattle.tiff_dir.specs.declared.level.Place.{Place}
use Rattle.tiff_dir.specs.declared.level.Compression.{Compression}
use Rattle.tiff_dir.specs.File.{◌>>=◌, field, value, size_of}
use Rattle.tiff_dir.specs.Level.{Grid, Layout, level_directory, level_layout, layout_at, depth_at, grid_at, compression_of, place_of}
use Rattle.tiff_dir.specs.Profile.{tiles_along}
use Rattle.extents.specs.Extent.{ends_past}
use Rattle.tiff_dir.specs.Needs.{field_range, extent_of_place}
use Rattle.tiff_dir.specs.Walk.{IsArrayOf}
use Rattle.tiff_dir.specs.Query.{array_range}

at_directory : (f : List ℕ) (k : ℕ) (l : Layout) → layout_at f k ≡ Some l → ((field f k 324 >>= place_of f) ≡ Some l.offsets) × ((field f k 325 >>= place_of f) ≡ Some l.counts)
unfolding layout_at
at_directory f k l is = go (grid_at f k) (value f k 277 0) (depth_at f k) (value f k 259 0 >>= compression_of) (field f k 324 >>= place_of f) (field f k 325 >>= place_of f) is where
  go : (g : Option Grid) (s b : Option ℕ) (c : Option Compression) (o n : Option Place)
      → (g >>= λ grid. s >>= λ samples. b >>= λ bits. c >>= λ compression. o >>= λ offsets. n >>= λ counts.
      Some (record { grid = grid; samples = samples; bits = bits; compression = compression; offsets = offsets; counts = counts })) ≡ Some l
      → (o ≡ Some l.offsets) × (n ≡ Some l.counts)
  go None s b c o n is = absurd (none-some l is)
  go (Some g) None b c o n is = absurd (none-some l is)
  go (Some g) (Some s) None c o n is = absurd (none-some l is)
  go (Some g) (Some s) (Some b) None o n is = absurd (none-some l is)
  go (Some g) (Some s) (Some b) (Some c) None n is = absurd (none-some l is)
  go (Some g) (Some s) (Some b) (Some c) (Some o) None is = absurd (none-some l is)
  go (Some g) (Some s) (Some b) (Some c) (Some o) (Some n) is =
      let same : record { grid = g; samples = s; bits = b; compression = c; offsets = o; counts = n } ≡ l = cc in
      (ap (λ (m : Layout). Some m.offsets) same, ap (λ (m : Layout). Some m.counts) same)

pub ranges_are : (f : List ℕ) (n : ℕ) (l : Layout) → level_layout f n ≡ Some l → (array_range f n 324 ≡ Some (extent_of_place l.offsets)) × (array_range f n 325 ≡ Some (extent_of_place l.counts))
unfolding level_layout array_range field_range
ranges_are f n l is = at (level_directory f n) is where
  at : (o : Option ℕ) → (o >>= layout_at f) ≡ Some l → ((o >>= λ k. field f k 324 >>= place_of f >>= λ p. Some (extent_of_place p)) ≡ Some (extent_of_place l.offsets))
      × ((o >>= λ k. field f k 325 >>= place_of f >>= λ p. Some (extent_of_place p)) ≡ Some (extent_of_place l.counts))
  at None is = absurd (none-some l is)
  at (Some k) is = (let parts = at_directory f k l is in (ap (λ o. o >>= λ p. Some (extent_of_place p)) parts.0, ap (λ o. o >>= λ p. Some (extent_of_place p)) parts.1))

some_size_of : (k : Kind) → 0 < size_of k
some_size_of kind.Byte = omega arith
some_size_of kind.Ascii = omega arith
some_size_of kind.Short = omega arith
some_size_of kind.Long = omega arith
some_size_of kind.Rational = omega arith
some_size_of kind.SignedByte = omega arith
some_size_of kind.Undefined = omega arith
some_size_of kind.SignedShort = omega arith
some_size_of kind.SignedLong = omega arith
some_size_of kind.SignedRational = omega arith
some_size_of kind.Float = omega arith
some_size_of kind.Double = omega arith

some_product : (a b : ℕ) → 0 < a → 0 < b → 0 < a * b
some_product a b x y = omega (arith, mul-le-mul_left a y, x)

some_along : (side tile : ℕ) → 0 < side → 0 < tile → 0 < tiles_along side tile
some_along side tile some some_tile = le-div 1 (side + tile - 1) tile some_tile (omega arith)

pub inside_array : (f : List ℕ) (p : Place) (bytes : List ℕ) → IsArrayOf f p bytes → length bytes ≡ p.len → 0 < p.len → ends_past f (extent_of_place p) ≡ false
inside_array f p bytes is size some =
    let cut : length (take (p.first + p.len - p.first) (drop p.first f)) ≡ min (p.first + p.len - p.first) (length (drop p.first f)) = length-take (p.first + p.len - p.first) (drop p.first f) in
    le-ltb (length f) (p.first + p.len) (omega (arith, cut, length-drop p.first f, ap length is, size))

tile_sides : (l : Level) → (0 < l.tile_width) × (0 < l.tile_length)
tile_sides l = (
  ltb-true 0 l.tile_width (and_parts (nat_lt 0 l.tile_width) (l.tile_width % 16 == 0) l.tile_sides.0).0,
  ltb-true 0 l.tile_length (and_parts (nat_lt 0 l.tile_length) (l.tile_length % 16 == 0) l.tile_sides.1).0,
)

-- both arrays of a level have bytes
pub array_some : (l : Level) → (0 < l.offsets.len) × (0 < l.counts.len)
array_some l =
    let sides = tile_sides l in
    let tiles = some_product (tiles_along l.width l.tile_width) (tiles_along l.length l.tile_length) (some_along l.width l.tile_width l.sides.0 sides.0) (some_along l.length l.tile_length l.sides.1 sides.1) in
    let offsets = some_product l.offsets.count (size_of l.offsets.kind) (omega (arith, tiles, l.offset_of_each)) (some_size_of l.offsets.kind) in
    let counts = some_product l.counts.count (size_of l.counts.kind) (omega (arith, tiles, l.count_of_each)) (some_size_of l.counts.kind) in
    (omega (arith, offsets, l.lens.0), omega (arith, counts, l.lens.1))
