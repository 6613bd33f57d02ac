-- The values of a level's arrays, by their bytes.
use Rattle.tiff_dir.specs.declared.field_values.TheConstants.{COMPRESSION_NONE, COMPRESSION_PACKBITS}
use Rattle.tiff_dir.specs.declared.tags.TheConstants.{BITS_PER_SAMPLE, COMPRESSION, IMAGE_LENGTH, IMAGE_WIDTH, SAMPLES_PER_PIXEL, TILE_BYTE_COUNTS, TILE_LENGTH, TILE_OFFSETS, TILE_WIDTH}
use Rattle.std.proofs.Common.{◌≡◌, ℕ, ◌+◌, ◌*◌, ◌<◌, ◌≤◌, ◌==◌, inl, inr, Bool, true, false, List, length, Option, Some, None, if◌then◌else◌, refl, ap, subst, ◌∙◌, arith}
use Rattle.std.proofs.Math.Nat.{mul-le-mul_right}
use Rattle.std.proofs.lemmas.Option.{same_Some, none-some}
use Rattle.std.proofs.lemmas.Bool.{lt-ltb, cases_Bool, eqb-true, false≢true}
use Rattle.std.specs.Option.{option_map_or}
use Rattle.tiff_dir.specs.declared.order.Order.{Order}
use Rattle.tiff_dir.specs.declared.level.Level.{Level}
use Rattle.tiff_dir.specs.declared.level.Place.{Place}
use Rattle.tiff_dir.specs.declared.level.Compression.{Compression}
use Rattle.tiff_dir.specs.declared.level.Compression.TheVariants.{Plain, Packed}
use Rattle.tiff_dir.specs.declared.level.Codec.TheVariants.{PackBits}
use Rattle.tiff_dir.specs.declared.level.Kind.{Kind}
use Rattle.tiff_dir.specs.declared.level.Kind.TheVariants as kind
use Rattle.tiff_dir.specs.Number.{number_in}
use Rattle.tiff_dir.specs.File.{◌>>=◌, Field, order_of, number, kind_of, size_of, values_at, has_all_tags, field, field_value, value, default_of}
use Rattle.tiff_dir.specs.Described.{grid_of, layout_of}
use Rattle.tiff_dir.specs.Level.{Layout, place_of, compression_of, grid_at, level_directory, level_grid, level_layout, level_value, plain_size, depth_at, plain_size_at}
use Rattle.tiff_dir.specs.Walk.{IsArrayOf, IsDescribed}
use Rattle.tiff_dir.proofs.Parts.{number_part}
use Rattle.tiff_dir.proofs.Ends.{grid_told, layout_parts, depth_value}
use Rattle.tiff_dir.proofs.Told.{layout_found, offsets_at, counts_at}

size_some : (k : Kind) → 0 < size_of k
size_some kind.Byte = omega arith
size_some kind.Ascii = omega arith
size_some kind.Short = omega arith
size_some kind.Long = omega arith
size_some kind.Rational = omega arith
size_some kind.SignedByte = omega arith
size_some kind.Undefined = omega arith
size_some kind.SignedShort = omega arith
size_some kind.SignedLong = omega arith
size_some kind.SignedRational = omega arith
size_some kind.Float = omega arith
size_some kind.Double = omega arith

-- the number of tile t is in the array
pub within : (t count size : ℕ) → t < count → t * size + size ≤ count * size
within t count size less =
    let more : t + 1 ≤ count = omega arith in
    omega (arith, mul-le-mul_right size more)

place_told : (f : List ℕ) (e : Field) (p : Place) → place_of f e ≡ Some p → ((e.kind >>= kind_of) ≡ Some p.kind) × (e.count ≡ Some p.count) × (values_at f e (p.count * size_of p.kind) ≡ Some p.first)
unfolding place_of
place_told f e p told = at (e.kind >>= kind_of) e.count told where
  at : (o : Option Kind) (c : Option ℕ) → (o >>= λ k. c >>= λ count. values_at f e (count * size_of k) >>= λ first. Some (record { first = first; len = count * size_of k; count = count; kind = k })) ≡ Some p
      → (o ≡ Some p.kind) × (c ≡ Some p.count) × (values_at f e (p.count * size_of p.kind) ≡ Some p.first)
  at None c told = absurd (none-some p told)
  at (Some k) None told = absurd (none-some p told)
  at (Some k) (Some n) told = more (values_at f e (n * size_of k)) refl told where
    more : (o : Option ℕ) → values_at f e (n * size_of k) ≡ o → (o >>= λ first. Some (record { first = first; len = n * size_of k; count = n; kind = k })) ≡ Some p
        → (Some k ≡ Some p.kind) × (Some n ≡ Some p.count) × (values_at f e (p.count * size_of p.kind) ≡ Some p.first)
    more None there told = absurd (none-some p told)
    more (Some first) there told =
        let q : Place = record { first = first; len = n * size_of k; count = n; kind = k } in
        let P : Place → Type 0 = λ x. (Some k ≡ Some x.kind) × (Some n ≡ Some x.count) × (values_at f e (x.count * size_of x.kind) ≡ Some x.first) in
        subst P (same_Some q p told) (refl, refl, there)

entry_value : (f : List ℕ) (e : Field) (p : Place) (t : ℕ) → place_of f e ≡ Some p → t < p.count → field_value f e t ≡ number f (p.first + t * size_of p.kind) (size_of p.kind)
unfolding field_value values_at number
entry_value f e p t told less =
    let is = place_told f e p told in
    let test = lt-ltb t p.count less in
    rw (is.0, is.1, is.2, test) refl

field_value_told : (f : List ℕ) (k tag t : ℕ) (p : Place) → (field f k tag >>= place_of f) ≡ Some p → t < p.count → value f k tag t ≡ number f (p.first + t * size_of p.kind) (size_of p.kind)
unfolding value
field_value_told f k tag t p told less = at (field f k tag) told where
  at : (o : Option Field) → (o >>= place_of f) ≡ Some p → option_map_or (λ e. field_value f e t) o (if has_all_tags f k then default_of tag else None) ≡ number f (p.first + t * size_of p.kind) (size_of p.kind)
  at None told = absurd (none-some p told)
  at (Some e) told = entry_value f e p t told less

array_value : (f bytes : List ℕ) (o : Order) (k tag t : ℕ) (p : Place) → order_of f ≡ Some o → (field f k tag >>= place_of f) ≡ Some p → p.len ≡ p.count * size_of p.kind → t < p.count → IsArrayOf f p bytes → length bytes ≡ p.len
    → value f k tag t ≡ Some (number_in o (t * size_of p.kind) (size_of p.kind) bytes)
array_value f bytes o k tag t p named told len less part whole =
    let fits : t * size_of p.kind + size_of p.kind ≤ p.len = omega (arith, within t p.count (size_of p.kind) less) in
    field_value_told f k tag t p told less ∙ number_part f bytes o p.first p.len (t * size_of p.kind) (size_of p.kind) named part whole fits (size_some p.kind)

pub level_value_at : (f : List ℕ) (n k tag t v : ℕ) → level_directory f n ≡ Some k → value f k tag t ≡ Some v → level_value f n tag t ≡ Some v
unfolding level_value
level_value_at f n k tag t v there told = rw there told

pub offset_told : (f bytes : List ℕ) (o : Order) (n t : ℕ) (l : Layout) → order_of f ≡ Some o → level_layout f n ≡ Some l → l.offsets.len ≡ l.offsets.count * size_of l.offsets.kind → t < l.offsets.count → length bytes ≡ l.offsets.len
    → IsArrayOf f l.offsets bytes → level_value f n TILE_OFFSETS t ≡ Some (number_in o (t * size_of l.offsets.kind) (size_of l.offsets.kind) bytes)
offset_told f bytes o n t l named level len less whole part =
    let (k, there, told) = layout_found f n l level in
    level_value_at f n k TILE_OFFSETS t _ there (array_value f bytes o k TILE_OFFSETS t l.offsets named (layout_parts f k l told).4 len less part whole)

pub count_told : (f bytes : List ℕ) (o : Order) (n t : ℕ) (l : Layout) → order_of f ≡ Some o → level_layout f n ≡ Some l → l.counts.len ≡ l.counts.count * size_of l.counts.kind → t < l.counts.count → length bytes ≡ l.counts.len
    → IsArrayOf f l.counts bytes → level_value f n TILE_BYTE_COUNTS t ≡ Some (number_in o (t * size_of l.counts.kind) (size_of l.counts.kind) bytes)
count_told f bytes o n t l named level len less whole part =
    let (k, there, told) = layout_found f n l level in
    level_value_at f n k TILE_BYTE_COUNTS t _ there (array_value f bytes o k TILE_BYTE_COUNTS t l.counts named (layout_parts f k l told).5 len less part whole)

-- The values of a level

grid_of_level : (f : List ℕ) (n k : ℕ) (l : Level) → level_directory f n ≡ Some k → grid_at f k ≡ Some (grid_of l) → level_grid f n ≡ Some (grid_of l)
unfolding level_grid
grid_of_level f n k l there told = rw there told

pub plain_number : (o : Option ℕ) → (o >>= compression_of) ≡ Some Plain → o ≡ Some COMPRESSION_NONE
plain_number None is = absurd (none-some Plain is)
plain_number (Some n) is = elim (cases_Bool (n == COMPRESSION_NONE)) [
  | inl one ↦ ap Some (eqb-true n COMPRESSION_NONE one)
  | inr other ↦ elim (cases_Bool (n == COMPRESSION_PACKBITS)) [
    | inl packed ↦ (let wrong : Some (Packed PackBits) ≡ Some Plain = (rw (other, packed) at is) in absurd (other_kind (same_Some (Packed PackBits) Plain wrong)))
    | inr none ↦ (let wrong : None ≡ Some Plain = (rw (other, none) at is) in absurd (none-some Plain wrong))
  ]
] where
  is_plain : Compression → Bool
  is_plain Plain = true
  is_plain (Packed codec) = false

  other_kind : Packed PackBits ≡ Plain → ⊥
  other_kind same = false≢true (ap is_plain same)

compression_of_level : (f : List ℕ) (n k : ℕ) (l : Level) → level_directory f n ≡ Some k → (value f k COMPRESSION 0 >>= compression_of) ≡ Some l.compression → (level_value f n COMPRESSION 0 >>= compression_of) ≡ Some l.compression
unfolding level_value
compression_of_level f n k l there told = rw there told

size_of_level : (f : List ℕ) (n k : ℕ) (l : Level) → level_directory f n ≡ Some k → value f k TILE_WIDTH 0 ≡ Some l.tile_width → value f k TILE_LENGTH 0 ≡ Some l.tile_length → value f k SAMPLES_PER_PIXEL 0 ≡ Some l.samples → depth_at f k ≡ Some l.bits
    → (level_directory f n >>= plain_size_at f) ≡ Some (plain_size (layout_of l))
unfolding plain_size_at
size_of_level f n k l there width length samples bits = rw there (rw (width, length, samples, bits) refl)

pub described_by : (f : List ℕ) (n : ℕ) (l : Level) → level_layout f n ≡ Some (layout_of l) → IsDescribed f n l
described_by f n l level =
    let (k, there, told) = layout_found f n (layout_of l) level in
    let is = layout_parts f k (layout_of l) told in
    let grid = grid_told f k (layout_of l).grid is.0 in
    record {
      width = level_value_at f n k IMAGE_WIDTH 0 l.width there grid.0;
      length = level_value_at f n k IMAGE_LENGTH 0 l.length there grid.1;
      tile_width = level_value_at f n k TILE_WIDTH 0 l.tile_width there grid.2;
      tile_length = level_value_at f n k TILE_LENGTH 0 l.tile_length there grid.3;
      samples = level_value_at f n k SAMPLES_PER_PIXEL 0 l.samples there is.1;
      bits = level_value_at f n k BITS_PER_SAMPLE 0 l.bits there (depth_value f k l.bits is.2);
      grid = grid_of_level f n k l there is.0;
      compression = compression_of_level f n k l there is.3;
      plain_size = size_of_level f n k l there grid.2 grid.3 is.1 is.2;
      layout = level;
      offsets = offsets_at f n (layout_of l) level;
      counts = counts_at f n (layout_of l) level;
    }
