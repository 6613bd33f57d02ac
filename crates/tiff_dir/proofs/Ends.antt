-- The end of a level: its shape, and the level itself.
use Rattle.tiff_dir.specs.declared.tags.TheConstants.{BITS_PER_SAMPLE, COMPRESSION, IMAGE_LENGTH, IMAGE_WIDTH, PHOTOMETRIC_INTERPRETATION, SAMPLES_PER_PIXEL, SAMPLE_FORMAT, TILE_BYTE_COUNTS, TILE_LENGTH, TILE_OFFSETS, TILE_WIDTH}
use Rattle.tiff_dir.specs.declared.limits.TheConstants.{MAX_TILES, MAX_TILE_BYTES}
use Rattle.std.proofs.Common.{◌≡◌, ℕ, ◌+◌, ◌*◌, ◌%◌, ◌≤◌, ◌≢◌, inl, inr, Bool, true, false, ◌&&◌, ◌==◌, if◌then◌else◌, nat_lt, nat_le, List, get_or, Option, Some, None, IsSomeAnd, refl, sym, subst, ap, ◌∙◌, arith, lit<, add-one}
use Rattle.std.proofs.lemmas.Option.{same_Some, none-some}
use Rattle.std.proofs.lemmas.Bool.{and_parts, and_cases, eqb-true, ltb-true, ltb-false, cases_eq, false≢true}
use Rattle.std.specs.Option.{option_map}
use Rattle.std.specs.List.{AllPass}
use Rattle.tiff_dir.specs.declared.table.DirectoryEntry.{DirectoryEntry}
use Rattle.tiff_dir.specs.declared.rule.Rule.{Rule}
use Rattle.tiff_dir.specs.declared.level.Kind.{Kind}
use Rattle.tiff_dir.specs.declared.level.Kind.TheVariants as kind
use Rattle.tiff_dir.specs.Table.{keeps, short_or, place_or, draft_in, HasValues, HasCounts, IsReadIn}
use Rattle.tiff_dir.proofs.Fields.{kind_told, kind_long, typed, met_entry, met_there}
use Rattle.tiff_dir.proofs.Levels.{fits_cases}
use Rattle.tiff_dir.specs.declared.level.Level.{Level}
use Rattle.tiff_dir.specs.declared.level.Place.{Place}
use Rattle.tiff_dir.specs.declared.level.Compression.{Compression}
use Rattle.tiff_dir.specs.declared.stage.Draft.{Draft}
use Rattle.tiff_dir.specs.declared.stage.Pending.{Pending}
use Rattle.tiff_dir.specs.declared.stage.Stage.{Stage}
use Rattle.tiff_dir.specs.declared.fault.FileFault.{FileFault}
use Rattle.tiff_dir.specs.declared.fault.FileFault.TheVariants.{Missing, FieldType, Unsupported, LevelShape, TileSize, TileArray}
use Rattle.tiff_dir.specs.File.{◌>>=◌, Field, kind_of, size_of, values_at, field, value}
use Rattle.tiff_dir.specs.Profile.{subfile_rule, profile, samples_fit, is_depth, accepts, is_tile_side, tile_bytes}
use Rattle.tiff_dir.specs.Described.{described, layout_of}
use Rattle.tiff_dir.specs.Level.{Grid, Layout, grid_at, previous_level, place_of, compression_of, layout_at, depth_at, plain_size_at}
use Rattle.tiff_dir.specs.Fault.{is_smaller, sides, directory_tiles, IsUnsupported, IsNotSmaller, IsNoTileArray, IsFaultOfLevel, IsFaultAt}
use Rattle.tiff_dir.specs.Shape.{has_sides, fits_under, has_tiles, draft_tiles, has_arrays, layout_from, IsShaped, IsShapeFault}
use Rattle.tiff_dir.specs.Stage.{index_of, Follows, IsAt, IsBefore, IsBounded, IsDraft, IsDrafted, IsPending, IsSupported, EndsDirectory}
use Rattle.tiff_dir.proofs.Chain.{some_and_at, some_and_from, goes_on}
use Rattle.tiff_dir.proofs.GoingOn.{levels_taken}

-- The parts of a level

grid_parts : (o1 o2 o3 o4 : Option ℕ) (g : Grid)
    → (o1 >>= λ width. o2 >>= λ length. o3 >>= λ tile_width. o4 >>= λ tile_length. Some (record { width = width; length = length; tile_width = tile_width; tile_length = tile_length })) ≡ Some g
    → (o1 ≡ Some g.width) × (o2 ≡ Some g.length) × (o3 ≡ Some g.tile_width) × (o4 ≡ Some g.tile_length)
grid_parts None o2 o3 o4 g e = absurd (none-some g e)
grid_parts (Some a) None o3 o4 g e = absurd (none-some g e)
grid_parts (Some a) (Some b) None o4 g e = absurd (none-some g e)
grid_parts (Some a) (Some b) (Some c) None g e = absurd (none-some g e)
grid_parts (Some a) (Some b) (Some c) (Some d) g e =
    let x : Grid = record { width = a; length = b; tile_width = c; tile_length = d } in
    let P : Grid → Type 0 = λ y. (Some a ≡ Some y.width) × (Some b ≡ Some y.length) × (Some c ≡ Some y.tile_width) × (Some d ≡ Some y.tile_length) in
    subst P (same_Some x g e) (refl, refl, refl, refl)

parts : (o1 : Option Grid) (o5 o6 : Option ℕ) (o7 : Option Compression) (o8 o9 : Option Place) (l : Layout)
    → (o1 >>= λ grid. o5 >>= λ samples. o6 >>= λ bits. o7 >>= λ compression. o8 >>= λ offsets. o9 >>= λ counts.
    Some (record { grid = grid; samples = samples; bits = bits; compression = compression; offsets = offsets; counts = counts })) ≡ Some l
    → (o1 ≡ Some l.grid) × (o5 ≡ Some l.samples) × (o6 ≡ Some l.bits) × (o7 ≡ Some l.compression) × (o8 ≡ Some l.offsets) × (o9 ≡ Some l.counts)
parts None o5 o6 o7 o8 o9 l e = absurd (none-some l e)
parts (Some g) None o6 o7 o8 o9 l e = absurd (none-some l e)
parts (Some g) (Some s) None o7 o8 o9 l e = absurd (none-some l e)
parts (Some g) (Some s) (Some t) None o8 o9 l e = absurd (none-some l e)
parts (Some g) (Some s) (Some t) (Some u) None o9 l e = absurd (none-some l e)
parts (Some g) (Some s) (Some t) (Some u) (Some v) None l e = absurd (none-some l e)
parts (Some g) (Some s) (Some t) (Some u) (Some v) (Some w) l e =
    let x : Layout = record { grid = g; samples = s; bits = t; compression = u; offsets = v; counts = w } in
    let P : Layout → Type 0 = λ y. (Some g ≡ Some y.grid) × (Some s ≡ Some y.samples) × (Some t ≡ Some y.bits) × (Some u ≡ Some y.compression) × (Some v ≡ Some y.offsets) × (Some w ≡ Some y.counts) in
    subst P (same_Some x l e) (refl, refl, refl, refl, refl, refl)

-- what a grid and a layout that are there tell of the file's values
pub grid_told : (f : List ℕ) (k : ℕ) (g : Grid) → grid_at f k ≡ Some g
    → (value f k IMAGE_WIDTH 0 ≡ Some g.width) × (value f k IMAGE_LENGTH 0 ≡ Some g.length) × (value f k TILE_WIDTH 0 ≡ Some g.tile_width) × (value f k TILE_LENGTH 0 ≡ Some g.tile_length)
unfolding grid_at
grid_told f k g told = grid_parts (value f k IMAGE_WIDTH 0) (value f k IMAGE_LENGTH 0) (value f k TILE_WIDTH 0) (value f k TILE_LENGTH 0) g told

pub layout_parts : (f : List ℕ) (k : ℕ) (l : Layout) → layout_at f k ≡ Some l
    → (grid_at f k ≡ Some l.grid) × (value f k SAMPLES_PER_PIXEL 0 ≡ Some l.samples) × (depth_at f k ≡ Some l.bits)
    × ((value f k COMPRESSION 0 >>= compression_of) ≡ Some l.compression) × ((field f k TILE_OFFSETS >>= place_of f) ≡ Some l.offsets) × ((field f k TILE_BYTE_COUNTS >>= place_of f) ≡ Some l.counts)
unfolding layout_at
layout_parts f k l told = parts (grid_at f k) (value f k SAMPLES_PER_PIXEL 0) (depth_at f k) (value f k COMPRESSION 0 >>= compression_of) (field f k TILE_OFFSETS >>= place_of f) (field f k TILE_BYTE_COUNTS >>= place_of f) l told

grid_drafted : (f : List ℕ) (k : ℕ) (d : Draft) → IsDrafted f k d → grid_at f k ≡ Some (record { width = d.width; length = d.length; tile_width = d.tile_width; tile_length = d.tile_length })
unfolding grid_at
grid_drafted f k d is = rw (is.width, is.length, is.tile_width, is.tile_length) refl

pub layout_told : (f : List ℕ) (k : ℕ) (d : Draft) (bits : ℕ) → IsDrafted f k d → depth_at f k ≡ Some bits → layout_at f k ≡ Some (layout_from d bits)
unfolding layout_at
layout_told f k d bits is told = rw (grid_drafted f k d is, is.samples, told, is.compression, is.offsets, is.counts) refl

-- The sides

sides_drafted : (f : List ℕ) (k : ℕ) (d : Draft) → IsDrafted f k d → sides f k ≡ Some (d.width, d.length)
unfolding sides
sides_drafted f k d is = rw (is.width, is.length) refl

sides_level : (f : List ℕ) (k : ℕ) (l : Layout) → layout_at f k ≡ Some l → sides f k ≡ Some (l.grid.width, l.grid.length)
unfolding sides
sides_level f k l told = let p = grid_told f k l.grid (layout_parts f k l told).0 in rw (p.0, p.1) refl

before_some : (f : List ℕ) (o : Option ℕ) (l : Level) → option_map (layout_at f) o ≡ Some (described l) → (b : ℕ) × (o ≡ Some b) × (layout_at f b ≡ described l)
before_some f None l e = absurd (none-some _ e)
before_some f (Some b) l e = (b, refl, same_Some _ _ e)

before_none : (f : List ℕ) (o : Option ℕ) → option_map (layout_at f) o ≡ None → o ≡ None
before_none f None e = refl
before_none f (Some b) e = absurd (none-some _ (sym e))

pub no_width : (f : List ℕ) (k : ℕ) (d : Draft) → IsDrafted f k d → has_sides d ≡ false → IsFaultOfLevel f k LevelShape
no_width f k d is bad = elim (and_cases (nat_lt 0 d.width) (nat_lt 0 d.length) bad) [
  | inl h ↦ (let none : d.width ≡ 0 = omega (arith, ltb-false 0 d.width h) in inl (some_and_from (value f k IMAGE_WIDTH 0) (λ s. s ≡ 0) d.width is.width none))
  | inr h ↦ (let none : d.length ≡ 0 = omega (arith, ltb-false 0 d.length h) in inr (inl (some_and_from (value f k IMAGE_LENGTH 0) (λ s. s ≡ 0) d.length is.length none)))
]

sides_fault : (f : List ℕ) (k : ℕ) (d : Draft) (previous : Option Level) → IsDrafted f k d → IsBefore f k previous → fits_under previous d ≡ false → IsFaultOfLevel f k LevelShape
sides_fault f k d None is before bad = no_width f k d is bad
sides_fault f k d (Some l) is before bad = elim (and_cases (has_sides d) (is_smaller (d.width, d.length) (l.width, l.length)) bad) [
  | inl h ↦ no_width f k d is h
  | inr h ↦
      (let (b, there, told) = before_some f (previous_level f k) l before in
      inr (inr (some_and_from (previous_level f k) (λ p. IsSomeAnd (sides f k) (λ x. IsSomeAnd (sides f p) (λ y. is_smaller x y ≡ false))) b there
      (some_and_from (sides f k) (λ x. IsSomeAnd (sides f b) (λ y. is_smaller x y ≡ false)) (d.width, d.length) (sides_drafted f k d is)
      (some_and_from (sides f b) (λ y. is_smaller (d.width, d.length) y ≡ false) (l.width, l.length) (sides_level f b (layout_of l) told) h)))))
]

fits_sides : (previous : Option Level) (d : Draft) → fits_under previous d ≡ true → has_sides d ≡ true
fits_sides None d good = good
fits_sides (Some l) d good = (and_parts (has_sides d) (is_smaller (d.width, d.length) (l.width, l.length)) good).0

not_smaller : (f : List ℕ) (k : ℕ) (d : Draft) (previous : Option Level) → IsDrafted f k d → IsBefore f k previous → fits_under previous d ≡ true → IsNotSmaller f k → ⊥
not_smaller f k d None is before good bad = rw (before_none f (previous_level f k) before) at bad
not_smaller f k d (Some l) is before good bad =
    let (b, there, told) = before_some f (previous_level f k) l before in
    let one = some_and_at (previous_level f k) (λ p. IsSomeAnd (sides f k) (λ x. IsSomeAnd (sides f p) (λ y. is_smaller x y ≡ false))) b there bad in
    let two = some_and_at (sides f k) (λ x. IsSomeAnd (sides f b) (λ y. is_smaller x y ≡ false)) (d.width, d.length) (sides_drafted f k d is) one in
    let three = some_and_at (sides f b) (λ y. is_smaller (d.width, d.length) y ≡ false) (l.width, l.length) (sides_level f b (layout_of l) told) two in
    false≢true (sym three ∙ (and_parts (has_sides d) (is_smaller (d.width, d.length) (l.width, l.length)) good).1)

no_sides_fault : (f : List ℕ) (k : ℕ) (d : Draft) (previous : Option Level) → IsDrafted f k d → IsBefore f k previous → fits_under previous d ≡ true → IsFaultOfLevel f k LevelShape → ⊥
no_sides_fault f k d previous is before good (inl bad) =
    let none = some_and_at (value f k IMAGE_WIDTH 0) (λ s. s ≡ 0) d.width is.width bad in
    let some = ltb-true 0 d.width (and_parts (nat_lt 0 d.width) (nat_lt 0 d.length) (fits_sides previous d good)).0 in omega arith
no_sides_fault f k d previous is before good (inr (inl bad)) =
    let none = some_and_at (value f k IMAGE_LENGTH 0) (λ s. s ≡ 0) d.length is.length bad in
    let some = ltb-true 0 d.length (and_parts (nat_lt 0 d.width) (nat_lt 0 d.length) (fits_sides previous d good)).1 in omega arith
no_sides_fault f k d previous is before good (inr (inr bad)) = not_smaller f k d previous is before good bad

-- The tiles

pub depth_value : (f : List ℕ) (k bits : ℕ) → depth_at f k ≡ Some bits → value f k BITS_PER_SAMPLE 0 ≡ Some bits
unfolding depth_at
depth_value f k bits is = at (value f k BITS_PER_SAMPLE 0) is where
  tested : (b : ℕ) (good : Bool) → (if good then Some b else None) ≡ Some bits → Some b ≡ Some bits
  tested b true is = is
  tested b false is = absurd (none-some bits is)

  at : (o : Option ℕ) → (o >>= λ b. if is_depth b then Some b else None) ≡ Some bits → o ≡ Some bits
  at None is = absurd (none-some bits is)
  at (Some b) is = tested b (is_depth b) is

pub depth_told : (f : List ℕ) (k bits : ℕ) → value f k BITS_PER_SAMPLE 0 ≡ Some bits → is_depth bits ≡ true → depth_at f k ≡ Some bits
unfolding depth_at
depth_told f k bits told depth = rw told (rw depth refl)

plain_drafted : (f : List ℕ) (k : ℕ) (d : Draft) (bits : ℕ) → IsDrafted f k d → depth_at f k ≡ Some bits → plain_size_at f k ≡ Some (tile_bytes d.tile_width d.tile_length d.samples bits)
unfolding plain_size_at
plain_drafted f k d bits is told = rw (is.tile_width, is.tile_length, is.samples, told) refl

pub tiles_parts : (d : Draft) (bits : ℕ) → has_tiles d bits ≡ true → (is_tile_side d.tile_width ≡ true) × (is_tile_side d.tile_length ≡ true) × (nat_le (tile_bytes d.tile_width d.tile_length d.samples bits) MAX_TILE_BYTES ≡ true)
tiles_parts d bits good =
    let one = and_parts (is_tile_side d.tile_width) (is_tile_side d.tile_length && nat_le (tile_bytes d.tile_width d.tile_length d.samples bits) MAX_TILE_BYTES) good in
    let two = and_parts (is_tile_side d.tile_length) (nat_le (tile_bytes d.tile_width d.tile_length d.samples bits) MAX_TILE_BYTES) one.1 in
    (one.0, two.0, two.1)

pub tiles_fault : (f : List ℕ) (k : ℕ) (d : Draft) (bits : ℕ) → IsDrafted f k d → depth_at f k ≡ Some bits → has_tiles d bits ≡ false → IsFaultOfLevel f k TileSize
tiles_fault f k d bits is told bad = elim (and_cases (is_tile_side d.tile_width) (is_tile_side d.tile_length && nat_le (tile_bytes d.tile_width d.tile_length d.samples bits) MAX_TILE_BYTES) bad) [
  | inl h ↦ inl (some_and_from (value f k TILE_WIDTH 0) (λ s. is_tile_side s ≡ false) d.tile_width is.tile_width h)
  | inr h ↦ elim (and_cases (is_tile_side d.tile_length) (nat_le (tile_bytes d.tile_width d.tile_length d.samples bits) MAX_TILE_BYTES) h) [
    | inl g ↦ inr (inl (some_and_from (value f k TILE_LENGTH 0) (λ s. is_tile_side s ≡ false) d.tile_length is.tile_length g))
    | inr g ↦ inr (inr (some_and_from (plain_size_at f k) (λ n. nat_le n MAX_TILE_BYTES ≡ false) _ (plain_drafted f k d bits is told) g))
  ]
]

no_tiles_fault : (f : List ℕ) (k : ℕ) (d : Draft) (bits : ℕ) → IsDrafted f k d → depth_at f k ≡ Some bits → has_tiles d bits ≡ true → IsFaultOfLevel f k TileSize → ⊥
no_tiles_fault f k d bits is told good (inl bad) = false≢true (sym (some_and_at (value f k TILE_WIDTH 0) (λ s. is_tile_side s ≡ false) d.tile_width is.tile_width bad) ∙ (tiles_parts d bits good).0)
no_tiles_fault f k d bits is told good (inr (inl bad)) = false≢true (sym (some_and_at (value f k TILE_LENGTH 0) (λ s. is_tile_side s ≡ false) d.tile_length is.tile_length bad) ∙ (tiles_parts d bits good).1)
no_tiles_fault f k d bits is told good (inr (inr bad)) = false≢true (sym (some_and_at (plain_size_at f k) (λ n. nat_le n MAX_TILE_BYTES ≡ false) _ (plain_drafted f k d bits is told) bad) ∙ (tiles_parts d bits good).2)

side_some : (side : ℕ) → is_tile_side side ≡ true → nat_lt 0 side ≡ true
side_some side good = (and_parts (nat_lt 0 side) (side % 16 == 0) good).0

count_drafted : (f : List ℕ) (k : ℕ) (d : Draft) (bits : ℕ) → IsDrafted f k d → has_tiles d bits ≡ true → directory_tiles f k ≡ Some (draft_tiles d)
unfolding directory_tiles
count_drafted f k d bits is good =
    let across = side_some d.tile_width (tiles_parts d bits good).0 in
    let down = side_some d.tile_length (tiles_parts d bits good).1 in
    rw (grid_drafted f k d is, across, down) refl

place_parts : (f : List ℕ) (e : Field) (p : Place) → place_of f e ≡ Some p → e.count ≡ Some p.count
unfolding place_of
place_parts f e p told = at (e.kind >>= kind_of) e.count told where
  at : (o : Option Kind) (c : Option ℕ) → (o >>= λ kind. c >>= λ count. values_at f e (count * size_of kind) >>= λ first. Some (record { first = first; len = count * size_of kind; count = count; kind = kind })) ≡ Some p → c ≡ Some p.count
  at None c told = absurd (none-some p told)
  at (Some kind) None told = absurd (none-some p told)
  at (Some kind) (Some count) told = more (values_at f e (count * size_of kind)) told where
    more : (o : Option ℕ) → (o >>= λ first. Some (record { first = first; len = count * size_of kind; count = count; kind = kind })) ≡ Some p → Some count ≡ Some p.count
    more None told = absurd (none-some p told)
    more (Some first) told = ap (λ (x : Place). Some x.count) (same_Some _ _ told)

place_count : (f : List ℕ) (o : Option Field) (p : Place) → (o >>= place_of f) ≡ Some p → (o >>= λ e. e.count) ≡ Some p.count
place_count f None p told = absurd (none-some p told)
place_count f (Some e) p told = place_parts f e p told

pub arrays_parts : (d : Draft) → has_arrays d ≡ true → (nat_le (draft_tiles d) MAX_TILES ≡ true) × ((draft_tiles d == d.offsets.count) ≡ true) × ((draft_tiles d == d.counts.count) ≡ true)
arrays_parts d good =
    let one = and_parts (nat_le (draft_tiles d) MAX_TILES) ((draft_tiles d == d.offsets.count) && (draft_tiles d == d.counts.count)) good in
    let two = and_parts (draft_tiles d == d.offsets.count) (draft_tiles d == d.counts.count) one.1 in
    (one.0, two.0, two.1)

array_fault : (f : List ℕ) (k tag : ℕ) (d : Draft) (bits : ℕ) (p : Place) → IsDrafted f k d → has_tiles d bits ≡ true → (field f k tag >>= place_of f) ≡ Some p → (draft_tiles d == p.count) ≡ false → IsNoTileArray f k tag
array_fault f k tag d bits p is tiles there bad =
    some_and_from (directory_tiles f k) (λ n. IsSomeAnd (field f k tag >>= λ e. e.count) (λ c. (n == c) ≡ false)) _ (count_drafted f k d bits is tiles)
    (some_and_from (field f k tag >>= λ e. e.count) (λ c. (draft_tiles d == c) ≡ false) _ (place_count f (field f k tag) p there) bad)

no_array_fault : (f : List ℕ) (k tag : ℕ) (d : Draft) (bits : ℕ) (p : Place) → IsDrafted f k d → has_tiles d bits ≡ true → (field f k tag >>= place_of f) ≡ Some p → (draft_tiles d == p.count) ≡ true → IsNoTileArray f k tag → ⊥
no_array_fault f k tag d bits p is tiles there good bad =
    let one = some_and_at (directory_tiles f k) (λ n. IsSomeAnd (field f k tag >>= λ e. e.count) (λ c. (n == c) ≡ false)) _ (count_drafted f k d bits is tiles) bad in
    let two = some_and_at (field f k tag >>= λ e. e.count) (λ c. (draft_tiles d == c) ≡ false) _ (place_count f (field f k tag) p there) one in
    false≢true (sym two ∙ good)

pub arrays_fault : (f : List ℕ) (k : ℕ) (d : Draft) (bits : ℕ) → IsDrafted f k d → has_tiles d bits ≡ true → has_arrays d ≡ false → IsFaultOfLevel f k TileArray
arrays_fault f k d bits is tiles bad = elim (and_cases (nat_le (draft_tiles d) MAX_TILES) ((draft_tiles d == d.offsets.count) && (draft_tiles d == d.counts.count)) bad) [
  | inl h ↦ inl (some_and_from (directory_tiles f k) (λ n. nat_le n MAX_TILES ≡ false) _ (count_drafted f k d bits is tiles) h)
  | inr h ↦ elim (and_cases (draft_tiles d == d.offsets.count) (draft_tiles d == d.counts.count) h) [
    | inl g ↦ inr (inl (array_fault f k TILE_OFFSETS d bits d.offsets is tiles is.offsets g))
    | inr g ↦ inr (inr (array_fault f k TILE_BYTE_COUNTS d bits d.counts is tiles is.counts g))
  ]
]

no_arrays_fault : (f : List ℕ) (k : ℕ) (d : Draft) (bits : ℕ) → IsDrafted f k d → has_tiles d bits ≡ true → has_arrays d ≡ true → IsFaultOfLevel f k TileArray → ⊥
no_arrays_fault f k d bits is tiles good (inl bad) = false≢true (sym (some_and_at (directory_tiles f k) (λ n. nat_le n MAX_TILES ≡ false) _ (count_drafted f k d bits is tiles) bad) ∙ (arrays_parts d good).0)
no_arrays_fault f k d bits is tiles good (inr (inl bad)) = no_array_fault f k TILE_OFFSETS d bits d.offsets is tiles is.offsets (arrays_parts d good).1 bad
no_arrays_fault f k d bits is tiles good (inr (inr bad)) = no_array_fault f k TILE_BYTE_COUNTS d bits d.counts is tiles is.counts (arrays_parts d good).2 bad

-- The level as a whole

pub shape_fault : (f : List ℕ) (k : ℕ) (d : Draft) (bits : ℕ) (previous : Option Level) (fault : FileFault) → IsDrafted f k d → depth_at f k ≡ Some bits → IsBefore f k previous → IsShapeFault previous d bits fault → IsFaultOfLevel f k fault
shape_fault f k d bits previous LevelShape is told before bad = sides_fault f k d previous is before bad
shape_fault f k d bits previous TileSize is told before bad = tiles_fault f k d bits is told bad
shape_fault f k d bits previous TileArray is told before bad = arrays_fault f k d bits is bad.0 bad.1
shape_fault f k d bits previous _ is told before bad = absurd bad

unsupported_clean : (f : List ℕ) (p : Pending) (tag : ℕ) → IsPending f p → IsSupported f p.index BITS_PER_SAMPLE → IsSupported f p.index SAMPLE_FORMAT → IsUnsupported f p.index tag → ⊥
unsupported_clean f p tag is bits formats bad = elim (cases_eq tag BITS_PER_SAMPLE) [
  | inl e ↦ bits (let P : ℕ → Type 0 = λ x. IsUnsupported f p.index x in subst P e bad)
  | inr n1 ↦ elim (cases_eq tag SAMPLE_FORMAT) [
    | inl e ↦ formats (let P : ℕ → Type 0 = λ x. IsUnsupported f p.index x in subst P e bad)
    | inr n2 ↦ is.supported tag n1 n2 bad
  ]
]

-- a level whose values are all read
pub record IsRead (f : List ℕ) (p : Pending) (bits : ℕ) (previous : Option Level) : Type 0 where
  pub pending : IsPending f p
  pub told : depth_at f p.index ≡ Some bits
  pub depths : IsSupported f p.index BITS_PER_SAMPLE
  pub formats : IsSupported f p.index SAMPLE_FORMAT
  pub before : IsBefore f p.index previous
  pub shaped : IsShaped previous p.draft bits

level_clean : (f : List ℕ) (p : Pending) (bits : ℕ) (previous : Option Level) → IsRead f p bits previous → (fault : FileFault) → IsFaultOfLevel f p.index fault → ⊥
level_clean f p bits previous is (Missing tag) bad = is.pending.whole tag bad
level_clean f p bits previous is (FieldType tag) bad = is.pending.typed tag bad
level_clean f p bits previous is (Unsupported tag) bad = unsupported_clean f p tag is.pending is.depths is.formats bad
level_clean f p bits previous is LevelShape bad = no_sides_fault f p.index p.draft previous is.pending.drafted is.before is.shaped.sides bad
level_clean f p bits previous is TileSize bad = no_tiles_fault f p.index p.draft bits is.pending.drafted is.told is.shaped.tiles bad
level_clean f p bits previous is TileArray bad = no_arrays_fault f p.index p.draft bits is.pending.drafted is.shaped.tiles is.shaped.arrays bad
level_clean f p bits previous is _ bad = bad

pub level_follows : (f : List ℕ) (p : Pending) (bits : ℕ) (previous : Option Level) → IsRead f p bits previous → Follows f p.order (p.index + 1) p.next
level_follows f p bits previous is =
    let w = is.pending in
    let clean : (fault : FileFault) → IsFaultAt f p.index fault → ⊥ = λ fault bad. elim bad [ inl h ↦ w.sound fault h | inr h ↦ level_clean f p bits previous is fault h.1 ] in
    goes_on f p.order p.index p.next w.walked w.few w.there w.next clean

pub level_ends : (f : List ℕ) (p : Pending) (bits : ℕ) (stage : Stage) (l : Level) → IsPending f p → depth_at f p.index ≡ Some bits → layout_of l ≡ layout_from p.draft bits → index_of stage ≡ p.index + 1 → IsAt f (p.index + 1) stage
    → EndsDirectory f p.index (record { stage = stage; level = Some l })
level_ends f p bits stage l is told same index at = record {
  here = at.0;
  index = index ∙ add-one p.index;
  levels = levels_taken f p.index (layout_of l) is.level (layout_told f p.index p.draft bits is.drafted told ∙ ap Some (sym same));
  come = rw add-one at at.1;
}

-- Its bounds

is_multiple : (side : ℕ) → is_tile_side side ≡ true → (16 ≤ side) × (side % 16 ≡ 0)
is_multiple side good =
    let p = and_parts (nat_lt 0 side) (side % 16 == 0) good in
    let some = ltb-true 0 side p.0 in
    let whole : side % 16 ≡ 0 = eqb-true (side % 16) 0 p.1 in
    (omega arith, whole)

long_place : (es : List DirectoryEntry) → AllPass (keeps es) profile → (place_or es TILE_OFFSETS).kind ≡ kind.Long
unfolding profile
long_place es met =
    let r : Rule = get_or profile 10 subfile_rule in
    let ok = met 10 subfile_rule (lit< tt) in
    let (e, there) = met_there es r ok refl in
    let four : e.kind ≡ 4 = kind_long r.typing e.kind refl (typed r e (met_entry es r e ok there)) in
    rw there (rw four refl)

-- byte counts of tiles are LONG where they aren't SHORT
abbrev IsCount : Kind → Type 0
IsCount k = k ≢ kind.Short → k ≡ kind.Long

whole_place : (es : List DirectoryEntry) → AllPass (keeps es) profile → IsCount (place_or es TILE_BYTE_COUNTS).kind
unfolding profile
whole_place es met =
    let r : Rule = get_or profile 11 subfile_rule in
    let ok = met 11 subfile_rule (lit< tt) in
    let (e, there) = met_there es r ok refl in
    elim (kind_told r.typing e.kind tt (typed r e (met_entry es r e ok there))) [ inl three ↦ λ no_short. absurd (no_short (rw there (rw three refl))) | inr four ↦ λ no_short. rw there (rw four refl) ]

-- a draft that is read has the compression that its entries name
pub read_in : (es : List DirectoryEntry) (c : Compression) (d : Draft) → AllPass (keeps es) profile → HasValues es c → HasCounts es → d ≡ draft_in es c → IsReadIn es d
unfolding draft_in
read_in es c d met right counts is =
    let same : c ≡ d.compression = sym (ap (λ (x : Draft). x.compression) is) in record {
      met = met;
      values = subst (HasValues es) same right;
      counts = counts;
      draft = subst (λ k. d ≡ draft_in es k) same is;
    }

pub draft_bounds : (es : List DirectoryEntry) {c : Compression} (d : Draft) → AllPass (keeps es) profile → HasValues es c → d ≡ draft_in es c → IsBounded d → IsDraft d
unfolding draft_in
draft_bounds es d met right is bounded = record {
  bounded = bounded;
  samples = (let P : Draft → Type 0 = λ x. accepts SAMPLES_PER_PIXEL x.samples ≡ true in subst P (sym is) (count_fits (short_or es SAMPLES_PER_PIXEL 1) (short_or es PHOTOMETRIC_INTERPRETATION 0) right.samples));
  long = ap (λ (x : Draft). x.offsets.kind) is ∙ long_place es met;
  whole = subst (λ (x : Draft). IsCount x.counts.kind) (sym is) (whole_place es met);
} where
  count_fits : (s p : ℕ) → samples_fit s p ≡ true → accepts SAMPLES_PER_PIXEL s ≡ true
  count_fits s p ok = elim (fits_cases s p ok) [ inl one ↦ rw one refl | inr three ↦ rw three refl ]
