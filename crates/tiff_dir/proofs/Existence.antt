-- Where no fault stands for a window, the file has one.
use Rattle.tiff_dir.specs.declared.field_values.TheConstants.{COMPRESSION_NONE}
use Rattle.tiff_dir.specs.declared.tags.TheConstants.{COMPRESSION, SAMPLES_PER_PIXEL, TILE_BYTE_COUNTS, TILE_OFFSETS}
use Rattle.tiff_dir.specs.declared.limits.TheConstants.{MAX_TILES}
use Rattle.std.proofs.Common.{◌≡◌, ℕ, zero, suc, ◌+◌, ◌-◌, ◌*◌, ◌/◌, ◌%◌, ◌<◌, ◌≤◌, ◌⊎◌, inr, true, false, List, [], ◌∷◌, length, drop, Option, Some, None, refl, sym, subst, ap, ◌∙◌, arith}
use Rattle.std.specs.Prelude.{◌==◌, ◌&&◌, nat_le, slice_range, slice_index, IsSomeAnd}
use Rattle.std.specs.List.{Any}
use Rattle.std.specs.Option.{option_to_list}
use Rattle.std.proofs.lemmas.Bool.{and_parts, eqb-true, ltb-true, le-leb, le-ltb, false≢true}
use Rattle.std.proofs.lemmas.List.{length-take, length-drop}
use Rattle.std.proofs.lemmas.Nat.{div_below, mod_below, div-mul-add, mod-mul-add, mul-add-lt, row_fits}
use Rattle.std.proofs.lemmas.Option.{none-some, same_Some}
use Rattle.tiff_dir.specs.declared.order.Order.{Order}
use Rattle.tiff_dir.specs.declared.level.Place.{Place}
use Rattle.tiff_dir.specs.declared.level.Kind.{Kind}
use Rattle.tiff_dir.specs.declared.level.Compression.{Compression}
use Rattle.tiff_dir.specs.declared.level.Compression.TheVariants.{Plain, Packed}
use Rattle.tiff_dir.specs.declared.stage.Draft.{Draft}
use Rattle.tiff_dir.specs.declared.query.Query.{Query}
use Rattle.tiff_dir.specs.declared.query.Query.TheVariants.{Window}
use Rattle.tiff_dir.specs.declared.query.Pick.{Pick}
use Rattle.tiff_dir.specs.declared.fault.FileFault.{FileFault}
use Rattle.tiff_dir.specs.declared.fault.FileFault.TheVariants.{TileSize, Packet}
use Rattle.tiff_dir.specs.Number.{number_in}
use Rattle.tiff_dir.specs.File.{◌>>=◌, Field, kind_of, size_of, values_at, field, value}
use Rattle.tiff_dir.specs.Profile.{sample_bytes, accepts}
use Rattle.tiff_dir.specs.Level.{Layout, place_of, level_directory, level_layout, level_value, plain_size, plain_row, plain_size_at, tile_total}
use Rattle.extents.specs.Extent.{Extent}
use Rattle.tiff_dir.specs.Needs.{extent_of_place}
use Rattle.extents.specs.Extent.{bytes_in}
use Rattle.tiff_dir.specs.Query.{Rectangle, rectangle, tile_range, array_range, window_tiles, segment}
use Rattle.tiff_dir.specs.Window.{IsUnpackedBy, IsUnpacked, tile_at, place_in_tile, sample_in, HasSamples, IsSample}
use Rattle.tiff_dir.specs.Faulty.{HasTile, is_byte_count, IsNotPlainSize, IsFaulty, IsWindow}
use Rattle.tiff_dir.specs.Shape.{draft_tiles, has_arrays}
use Rattle.tiff_dir.proofs.Chain.{some_and_from}
use Rattle.tiff_dir.proofs.Clean.{In, in_left, in_right, in_option, named, not_false}
use Rattle.tiff_dir.proofs.Covered.{IsPixelOf, tile_inside, pixel_tile, among_in}
use Rattle.tiff_dir.proofs.Clear.{IsLaidLevel, layout_of_level, layout_there, IsAsked, asked, IsClear, clear, not_outside, tiles_are, arrays_inside, bytes_inside}
use Rattle.tiff_dir.proofs.Told.{offsets_at, counts_at}
use Rattle.tiff_dir.proofs.TileValues.{offset_told, count_told, plain_number}
use Rattle.tiff_dir.proofs.WindowLemmas.{sample_from}

-- ---- the bytes of a tile

place_len : (f : List ℕ) (e : Field) (p : Place) → place_of f e ≡ Some p → p.len ≡ p.count * size_of p.kind
unfolding place_of
place_len f e p told = at (e.kind >>= kind_of) e.count told where
  at : (o : Option Kind) (c : Option ℕ) → (o >>= λ k. c >>= λ count. values_at f e (count * size_of k) >>= λ first. Some (record { first = first; len = count * size_of k; count = count; kind = k })) ≡ Some p
      → p.len ≡ p.count * size_of p.kind
  at None c told = absurd (none-some p told)
  at (Some k) None told = absurd (none-some p told)
  at (Some k) (Some n) told = more (values_at f e (n * size_of k)) told where
    more : (o : Option ℕ) → (o >>= λ first. Some (record { first = first; len = n * size_of k; count = n; kind = k })) ≡ Some p → p.len ≡ p.count * size_of p.kind
    more None told = absurd (none-some p told)
    more (Some first) told =
        let q : Place = record { first = first; len = n * size_of k; count = n; kind = k } in
        let P : Place → Type 0 = λ x. x.len ≡ x.count * size_of x.kind in
        subst P (same_Some q p told) refl

array_len : (f : List ℕ) (k tag : ℕ) (p : Place) → (field f k tag >>= place_of f) ≡ Some p → p.len ≡ p.count * size_of p.kind
array_len f k tag p told = at (field f k tag) told where
  at : (o : Option Field) → (o >>= place_of f) ≡ Some p → p.len ≡ p.count * size_of p.kind
  at None told = absurd (none-some p told)
  at (Some e) told = place_len f e p told

part_len : (f : List ℕ) (r : Extent) → r.first + r.len ≤ length f → length (bytes_in f r) ≡ r.len
part_len f r inside = omega (arith, length-take (r.first + r.len - r.first) (drop r.first f), length-drop r.first f)

-- a tile's bytes: where they are, and that they are in the file
pub record HasBytes (f : List ℕ) (n t : ℕ) : Type 0 where
  pub first : ℕ
  pub count : ℕ
  pub first_is : level_value f n TILE_OFFSETS t ≡ Some first
  pub count_is : level_value f n TILE_BYTE_COUNTS t ≡ Some count
  pub inside : first + count ≤ length f

as_many : (d : Draft) → has_arrays d ≡ true → (draft_tiles d ≡ d.offsets.count) × (draft_tiles d ≡ d.counts.count)
as_many d good =
    let (few, same) = and_parts (nat_le (draft_tiles d) MAX_TILES) ((draft_tiles d == d.offsets.count) && (draft_tiles d == d.counts.count)) good in
    let (offsets, counts) = and_parts (draft_tiles d == d.offsets.count) (draft_tiles d == d.counts.count) same in
    (eqb-true (draft_tiles d) d.offsets.count offsets, eqb-true (draft_tiles d) d.counts.count counts)

values_there : (f : List ℕ) (q : Query) (t : ℕ) (c : IsClear f q) (a : IsAsked f q) → t < tile_total (layout_of_level f a.asked.level a.placed.level).grid
    → (first count : ℕ) × (level_value f a.asked.level TILE_OFFSETS t ≡ Some first) × (level_value f a.asked.level TILE_BYTE_COUNTS t ≡ Some count)
values_there f q t c a less =
    let n = a.asked.level in
    let l = layout_of_level f n a.placed.level in
    let is = layout_there f n a.placed.level in
    let laid = a.placed.level.laid in
    let (o, order) = named f c.directories in
    let counts = as_many laid.draft laid.arrays in
    let offsets = extent_of_place l.offsets in
    let sizes = extent_of_place l.counts in
    let offsets_inside = arrays_inside f q offsets c a (in_left offsets (option_to_list (array_range f n TILE_OFFSETS)) (option_to_list (array_range f n TILE_BYTE_COUNTS)) (in_option (array_range f n TILE_OFFSETS) offsets (offsets_at f n l is))) in
    let sizes_inside = arrays_inside f q sizes c a (in_right sizes (option_to_list (array_range f n TILE_OFFSETS)) (option_to_list (array_range f n TILE_BYTE_COUNTS)) (in_option (array_range f n TILE_BYTE_COUNTS) sizes (counts_at f n l is))) in
    let few : t < l.offsets.count = omega (arith, less, counts.0) in
    let fewer : t < l.counts.count = omega (arith, less, counts.1) in
    let first = offset_told f (bytes_in f offsets) o n t l order is (array_len f a.placed.level.directory TILE_OFFSETS l.offsets laid.drafted.offsets) few (part_len f offsets offsets_inside) refl in
    let count = count_told f (bytes_in f sizes) o n t l order is (array_len f a.placed.level.directory TILE_BYTE_COUNTS l.counts laid.drafted.counts) fewer (part_len f sizes sizes_inside) refl in
    (number_in o (t * size_of l.offsets.kind) (size_of l.offsets.kind) (bytes_in f offsets), number_in o (t * size_of l.counts.kind) (size_of l.counts.kind) (bytes_in f sizes), first, count)

range_there : (f : List ℕ) (n t first count : ℕ) → level_value f n TILE_OFFSETS t ≡ Some first → level_value f n TILE_BYTE_COUNTS t ≡ Some count → tile_range f n t ≡ Some (record { first = first; len = count })
unfolding tile_range
range_there f n t first count a b = rw (a, b) refl

tile_there : (f : List ℕ) (q : Query) (t : ℕ) (c : IsClear f q) (a : IsAsked f q) → t < tile_total (layout_of_level f a.asked.level a.placed.level).grid → In t (window_tiles f q) → HasBytes f a.asked.level t
tile_there f q t c a less there =
    let n = a.asked.level in
    let (first, count, first_is, count_is) = values_there f q t c a less in
    let r : Extent = record { first = first; len = count } in
    record { first = first; count = count; first_is = first_is; count_is = count_is; inside = bytes_inside f q t r c a there (range_there f n t first count first_is count_is) }

abbrev pub bytes_of : (f : List ℕ) (n t : ℕ) → HasBytes f n t → List ℕ
bytes_of f n t b = slice_range f b.first (b.first + b.count)

segment_there : (f : List ℕ) (n t : ℕ) (b : HasBytes f n t) → segment f n t ≡ Some (bytes_of f n t b)
unfolding segment
segment_there f n t b = rw (range_there f n t b.first b.count b.first_is b.count_is, le-ltb (length f) (b.first + b.count) b.inside) refl

-- ---- its bytes unpacked

compression_there : (f : List ℕ) (n : ℕ) (l : IsLaidLevel f n) → l.laid.draft.compression ≡ Plain → level_value f n COMPRESSION 0 ≡ Some COMPRESSION_NONE
unfolding level_value
compression_there f n l plain = rw l.there (plain_number (value f l.directory COMPRESSION 0) (l.laid.drafted.compression ∙ ap Some plain))

size_there : (f : List ℕ) (n : ℕ) (l : IsLaidLevel f n) → (level_directory f n >>= plain_size_at f) ≡ Some (plain_size (layout_of_level f n l))
unfolding plain_size_at
size_there f n l = rw l.there (rw (l.laid.drafted.tile_width, l.laid.drafted.tile_length, l.laid.drafted.samples, l.laid.told) refl)

has_tile : (f : List ℕ) (q : Query) (t : ℕ) (a : IsAsked f q) (P : ℕ → ℕ → Type 0) → In t (window_tiles f q) → P a.asked.level t → HasTile f q P
has_tile f q t a P there holds =
    let (k, (less, is)) = among_in t (window_tiles f q) there in
    some_and_from (rectangle f q) (λ r. Any (P r.level) (window_tiles f q)) a.asked a.asked_is (k, t, less, sym is, holds)

-- a plain tile has as many bytes as it is long
plain_count : (f : List ℕ) (q : Query) (t : ℕ) (c : IsClear f q) (a : IsAsked f q) (b : HasBytes f a.asked.level t) → In t (window_tiles f q) → a.placed.level.laid.draft.compression ≡ Plain
    → b.count ≡ plain_size (layout_of_level f a.asked.level a.placed.level)
plain_count f q t c a b there plain =
    let n = a.asked.level in
    let size = plain_size (layout_of_level f n a.placed.level) in
    eqb-true b.count size (not_false (b.count == size) (λ other.
    let wrong : IsNotPlainSize f n b.count = (compression_there f n a.placed.level plain, some_and_from (level_directory f n >>= plain_size_at f) (λ s. (b.count == s) ≡ false) size (size_there f n a.placed.level) other) in
    c.own TileSize (has_tile f q t a (λ n t. IsSomeAnd (level_value f n TILE_BYTE_COUNTS t) (λ count. (is_byte_count count ≡ false) ⊎ IsNotPlainSize f n count)) there
    (some_and_from (level_value f n TILE_BYTE_COUNTS t) (λ count. (is_byte_count count ≡ false) ⊎ IsNotPlainSize f n count) b.count b.count_is (inr wrong)))))

-- a tile unpacked
record IsPlainOf (f : List ℕ) (n t : ℕ) (l : Layout) (bytes plain : List ℕ) : Type 0 where
  size : length plain ≡ plain_size l
  unpacked : IsUnpacked l bytes plain

bytes_len : (f : List ℕ) (n t : ℕ) (b : HasBytes f n t) → length (bytes_of f n t b) ≡ b.count
bytes_len f n t b = omega (arith, length-take (b.first + b.count - b.first) (drop b.first f), length-drop b.first f, b.inside)

plain_there : (f : List ℕ) (q : Query) (t : ℕ) (c : IsClear f q) (a : IsAsked f q) (b : HasBytes f a.asked.level t) → In t (window_tiles f q)
    → ((plain : List ℕ) → IsPlainOf f a.asked.level t (layout_of_level f a.asked.level a.placed.level) (bytes_of f a.asked.level t b) plain → ⊥) → ⊥
plain_there f q t c a b there none = at a.placed.level.laid.draft.compression refl where
  n : ℕ
  n = a.asked.level

  l : Layout
  l = layout_of_level f n a.placed.level

  bytes : List ℕ
  bytes = bytes_of f n t b

  at : (compression : Compression) → a.placed.level.laid.draft.compression ≡ compression → ⊥
  at Plain is = none bytes (record {
    size = bytes_len f n t b ∙ plain_count f q t c a b there is;
    unpacked = subst (λ (how : Compression). IsUnpackedBy how (plain_row l) (plain_size l) bytes bytes) (sym is) refl;
  })
  at (Packed codec) is =
      let wrong : (plain : List ℕ) → IsUnpacked l bytes plain → ⊥ = λ plain unpacked. none plain (record {
        size = (subst (λ (how : Compression). IsUnpackedBy how (plain_row l) (plain_size l) bytes plain) is unpacked).0;
        unpacked = unpacked;
      }) in
      let bad = some_and_from (segment f n t) (λ bytes. (plain : List ℕ) → IsUnpacked l bytes plain → ⊥) bytes (segment_there f n t b) wrong in
      c.own Packet (has_tile f q t a (λ n t. IsSomeAnd (level_layout f n) (λ l. IsSomeAnd (segment f n t) (λ bytes. (plain : List ℕ) → IsUnpacked l bytes plain → ⊥))) there
      (some_and_from (level_layout f n) (λ l. IsSomeAnd (segment f n t) (λ bytes. (plain : List ℕ) → IsUnpacked l bytes plain → ⊥)) l (layout_there f n a.placed.level) bad))

-- ---- its samples

place_inside : (x y width long samples c : ℕ) → 0 < width → 0 < long → c < samples → ((y % long) * width + x % width) * samples + c < width * long * samples
place_inside x y width long samples c wide tall less =
    let pixel = mul-add-lt (y % long) width (x % width) long (mod_below y long tall) (mod_below x width wide) in
    omega (arith, mul-add-lt ((y % long) * width + x % width) samples c (width * long) pixel less)

sample_there : (o : Order) (l : Layout) (plain : List ℕ) (x y c : ℕ) → 0 < l.grid.tile_width → 0 < l.grid.tile_length → c < l.samples → length plain ≡ plain_size l → (v : ℕ) × (sample_in o l.bits plain (place_in_tile l x y c) ≡ Some v)
unfolding sample_in
sample_there o l plain x y c wide tall less size =
    let p = place_in_tile l x y c in
    let s = sample_bytes l.bits in
    let inside = place_inside x y l.grid.tile_width l.grid.tile_length l.samples c wide tall less in
    let fits : p * s + s ≤ length plain = omega (arith, size, row_fits p s (l.grid.tile_width * l.grid.tile_length * l.samples) s inside (omega arith)) in
    (number_in o (p * s) s plain, rw (le-leb (p * s + s) (length plain) fits) refl)

-- each sample of the rectangle is there
samples_there : (f : List ℕ) (q : Query) (i j c : ℕ) (clear : IsClear f q) (a : IsAsked f q) → i < a.asked.width → j < a.asked.height → c < a.placed.level.laid.draft.samples
    → ((v : ℕ) → IsSample f a.asked.level (a.asked.left + i) (a.asked.top + j) c v → ⊥) → ⊥
samples_there f q i j c clear a left top less none =
    let n = a.asked.level in
    let l = layout_of_level f n a.placed.level in
    let laid = a.placed.level.laid in
    let (o, order) = named f clear.directories in
    let tiles = and_parts _ _ laid.tiles in
    let wide : 0 < l.grid.tile_width = ltb-true 0 l.grid.tile_width (and_parts _ _ tiles.0).0 in
    let tall : 0 < l.grid.tile_length = ltb-true 0 l.grid.tile_length (and_parts _ _ (and_parts _ _ tiles.1).0).0 in
    let pixel : IsPixelOf l.grid (a.asked.left + i) (a.asked.top + j) = record { wide = wide; long = tall; column = a.placed.columns i left; row = a.placed.rows j top } in
    let t = tile_at l.grid (a.asked.left + i) (a.asked.top + j) in
    let within = tile_inside l.grid (a.asked.left + i) (a.asked.top + j) pixel in
    let among : In t (window_tiles f q) = subst (λ (ts : List ℕ). In t ts) (sym (tiles_are f q clear a))
    (pixel_tile l.grid a.asked (a.asked.left + i) (a.asked.top + j) pixel (omega arith) (omega (arith, left)) (omega arith) (omega (arith, top))) in
    let b = tile_there f q t clear a within among in
    plain_there f q t clear a b among (λ plain is.
    let (v, value) = sample_there o l plain (a.asked.left + i) (a.asked.top + j) c wide tall less is.size in
    none v (sample_from f n (a.asked.left + i) (a.asked.top + j) c v o l (bytes_of f n t b) plain order (layout_there f n a.placed.level) (segment_there f n t b) is.unpacked value))

-- ---- all of them

-- where each place of a list of n has a number, there is a list
choose : (n : ℕ) (P : ℕ → ℕ → Type 0) → ((k : ℕ) → k < n → ((v : ℕ) → P k v → ⊥) → ⊥) → ((vs : List ℕ) → length vs ≡ n → ((k : ℕ) → k < n → P k (slice_index vs k)) → ⊥) → ⊥
choose zero P each none = none [] refl (λ k less. absurd (omega (arith, less)))
choose (suc n) P each none =
    each 0 (omega arith) (λ v first.
    choose n (λ k w. P (suc k) w) (λ k less. each (suc k) (omega (arith, less))) (λ vs size rest.
    none (v ∷ vs) (omega (arith, size)) (at v vs first rest))) where
      at : (v : ℕ) (vs : List ℕ) → P 0 v → ((k : ℕ) → k < n → P (suc k) (slice_index vs k)) → (k : ℕ) → k < suc n → P k (slice_index (v ∷ vs) k)
      at v vs first rest zero less = first
      at v vs first rest (suc k) less = rest k (omega (arith, less))

-- the column, row and sample of a place of a window
abbrev IsSampleAt : List ℕ → Rectangle → ℕ → ℕ → ℕ → Type 0
IsSampleAt f r samples k v = IsSample f r.level (r.left + (k / samples) % r.width) (r.top + (k / samples) / r.width) (k % samples) v

sample_at : (f : List ℕ) (r : Rectangle) (samples i j c v : ℕ) → i < r.width → c < samples → IsSampleAt f r samples ((j * r.width + i) * samples + c) v → IsSample f r.level (r.left + i) (r.top + j) c v
sample_at f r samples i j c v left less is =
    let m = j * r.width + i in
    let pixel : (m * samples + c) / samples ≡ m = div-mul-add m samples c less in
    let sample : (m * samples + c) % samples ≡ c = mod-mul-add m samples c less in
    let column : (m * samples + c) / samples % r.width ≡ i = ap (λ (p : ℕ). p % r.width) pixel ∙ mod-mul-add j r.width i left in
    let row : (m * samples + c) / samples / r.width ≡ j = ap (λ (p : ℕ). p / r.width) pixel ∙ div-mul-add j r.width i left in
    subst (λ (s : ℕ). IsSample f r.level (r.left + i) (r.top + j) s v) sample
    (subst (λ (y : ℕ). IsSample f r.level (r.left + i) (r.top + y) ((m * samples + c) % samples) v) row
    (subst (λ (x : ℕ). IsSample f r.level (r.left + x) (r.top + (m * samples + c) / samples / r.width) ((m * samples + c) % samples) v) column is))

-- the pixel of a place is in the rectangle
place_of_window : (width height samples k : ℕ) → 0 < samples → k < width * height * samples → ((k / samples) % width < width) × ((k / samples) / width < height) × (k % samples < samples)
place_of_window zero height samples k some less = absurd (omega (arith, less))
place_of_window (suc w) height samples k some less =
    let pixel : k / samples < suc w * height = div_below k samples (suc w * height) some less in
    (mod_below (k / samples) (suc w) (omega arith), div_below (k / samples) (suc w) height (omega arith) (omega (arith, pixel)), mod_below k samples some)

some_samples : (n : ℕ) → accepts SAMPLES_PER_PIXEL n ≡ true → 0 < n
some_samples zero bad = absurd (false≢true bad)
some_samples (suc n) good = omega arith

window_there : (f : List ℕ) (q : Query) (sound : (fault : FileFault) → IsFaulty f q fault → ⊥) (c : IsClear f q) (a : IsAsked f q) → ((v : List ℕ) → IsWindow f q v → ⊥) → ⊥
window_there f q sound c a none =
    let r = a.asked in
    let l = layout_of_level f r.level a.placed.level in
    let some = some_samples l.samples a.placed.level.laid.samples in
    choose (r.width * r.height * l.samples) (IsSampleAt f r l.samples)
    (λ k less. let at = place_of_window r.width r.height l.samples k some less in samples_there f q ((k / l.samples) % r.width) ((k / l.samples) / r.width) (k % l.samples) c a at.0 at.1 at.2)
    (λ v size each. none v (
      sound,
      some_and_from (rectangle f q) (λ r. HasSamples f r v) r a.asked_is (record {
        layout = l;
        layout_is = layout_there f r.level a.placed.level;
        size = size;
        each = λ i j s left top less. sample_at f r l.samples i j s (slice_index v ((j * r.width + i) * l.samples + s)) left less
            (each ((j * r.width + i) * l.samples + s) (omega (arith, mul-add-lt (j * r.width + i) l.samples s (r.width * r.height) (mul-add-lt j r.width i r.height top left) less)));
      }),
    ))

pub law_some_window : (f : List ℕ) (x y w h : ℕ) (p : Pick) → ((fault : FileFault) → IsFaulty f (Window x y w h p) fault → ⊥) → ((v : List ℕ) → IsWindow f (Window x y w h p) v → ⊥) → ⊥
law_some_window f x y w h p sound none =
    let c = clear f x y w h p sound in
    window_there f (Window x y w h p) sound c (asked f x y w h p c.directories (not_outside f (Window x y w h p) c)) none
