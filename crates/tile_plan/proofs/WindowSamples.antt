-- A picture on which all tiles are is the window.
use Rattle.std.proofs.Common.{◌≡◌, ℕ, ◌+◌, ◌*◌, ◌/◌, ◌%◌, ◌<◌, ◌≤◌, inl, inr, List, length, get_or, Some, refl, sym, subst, ap, ◌∙◌, arith}
use Rattle.std.specs.Prelude.{◌==◌, nat_lt}
use Rattle.std.specs.List.{All, IsAmong}
use Rattle.tile_plan.specs.Plan.{tiles_of}
use Rattle.std.proofs.Math.Nat.{mul-le-mul_right}
use Rattle.std.proofs.lemmas.Bool.{le-leb, ltb-true, and_parts}
use Rattle.std.proofs.lemmas.Nat.{div-mul-add, mul-add-lt, mod_below}
use Rattle.std.proofs.lemmas.List.{take_all}
use Rattle.std.proofs.lemmas.List.FromFn.{length-map-range_with_len, get_or-map-range_with_len}
use Rattle.tiff_dir.specs.declared.level.Level.{Level}
use Rattle.tiff_dir.specs.declared.order.Order.{Order}
use Rattle.tiff_dir.specs.declared.query.Query.{Query}
use Rattle.tiff_dir.specs.File.{order_of}
use Rattle.tiff_dir.specs.Number.{number_in}
use Rattle.tiff_dir.specs.Profile.{sample_bytes}
use Rattle.tiff_dir.specs.Level.{Layout, level_layout, plain_size}
use Rattle.tiff_dir.specs.Query.{segment}
use Rattle.tiff_dir.specs.Described.{grid_of, layout_of}
use Rattle.tiff_dir.specs.Window.{HasSamples, IsSample, IsUnpacked, sample_in, place_in_tile, tile_at}
use Rattle.tile_plan.specs.Levels.{rectangle_of}
use Rattle.tile_plan.specs.Covered.{TilesCover}
use Rattle.tile_plan.specs.Canvas.{Picture, picture_size}
use Rattle.tile_plan.specs.declared.arrays.Arrays.{Arrays}
use Rattle.tile_plan.specs.WindowBuilder.{WindowState, tiles_of_groups, IsPainted, IsUnderway}
use Rattle.tile_plan.specs.Samples.{sample_at, samples_in}
use Rattle.tile_plan.proofs.SampleLemmas.{same_number, depth}

-- byte b of sample c of a pixel
byte_of : (m samples size c b : ℕ) → m * (samples * size) + (c * size + b) ≡ (m * samples + c) * size + b
byte_of m samples size c b = omega arith

sample_end : (m samples size c total : ℕ) → m < total → c < samples → (m * samples + c) * size + size ≤ total * samples * size
sample_end m samples size c total less channel =
    let rows : (m + 1) * samples ≤ total * samples = mul-le-mul_right samples (omega (arith, less)) in
    let here : m * samples + c + 1 ≤ total * samples = omega (arith, rows, channel) in
    omega (arith, mul-le-mul_right size here)

sample_below : (m samples c total : ℕ) → m < total → c < samples → m * samples + c < total * samples
sample_below m samples c total less channel =
    let rows : (m + 1) * samples ≤ total * samples = mul-le-mul_right samples (omega (arith, less)) in
    omega (arith, rows, channel)

byte_below : (samples size c b : ℕ) → c < samples → b < size → c * size + b < samples * size
byte_below samples size c b channel inside =
    let up : (c + 1) * size ≤ samples * size = mul-le-mul_right size (omega (arith, channel)) in
    omega (arith, up, inside)

-- the number of a sample on the picture is its number in its tile
value_is : (f : List ℕ) (n t i j c : ℕ) (order : Order) (p : Picture) → tile_at (grid_of p.level) (p.rectangle.x + i) (p.rectangle.y + j) ≡ t
    → i < p.rectangle.w → j < p.rectangle.h → c < p.level.samples → (is : IsPainted f n p t)
    → number_in order (((j * p.rectangle.w + i) * p.level.samples + c) * sample_bytes p.level.bits) (sample_bytes p.level.bits) p.bytes
    ≡ number_in order (place_in_tile (layout_of p.level) (p.rectangle.x + i) (p.rectangle.y + j) c * sample_bytes p.level.bits) (sample_bytes p.level.bits) is.plain
value_is f n t i j c order p here wide tall channel is =
    let l = p.level in
    let X = p.rectangle.x + i in
    let Y = p.rectangle.y + j in
    let size = sample_bytes l.bits in
    let m = j * p.rectangle.w + i in
    let k = (Y % l.tile_length) * l.tile_width + X % l.tile_width in
    same_number order size ((m * l.samples + c) * size) ((k * l.samples + c) * size) p.bytes is.plain
    (λ b inside.
    ap (λ s. get_or p.bytes s 0) (sym (byte_of m l.samples size c b)) ∙ is.pixels i j (c * size + b) wide tall (byte_below l.samples size c b channel inside) here
    ∙ ap (λ s. get_or is.plain s 0) (byte_of k l.samples size c b))

-- and it is there
there : (order : Order) (l : Level) (plain : List ℕ) (X Y c : ℕ) → length plain ≡ plain_size (layout_of l) → 0 < l.tile_width → 0 < l.tile_length → c < l.samples
    → sample_in order l.bits plain (place_in_tile (layout_of l) X Y c) ≡ Some (number_in order (place_in_tile (layout_of l) X Y c * sample_bytes l.bits) (sample_bytes l.bits) plain)
unfolding sample_in
there order l plain X Y c size wide tall channel =
    let k = (Y % l.tile_length) * l.tile_width + X % l.tile_width in
    let inside : k < l.tile_width * l.tile_length = mul-add-lt (Y % l.tile_length) l.tile_width (X % l.tile_width) l.tile_length (mod_below Y l.tile_length tall) (mod_below X l.tile_width wide) in
    let end = sample_end k l.samples (sample_bytes l.bits) c (l.tile_width * l.tile_length) inside channel in
    rw (le-leb (place_in_tile (layout_of l) X Y c * sample_bytes l.bits + sample_bytes l.bits) (length plain) (omega (arith, end, size))) refl

-- ---- the window

record Filled (f : List ℕ) (n : ℕ) (order : Order) (p : Picture) : Type 0 where
  order_is : order_of f ≡ Some order
  layout_is : level_layout f n ≡ Some (layout_of p.level)
  size : length p.bytes ≡ picture_size p.level p.rectangle
  painted : (i j : ℕ) → i < p.rectangle.w → j < p.rectangle.h → IsPainted f n p (tile_at (grid_of p.level) (p.rectangle.x + i) (p.rectangle.y + j))

some_size : (l : Level) → 0 < sample_bytes l.bits
some_size l = elim (depth l.bits l.depth) [
  | inl eight ↦ subst (λ b. 0 < b / 8) (sym eight) (omega arith)
  | inr sixteen ↦ subst (λ b. 0 < b / 8) (sym sixteen) (omega arith)
]

sample_from : (f : List ℕ) (n x y c v : ℕ) (o : Order) (l : Layout) (bytes plain : List ℕ) → order_of f ≡ Some o → level_layout f n ≡ Some l → segment f n (tile_at l.grid x y) ≡ Some bytes
    → IsUnpacked l bytes plain → sample_in o l.bits plain (place_in_tile l x y c) ≡ Some v → IsSample f n x y c v
unfolding IsSample
sample_from f n x y c v o l bytes plain named laid are unpacked value = rw named (rw laid (rw are (plain, unpacked, value)))

filled : (f : List ℕ) (n : ℕ) (order : Order) (p : Picture) (new : List ℕ) → Filled f n order p → n ≡ p.rectangle.level → length new ≡ length p.bytes
    → ((k : ℕ) → k * sample_bytes p.level.bits + sample_bytes p.level.bits ≤ length p.bytes
    → sample_at p.level.bits new k ≡ number_in order (k * sample_bytes p.level.bits) (sample_bytes p.level.bits) p.bytes)
    → HasSamples f (rectangle_of p.rectangle) (samples_in p.level.bits new)
filled f n order p new is level same turned =
    let l = p.level in
    let r = p.rectangle in
    let size = sample_bytes l.bits in
    let total : ℕ = r.w * r.h * l.samples in
    let bytes : length p.bytes ≡ total * size = is.size ∙ product r.w r.h l.samples size in
    let count : length new / size ≡ total = ap (λ k. k / size) (same ∙ bytes ∙ plus (total * size)) ∙ div-mul-add total size 0 (some_size l) in
    record {
      layout = layout_of l;
      layout_is = ap (level_layout f) (sym level) ∙ is.layout_is;
      size = length-map-range_with_len (sample_at l.bits new) 0 (length new / size) ∙ count;
      each = λ i j c wide tall channel. (
          let m = j * r.w + i in
          let k = m * l.samples + c in
          let inside : m < r.w * r.h = mul-add-lt j r.w i r.h tall wide in
          let below : k < length new / size = omega (arith, sample_below m l.samples c (r.w * r.h) inside channel, count) in
          let fits : k * size + size ≤ length p.bytes = omega (arith, sample_end m l.samples size c (r.w * r.h) inside channel, bytes) in
          let painted = is.painted i j wide tall in
          let value = get_or-map-range_with_len (sample_at l.bits new) 0 (length new / size) k k 0 below (omega arith) ∙ turned k fits
          ∙ value_is f n (tile_at (grid_of l) (r.x + i) (r.y + j)) i j c order p refl wide tall channel painted in
          sample_from f r.level (r.x + i) (r.y + j) c (get_or (samples_in l.bits new) k 0) order (layout_of l) painted.bytes painted.plain is.order_is (ap (level_layout f) (sym level) ∙ is.layout_is)
          (ap (λ n. segment f n (tile_at (grid_of l) (r.x + i) (r.y + j))) (sym level) ∙ painted.bytes_are) painted.unpacked
          (there order l painted.plain (r.x + i) (r.y + j) c painted.size (sides l).0 (sides l).1 channel ∙ ap Some (sym value))
          );
    } where
      product : (a b c d : ℕ) → a * b * (c * d) ≡ a * b * c * d
      product a b c d = omega arith

      plus : (n : ℕ) → n ≡ n + 0
      plus n = omega arith

      sides : (l : Level) → (0 < l.tile_width) × (0 < l.tile_length)
      sides l = (
        ltb-true 0 l.tile_width (and_parts (nat_lt 0 l.tile_width) (l.tile_width % 16 == 0) l.tile_sides.0).0,
        ltb-true 0 l.tile_length (and_parts (nat_lt 0 l.tile_length) (l.tile_length % 16 == 0) l.tile_sides.1).0,
      )

-- each tile of the window is on the picture
pub painted_all : (f : List ℕ) (q : Query) (a : Arrays) (w : WindowState) → IsUnderway f q a w → w.given ≡ length w.groups → (t : ℕ) → IsAmong (tiles_of a.level w.picture.rectangle) t
    → IsPainted f w.picture.rectangle.level w.picture t
painted_all f q a w u done t among =
    let all = subst (All (IsPainted f w.picture.rectangle.level w.picture)) (ap tiles_of_groups (take_all w.given w.groups (omega (arith, done))) ∙ u.are.tiles) u.painted in
    subst (IsPainted f w.picture.rectangle.level w.picture) (sym among.1.1) (all among.0 t among.1.0)

pub window_is : (f : List ℕ) (q : Query) (a : Arrays) (w : WindowState) (new : List ℕ) → TilesCover → IsUnderway f q a w → w.given ≡ length w.groups → length new ≡ length w.picture.bytes
    → ((k : ℕ) → k * sample_bytes a.level.bits + sample_bytes a.level.bits ≤ length w.picture.bytes
    → sample_at a.level.bits new k ≡ number_in a.order (k * sample_bytes a.level.bits) (sample_bytes a.level.bits) w.picture.bytes)
    → HasSamples f (rectangle_of w.picture.rectangle) (samples_in a.level.bits new)
window_is f q a w new cover u done same turned =
    let p = w.picture in
    let r = p.rectangle in
    let Turned : Level → Type 0 = λ l. (k : ℕ) → k * sample_bytes l.bits + sample_bytes l.bits ≤ length p.bytes → sample_at l.bits new k ≡ number_in a.order (k * sample_bytes l.bits) (sample_bytes l.bits) p.bytes in
    let is : Filled f r.level a.order p = record {
      order_is = u.planned.order_is;
      layout_is = subst (λ l. level_layout f r.level ≡ Some (layout_of l)) (sym u.level) u.planned.layout_is;
      size = subst (λ l. length p.bytes ≡ picture_size l r) (sym u.level) u.size;
      painted = λ i j wide tall. (
          let tile = tile_at (grid_of a.level) (r.x + i) (r.y + j) in
          let here = painted_all f q a w u done tile (cover a.level r i j u.small.inside wide tall) in
          subst (λ l. IsPainted f r.level p (tile_at (grid_of l) (r.x + i) (r.y + j))) (sym u.level) here
          );
    } in
    subst (λ l. HasSamples f (rectangle_of r) (samples_in l.bits new)) u.level (filled f r.level a.order p new is refl same (subst Turned (sym u.level) turned))
