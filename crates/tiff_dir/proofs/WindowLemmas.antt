-- A file has one window for a query.
use Rattle.std.proofs.Common.{◌≡◌, ℕ, zero, suc, ◌+◌, ◌*◌, ◌/◌, ◌%◌, ◌<◌, List, length, Option, Some, None, refl, sym, ap, subst, ◌∙◌, arith}
use Rattle.std.specs.Prelude.{slice_index, IsSomeAnd}
use Rattle.std.proofs.Math.Nat.{div-lt_iff_lt-mul}
use Rattle.std.proofs.lemmas.Option.{same_Some}
use Rattle.std.proofs.lemmas.Grind.{same_number_lists}
use Rattle.tiff_dir.specs.declared.order.Order.{Order}
use Rattle.tiff_dir.specs.declared.level.Compression.{Compression}
use Rattle.tiff_dir.specs.declared.level.Compression.TheVariants.{Plain, Packed}
use Rattle.tiff_dir.specs.declared.level.Codec.{Codec}
use Rattle.tiff_dir.specs.declared.level.Codec.TheVariants.{PackBits}
use Rattle.tiff_dir.specs.declared.query.Query.{Query}
use Rattle.tiff_dir.specs.File.{order_of}
use Rattle.tiff_dir.specs.Level.{Layout, level_layout, plain_row, plain_size}
use Rattle.tiff_dir.specs.Query.{Rectangle, rectangle, segment}
use Rattle.tiff_dir.specs.Window.{PacksBy, IsUnpackedBy, IsUnpacked, tile_at, place_in_tile, sample_in, IsSample, HasSamples}
use Rattle.tiff_dir.specs.Faulty.{IsWindow}
use Rattle.tiff_dir.proofs.Chain.{some_and_at}
use Rattle.tiff_dir.proofs.PacketLemmas.{packs_once}

packs_by_once : (codec : Codec) (row : ℕ) (bytes out out' : List ℕ) → PacksBy codec row bytes out → PacksBy codec row bytes out' → out ≡ out'
packs_by_once PackBits row bytes out out' p q = packs_once row bytes out out' p q

unpacked_once : (c : Compression) (row size : ℕ) (bytes out out' : List ℕ) → IsUnpackedBy c row size bytes out → IsUnpackedBy c row size bytes out' → out ≡ out'
unpacked_once Plain row size bytes out out' p q = p ∙ sym q
unpacked_once (Packed codec) row size bytes out out' p q = packs_by_once codec row bytes out out' p.1 q.1

-- a sample, where its layout is known
record IsSampleIn (f : List ℕ) (n : ℕ) (l : Layout) (x y c v : ℕ) : Type 0 where
  order : Order
  order_is : order_of f ≡ Some order
  bytes : List ℕ
  bytes_are : segment f n (tile_at l.grid x y) ≡ Some bytes
  plain : List ℕ
  unpacked : IsUnpacked l bytes plain
  value : sample_in order l.bits plain (place_in_tile l x y c) ≡ Some v

opened : {A : Type 0} (o : Option A) (P : A → Type 0) → IsSomeAnd o P → (x : A) × (o ≡ Some x) × P x
opened None P some = absurd some
opened (Some x) P some = (x, refl, some)

abbrev IsFound : (x y c v : ℕ) → Order → Layout → List ℕ → Type 0
IsFound x y c v o l bytes = (plain : List ℕ) × IsUnpacked l bytes plain × (sample_in o l.bits plain (place_in_tile l x y c) ≡ Some v)

abbrev IsLaidOut : (f : List ℕ) (n x y c v : ℕ) → Order → Layout → Type 0
IsLaidOut f n x y c v o l = IsSomeAnd (segment f n (tile_at l.grid x y)) (IsFound x y c v o l)

layout_of_sample : (f : List ℕ) (n x y c v : ℕ) → IsSample f n x y c v → (l : Layout) × (level_layout f n ≡ Some l)
unfolding IsSample
layout_of_sample f n x y c v s =
    let (o, named, there) = opened (order_of f) (λ o. IsSomeAnd (level_layout f n) (IsLaidOut f n x y c v o)) s in
    let (l, laid, rest) = opened (level_layout f n) (IsLaidOut f n x y c v o) there in
    (l, laid)

in_layout : (f : List ℕ) (n x y c v : ℕ) (l : Layout) → level_layout f n ≡ Some l → IsSample f n x y c v → IsSampleIn f n l x y c v
unfolding IsSample
in_layout f n x y c v l is s =
    let (o, named, there) = opened (order_of f) (λ o. IsSomeAnd (level_layout f n) (IsLaidOut f n x y c v o)) s in
    let (bytes, are, found) = opened (segment f n (tile_at l.grid x y)) (IsFound x y c v o l) (some_and_at (level_layout f n) (IsLaidOut f n x y c v o) l is there) in
    record { order = o; order_is = named; bytes = bytes; bytes_are = are; plain = found.0; unpacked = found.1; value = found.2 }

pub sample_from : (f : List ℕ) (n x y c v : ℕ) (o : Order) (l : Layout) (bytes plain : List ℕ) → order_of f ≡ Some o → level_layout f n ≡ Some l → segment f n (tile_at l.grid x y) ≡ Some bytes
    → IsUnpacked l bytes plain → sample_in o l.bits plain (place_in_tile l x y c) ≡ Some v → IsSample f n x y c v
unfolding IsSample
sample_from f n x y c v o l bytes plain named laid are unpacked value = rw named (rw laid (rw are (plain, unpacked, value)))

pub sample_once : (f : List ℕ) (n x y c v w : ℕ) → IsSample f n x y c v → IsSample f n x y c w → v ≡ w
sample_once f n x y c v w s t =
    let (l, laid) = layout_of_sample f n x y c v s in
    let a = in_layout f n x y c v l laid s in
    let b = in_layout f n x y c w l laid t in
    let same : b.bytes ≡ a.bytes = same_Some _ _ (sym b.bytes_are ∙ a.bytes_are) in
    let order : a.order ≡ b.order = same_Some _ _ (sym a.order_is ∙ b.order_is) in
    let moved : IsUnpacked l a.bytes b.plain = subst (λ (bytes : List ℕ). IsUnpacked l bytes b.plain) same b.unpacked in
    let plain : a.plain ≡ b.plain = unpacked_once l.compression (plain_row l) (plain_size l) a.bytes a.plain b.plain a.unpacked moved in
    same_Some _ _ (sym a.value ∙ ap (λ (p : List ℕ). sample_in a.order l.bits p (place_in_tile l x y c)) plain
    ∙ ap (λ (o : Order). sample_in o l.bits b.plain (place_in_tile l x y c)) order ∙ b.value)

-- a place of the window is a sample of a pixel
record IsPixel (w h s k : ℕ) : Type 0 where
  i : ℕ
  j : ℕ
  c : ℕ
  left : i < w
  top : j < h
  sample : c < s
  place : (j * w + i) * s + c ≡ k

pixel : (w h s k : ℕ) → k < w * h * s → IsPixel w h s k
pixel w h zero k inside = absurd (omega arith)
pixel zero h (suc s) k inside = absurd (omega arith)
pixel (suc w) h (suc s) k inside =
    let m = k / suc s in
    let row : m < suc w * h = (div-lt_iff_lt-mul {k = suc s} {x = k} {y = suc w * h} (omega arith)).1 inside in
    let there : m < h * suc w = omega arith in
    let top : m / suc w < h = (div-lt_iff_lt-mul {k = suc w} {x = m} {y = h} (omega arith)).1 there in
    let rows : m / suc w * suc w + m % suc w ≡ m = omega arith in
    let samples : m * suc s + k % suc s ≡ k = omega arith in
    record {
      i = m % suc w;
      j = m / suc w;
      c = k % suc s;
      left = omega arith;
      top = top;
      sample = omega arith;
      place = ap (λ (n : ℕ). n * suc s + k % suc s) rows ∙ samples;
    }

-- the samples of a rectangle, where its layout is known
record HasSamplesIn (f : List ℕ) (r : Rectangle) (l : Layout) (v : List ℕ) : Type 0 where
  size : length v ≡ r.width * r.height * l.samples
  each : (i j c : ℕ) → i < r.width → j < r.height → c < l.samples
      → IsSample f r.level (r.left + i) (r.top + j) c (slice_index v ((j * r.width + i) * l.samples + c))

samples_once : (f : List ℕ) (r : Rectangle) (v u : List ℕ) → HasSamples f r v → HasSamples f r u → v ≡ u
samples_once f r v u a b =
    let same : b.layout ≡ a.layout = same_Some _ _ (sym b.layout_is ∙ a.layout_is) in
    let P : Layout → Type 0 = λ l. HasSamplesIn f r l u in
    let other : HasSamplesIn f r a.layout u = subst P same (record { size = b.size; each = b.each }) in
    same_number_lists v u (a.size ∙ sym other.size) (λ k inside.
    let p = pixel r.width r.height a.layout.samples k (omega (arith, a.size)) in
    let place = (p.j * r.width + p.i) * a.layout.samples + p.c in
    sym (ap (slice_index v) p.place)
    ∙ sample_once f r.level (r.left + p.i) (r.top + p.j) p.c (slice_index v place) (slice_index u place) (a.each p.i p.j p.c p.left p.top p.sample) (other.each p.i p.j p.c p.left p.top p.sample)
    ∙ ap (slice_index u) p.place)

pub window_once : (f : List ℕ) (q : Query) (v u : List ℕ) → IsWindow f q v → IsWindow f q u → v ≡ u
window_once f q v u a b =
    let (r, asked, samples) = opened (rectangle f q) (λ r. HasSamples f r v) a.1 in
    samples_once f r v u samples (some_and_at (rectangle f q) (λ r. HasSamples f r u) r asked b.1)
