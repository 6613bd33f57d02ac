-- A file has one sample at a place.
use Rattle.std.proofs.Common.{◌≡◌, ℕ, Bool, true, false, List, length, Option, Some, None, IfSome, IfNone, IsSomeAnd, MatchOption, if◌then◌else◌, refl, sym, ap, subst, ◌∙◌}
use Rattle.tiff_dir.specs.declared.order.Order.{Order}
use Rattle.tiff_dir.specs.declared.level.Compression.{Compression}
use Rattle.tiff_dir.specs.declared.level.Compression.TheVariants.{Plain, Packed}
use Rattle.tiff_dir.specs.declared.level.Codec.{Codec}
use Rattle.tiff_dir.specs.declared.level.Codec.TheVariants.{PackBits}
use Rattle.tiff_dir.specs.File.{◌>>=◌, order_of}
use Rattle.tiff_dir.specs.Level.{Layout, level_layout, plain_row, plain_size}
use Rattle.tiff_dir.specs.Query.{segment}
use Rattle.tiff_dir.specs.Packets.{Packs}
use Rattle.tiff_dir.specs.Window.{IsSample, IsUnpacked, IsUnpackedBy, place_in_tile, sample_in, tile_at}
use Rattle.reference_support.specs.Missing.{HasNoSample, IsNotUnpacked}
use Rattle.reference_support.specs.Modest.{is_modest, modest_level, when_modest}
use Rattle.reference_support.specs.Tile.{HasNoTile, IsTile}
use Rattle.std.specs.Global.{Vec}

-- packed bytes stand for one text at most
abbrev pub IsPackedOnce : Type 0
IsPackedOnce = (row : ℕ) (bytes out other : List ℕ) → Packs row bytes out → Packs row bytes other → out ≡ other

-- a packed segment is no tile where no text of the tile's size is packed in it
pub no_tile : (l : Layout) (bytes : List ℕ) (codec : Codec) → l.compression ≡ Packed codec
    → ((plain : List ℕ) → length plain ≡ plain_size l → Packs (plain_row l) bytes plain → ⊥) → IsNotUnpacked l bytes
no_tile l bytes PackBits packed none plain unpacked =
    let parts = subst (λ k. IsUnpackedBy k (plain_row l) (plain_size l) bytes plain) packed unpacked in
    none plain parts.0 parts.1

unpacked_by_once : (once : IsPackedOnce) (k : Compression) (row size : ℕ) (bytes out other : List ℕ) → IsUnpackedBy k row size bytes out → IsUnpackedBy k row size bytes other → out ≡ other
unpacked_by_once once Plain row size bytes out other one two = one ∙ sym two
unpacked_by_once once (Packed PackBits) row size bytes out other one two = once row bytes out other one.1 two.1

when_same : (b : Bool) (l m : Layout) → (if b then Some m else None) ≡ Some l → m ≡ l
when_same true l m e = cc
when_same false l m e = cc

-- a modest level is the level
pub modest_same : (f : List ℕ) (n : ℕ) (l m : Layout) → modest_level f n ≡ Some l → level_layout f n ≡ Some m → m ≡ l
modest_same f n l m modest level = when_same (is_modest m) l m (sym (ap (λ o. o >>= when_modest) level) ∙ modest)

-- a tile has one text
tile_once : (once : IsPackedOnce) (f : List ℕ) (n : ℕ) (l : Layout) (t : ℕ) (out other : List ℕ) → IsTile f n l t out → IsTile f n l t other → out ≡ other
tile_once once f n l t out other one two =
    let same : one.0 ≡ two.0 = let first = one.1 in let second = two.1 in cc in
    let again : IsUnpacked l two.0 out = subst (λ b. IsUnpacked l b out) same one.2 in
    unpacked_by_once once l.compression (plain_row l) (plain_size l) two.0 out other again two.2

-- a sample with what it stands in
record IsFound (f : List ℕ) (n x y c v : ℕ) : Type 0 where
  order : Order
  order_is : order_of f ≡ Some order
  layout : Layout
  layout_is : level_layout f n ≡ Some layout
  bytes : List ℕ
  bytes_are : segment f n (tile_at layout.grid x y) ≡ Some bytes
  plain : List ℕ
  unpacked : IsUnpacked layout bytes plain
  value : sample_in order layout.bits plain (place_in_tile layout x y c) ≡ Some v

opened : {A : Type 0} (o : Option A) (P : A → Type 0) → IsSomeAnd o P → (x : A) × (o ≡ Some x) × P x
opened None P some = absurd some
opened (Some x) P some = (x, refl, some)

abbrev IsUnder : (x y c v : ℕ) → Order → Layout → List ℕ → Type 0
IsUnder x y c v o l bytes = (plain : List ℕ) × IsUnpacked l bytes plain × (sample_in o l.bits plain (place_in_tile l x y c) ≡ Some v)

abbrev IsLaidOut : (f : List ℕ) (n x y c v : ℕ) → Order → Layout → Type 0
IsLaidOut f n x y c v o l = IsSomeAnd (segment f n (tile_at l.grid x y)) (IsUnder x y c v o l)

found_from : (f : List ℕ) (n x y c v : ℕ) → IsSample f n x y c v → IsFound f n x y c v
unfolding IsSample
found_from f n x y c v s =
    let (o, named, there) = opened (order_of f) (λ o. IsSomeAnd (level_layout f n) (IsLaidOut f n x y c v o)) s in
    let (l, laid, rest) = opened (level_layout f n) (IsLaidOut f n x y c v o) there in
    let (bytes, are, found) = opened (segment f n (tile_at l.grid x y)) (IsUnder x y c v o l) rest in
    record { order = o; order_is = named; layout = l; layout_is = laid; bytes = bytes; bytes_are = are; plain = found.0; unpacked = found.1; value = found.2 }

sample_from : (f : List ℕ) (n x y c v : ℕ) (o : Order) (l : Layout) (bytes plain : List ℕ) → order_of f ≡ Some o → level_layout f n ≡ Some l → segment f n (tile_at l.grid x y) ≡ Some bytes
    → IsUnpacked l bytes plain → sample_in o l.bits plain (place_in_tile l x y c) ≡ Some v → IsSample f n x y c v
unfolding IsSample
sample_from f n x y c v o l bytes plain named laid are unpacked value = rw named (rw laid (rw are (plain, unpacked, value)))

-- the tile of a sample of a modest level
sample_tile : (f : List ℕ) (n x y c v : ℕ) (l : Layout) (s : IsFound f n x y c v) → modest_level f n ≡ Some l → IsTile f n l (tile_at l.grid x y) s.plain
sample_tile f n x y c v l s modest =
    let level : s.layout ≡ l = modest_same f n l s.layout modest s.layout_is in
    subst (λ (m : Layout). IsTile f n m (tile_at m.grid x y) s.plain) level (s.bytes, s.bytes_are, s.unpacked)

-- it stands in the tile that was unpacked
sample_stands : (once : IsPackedOnce) (f : List ℕ) (o : Order) (n x y c v : ℕ) (l : Layout) (plain : List ℕ) → order_of f ≡ Some o → modest_level f n ≡ Some l
    → IsTile f n l (tile_at l.grid x y) plain → IsSample f n x y c v → sample_in o l.bits plain (place_in_tile l x y c) ≡ Some v
sample_stands once f o n x y c v l plain named modest tile stands =
    let sample = found_from f n x y c v stands in
    let level : sample.layout ≡ l = modest_same f n l sample.layout modest sample.layout_is in
    let order : sample.order ≡ o = let is = sample.order_is in cc in
    let same : sample.plain ≡ plain =
    tile_once once f n l (tile_at l.grid x y) sample.plain plain (sample_tile f n x y c v l sample modest) tile in
    let at : sample_in sample.order l.bits sample.plain (place_in_tile l x y c) ≡ Some v = subst (λ (m : Layout). sample_in sample.order m.bits sample.plain (place_in_tile m x y c) ≡ Some v) level sample.value in
    subst (λ k. sample_in k l.bits plain (place_in_tile l x y c) ≡ Some v) order (subst (λ p. sample_in sample.order l.bits p (place_in_tile l x y c) ≡ Some v) same at)

-- so there is none where the tile has none there
pub no_sample : (once : IsPackedOnce) (f : List ℕ) (o : Order) (n x y c : ℕ) (l : Layout) (plain : List ℕ) (found : Option ℕ) → order_of f ≡ Some o → modest_level f n ≡ Some l
    → IsTile f n l (tile_at l.grid x y) plain → found ≡ sample_in o l.bits plain (place_in_tile l x y c) → IfNone found (HasNoSample f n x y c)
no_sample once f o n x y c l plain None named modest tile is = λ v sample.
    let some = sample_stands once f o n x y c v l plain named modest tile sample in cc
no_sample once f o n x y c l plain (Some v) named modest tile is = tt

-- and where there is no tile
pub no_tile_no_sample : (f : List ℕ) (n x y c : ℕ) (l : Layout) → modest_level f n ≡ Some l → HasNoTile f n l (tile_at l.grid x y) → HasNoSample f n x y c
no_tile_no_sample f n x y c l modest none v stands = let sample = found_from f n x y c v stands in none sample.plain (sample_tile f n x y c v l sample modest)

pub no_segment : (f : List ℕ) (n : ℕ) (l : Layout) (t : ℕ) → segment f n t ≡ None → HasNoTile f n l t
no_segment f n l t none plain tile = let is = tile.1 in cc

-- what the segment's bytes are unpacked to is the tile
pub tile_of_segment : (f : List ℕ) (n : ℕ) (l : Layout) (t : ℕ) (bytes : List ℕ) (o : Option (Vec ℕ)) → segment f n t ≡ Some bytes
    → IfSome o (λ plain. IsUnpacked l bytes plain.items) → IfNone o (IsNotUnpacked l bytes) → MatchOption o (HasNoTile f n l t) (λ plain. IsTile f n l t plain.items)
tile_of_segment f n l t bytes (Some plain) is unpacked none = (bytes, is, unpacked)
tile_of_segment f n l t bytes None is unpacked none = λ plain tile.
    let same : tile.0 ≡ bytes = let there = tile.1 in cc in
    none plain (subst (λ b. IsUnpacked l b plain) same tile.2)

pub no_order : (f : List ℕ) (n x y c : ℕ) → order_of f ≡ None → HasNoSample f n x y c
no_order f n x y c none v stands = let named = (found_from f n x y c v stands).order_is in cc

pub layout_same : (f : List ℕ) (n : ℕ) (l : Layout) → modest_level f n ≡ Some l → level_layout f n ≡ Some l
layout_same f n l modest = at (level_layout f n) modest where
  kept : (b : Bool) (m : Layout) → (if b then Some m else None) ≡ Some l → Some m ≡ Some l
  kept true m e = e
  kept false m e = absurd (cc)

  at : (o : Option Layout) → (o >>= when_modest) ≡ Some l → o ≡ Some l
  at None e = absurd (cc)
  at (Some m) e = kept (is_modest m) m e

pub some_sample : (f : List ℕ) (o : Order) (n x y c : ℕ) (l : Layout) (plain : List ℕ) (found : Option ℕ) → order_of f ≡ Some o → modest_level f n ≡ Some l
    → IsTile f n l (tile_at l.grid x y) plain → found ≡ sample_in o l.bits plain (place_in_tile l x y c) → IfSome found (λ v. IsSample f n x y c v)
some_sample f o n x y c l plain None named modest tile is = tt
some_sample f o n x y c l plain (Some v) named modest tile is = sample_from f n x y c v o l tile.0 plain named (layout_same f n l modest) tile.1 tile.2 (sym is)
