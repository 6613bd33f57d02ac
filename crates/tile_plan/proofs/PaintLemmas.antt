-- Tiles on a picture.
use Rattle.std.proofs.Common.{◌≡◌, ◌≢◌, ℕ, ◌+◌, ◌-◌, ◌<◌, ◌≤◌, inl, inr, List, [], ◌∷◌, ◌++◌, length, take, drop, get_or, Some, refl, sym, subst, ap, ◌∙◌, arith, length-drop}
use Rattle.std.specs.Prelude.{Result, Ok, Err, IfErr, IsErrAnd}
use Rattle.std.specs.List.{All, slice_range}
use Rattle.std.proofs.lemmas.Bool.{cases_eq, le-ltb}
use Rattle.std.proofs.lemmas.List.{drop-take, drop-drop, take-take, drop_more, length-take-le}
use Rattle.std.proofs.lemmas.Grind.{get_or_default_zero}
use Rattle.std.proofs.lemmas.List.Elements.{All-push}
use Rattle.tiff_dir.specs.declared.level.Level.{Level}
use Rattle.tiff_dir.specs.declared.level.Compression.TheVariants.{Plain}
use Rattle.tiff_dir.specs.Described.{layout_of}
use Rattle.tiff_dir.specs.Level.{level_value, plain_row, plain_size}
use Rattle.tiff_dir.specs.Query.{segment, tile_range}
use Rattle.extents.specs.Extent.{Extent, bytes_in}
use Rattle.tiff_dir.specs.Window.{IsUnpackedBy}
use Rattle.tile_plan.specs.declared.asked.Rectangle.{Rectangle}
use Rattle.tile_plan.specs.Plan.{Adjoin}
use Rattle.tile_plan.specs.Canvas.{Picture, IsBlit, byte_at, place}
use Rattle.tile_plan.specs.declared.arrays.Arrays.{Arrays}
use Rattle.tile_plan.specs.WindowBuilder.{tile_extent, IsPainted}
use Rattle.tile_plan.specs.Paint.{IsPaint}

-- ---- the bytes of a tile in those of its group

pub adjoin_step : (range : ℕ → Extent) (at : ℕ) (ts : List ℕ) (i t end : ℕ) → Adjoin range at (drop i ts) end → i < length ts → t ≡ get_or ts i t
    → ((range t).first ≡ at) × Adjoin range (at + (range t).len) (drop (i + 1) ts) end
adjoin_step range at ts i t end adjoin less is =
    let here : drop i ts ≡ t ∷ drop (i + 1) ts = drop_more ts i t less ∙ ap (λ k. k ∷ drop (i + 1) ts) (sym is) in
    let next = subst (λ l. Adjoin range at l end) here adjoin in
    (next.0, next.1)

pub adjoin_within : (range : ℕ → Extent) (at : ℕ) (ts : List ℕ) (end : ℕ) → Adjoin range at ts end → at ≤ end
adjoin_within range at [] end is = omega (arith, is)
adjoin_within range at (t ∷ ts) end (first, rest) = (let more = adjoin_within range (at + (range t).len) ts end rest in omega (arith, more))

-- tile i of some tiles, which end within so many bytes
pub tile_step : (range : ℕ → Extent) (at : ℕ) (ts : List ℕ) (i end : ℕ) → Adjoin range at (drop i ts) end → i < length ts
    → ((range (get_or ts i 0)).first ≡ at) × Adjoin range (at + (range (get_or ts i 0)).len) (drop (i + 1) ts) end
tile_step range at ts i end adjoin less = adjoin_step range at ts i (get_or ts i 0) end adjoin less (sym (get_or_default_zero ts i (get_or ts i 0) less))

pub tile_end : (range : ℕ → Extent) (first at len : ℕ) (ts : List ℕ) (i : ℕ) → Adjoin range (first + at) (drop i ts) (first + len) → i < length ts → at + (range (get_or ts i 0)).len ≤ len
tile_end range first at len ts i adjoin less =
    let next = tile_step range (first + at) ts i (first + len) adjoin less in
    let within = adjoin_within range (first + at + (range (get_or ts i 0)).len) (drop (i + 1) ts) (first + len) next.1 in
    omega (arith, within)

-- the bytes from one place on, in a part of a list
part_of : (f : List ℕ) (first total at len n m : ℕ) → at + len ≤ total → n ≡ first + total - first → m ≡ len → take m (drop at (take n (drop first f))) ≡ take len (drop (first + at) f)
part_of f first total at len n m fits is same =
    let split : n ≡ at + (total - at) = omega (arith, is, fits) in
    ap (λ k. take m (drop at (take k (drop first f)))) split ∙ ap (take m) (drop-take at (total - at) (drop first f))
    ∙ take-take m (total - at) (drop at (drop first f)) (omega (arith, same, fits)) ∙ ap (λ k. take k (drop at (drop first f))) same ∙ ap (take len) (drop-drop at first f)

range_there : (f : List ℕ) (n t first len : ℕ) → level_value f n 324 t ≡ Some first → level_value f n 325 t ≡ Some len → tile_range f n t ≡ Some (record { first = first; len = len })
unfolding tile_range
range_there f n t first len offset count = rw (offset, count) refl

pub segment_is : (f : List ℕ) (n t at first total len m : ℕ) (bytes : List ℕ) → level_value f n 324 t ≡ Some (first + at) → level_value f n 325 t ≡ Some len → first + total ≤ length f → at + len ≤ total
    → bytes ≡ slice_range f first (first + total) → m ≡ len → segment f n t ≡ Some (take m (drop at bytes))
unfolding segment
segment_is f n t at first total len m bytes offset count inside fits is same =
    let room : first + at + len ≤ length f = omega (arith, inside, fits) in
    let size : first + at + len - (first + at) ≡ len = omega arith in
    rw (range_there f n t (first + at) len offset count, le-ltb (length f) (first + at + len) room)
    (ap (λ k. Some (take k (drop (first + at) f))) size ∙ ap Some (sym (part_of f first total at len (first + total - first) m fits refl same)) ∙ ap (λ l. Some (take m (drop at l))) (sym is))

-- what is true of the part of a group's bytes that a tile has is true of the tile's bytes
pub of_part : (P : List ℕ → Type 0) (at len first count : ℕ) (bytes of : List ℕ) → of ≡ bytes → first ≡ at → count ≡ len → P (slice_range of first (first + count)) → P (take (at + len - at) (drop at bytes))
of_part P at len first count bytes of same place size is =
    subst (λ l. P (take (at + len - at) (drop at l))) same
    (subst (λ n. P (take (at + n - at) (drop at of))) size
    (subst (λ k. P (take (k + count - k) (drop k of))) place is))

-- the bytes of tile i of some tiles, in those of its group, are the file's
part_in_file : (f : List ℕ) (first at len p : ℕ) (bytes l : List ℕ) → bytes ≡ slice_range f first (first + length bytes) → at + len ≤ length bytes → p ≡ first + at → l ≡ take (at + len - at) (drop at bytes)
    → l ≡ bytes_in f (record { first = p; len = length l })
part_in_file f first at len p bytes l are fits place is =
    let n : at + len - at ≡ len = omega arith in
    let long : length l ≡ len = ap length is ∙ length-take-le (at + len - at) (drop at bytes) (omega (arith, n, fits, length-drop at bytes)) ∙ n in
    let size : p + length l - p ≡ len = omega (arith, long) in
    is ∙ ap (λ b. take (at + len - at) (drop at b)) are ∙ part_of f first (length bytes) at len (first + length bytes - first) (at + len - at) fits refl n
    ∙ ap (λ k. take len (drop k f)) (sym place) ∙ ap (λ k. take k (drop p f)) (sym size)

pub tile_bytes : (f : List ℕ) (first at p len start count : ℕ) (range : ℕ → Extent) (ts : List ℕ) (i : ℕ) (bytes of : List ℕ) → bytes ≡ slice_range f first (first + length bytes)
    → Adjoin range (first + at) (drop i ts) (first + length bytes) → i < length ts → p ≡ (range (get_or ts i 0)).first → len ≡ (range (get_or ts i 0)).len → of ≡ bytes → start ≡ at → count ≡ len
    → slice_range of start (start + count) ≡ bytes_in f (record { first = p; len = length (slice_range of start (start + count)) })
tile_bytes f first at p len start count range ts i bytes of are adjoin less place size same begins counts =
    let step = tile_step range (first + at) ts i (first + length bytes) adjoin less in
    let within = tile_end range first at (length bytes) ts i adjoin less in
    part_in_file f first at len p bytes (slice_range of start (start + count)) are (omega (arith, within, size)) (place ∙ step.0)
    (of_part (λ l. slice_range of start (start + count) ≡ l) at len start count bytes of same begins counts refl)

-- a refusal that is handed on
pub passed_on : {A E : Type 0} (result : Result A E) (error : E) (P : E → Type 0) → IsErrAnd result (λ e. e ≡ error) → P error → IfErr result P
passed_on (Ok a) error P bad good = absurd bad
passed_on (Err e) error P is good = subst P (sym is) good

-- ---- one tile more

-- what is on the picture, where only its bytes are others
picture : Level → Rectangle → List ℕ → Picture
picture l r bytes = record { level = l; rectangle = r; bytes = bytes }

same_bytes : (old new : Picture) (i j b : ℕ) → new.level ≡ old.level → new.rectangle ≡ old.rectangle → byte_at new i j b ≡ get_or new.bytes (place old.level old.rectangle.w i j b) 0
same_bytes old new i j b level rectangle =
    ap (λ l. get_or new.bytes (place l new.rectangle.w i j b) 0) level ∙ ap (λ (r : Rectangle). get_or new.bytes (place old.level r.w i j b) 0) rectangle

at_new : (f : List ℕ) (n t : ℕ) (old new : Picture) → new.level ≡ old.level → new.rectangle ≡ old.rectangle → IsPainted f n (picture old.level old.rectangle new.bytes) t → IsPainted f n new t
unfolding picture
at_new f n t old new level rectangle is =
    subst (λ l. IsPainted f n (picture l new.rectangle new.bytes) t) (sym level) (subst (λ r. IsPainted f n (picture old.level r new.bytes) t) (sym rectangle) is)

-- a tile that was on the picture is there after another one
kept : (f : List ℕ) (n t u : ℕ) (plain : List ℕ) (old new : Picture) → IsBlit t plain old new → u ≢ t → IsPainted f n old u → IsPainted f n (picture old.level old.rectangle new.bytes) u
unfolding picture
kept f n t u plain old new blit other is = record {
  bytes = is.bytes;
  bytes_are = is.bytes_are;
  plain = is.plain;
  unpacked = is.unpacked;
  size = is.size;
  pixels = λ i j b wide tall small here.
      sym (same_bytes old new i j b blit.level blit.rectangle) ∙ blit.outside i j b wide tall small (λ same. other (sym here ∙ same)) ∙ is.pixels i j b wide tall small here;
}

drawn : (f : List ℕ) (n t : ℕ) (bytes : List ℕ) (old new : Picture) → IsPaint t bytes old new → segment f n t ≡ Some bytes → IsPainted f n (picture old.level old.rectangle new.bytes) t
unfolding picture
drawn f n t bytes old new paint is = record {
  bytes = bytes;
  bytes_are = is;
  plain = paint.plain;
  unpacked = paint.unpacked;
  size = paint.size;
  pixels = λ i j b wide tall small here. sym (same_bytes old new i j b paint.blit.level paint.blit.rectangle) ∙ paint.blit.inside i j b wide tall small here;
}

pub painted_more : (f : List ℕ) (n t : ℕ) (bytes done : List ℕ) (old new : Picture) → IsPaint t bytes old new → segment f n t ≡ Some bytes → All (IsPainted f n old) done → All (IsPainted f n new) (done ++ t ∷ [])
painted_more f n t bytes done old new paint is all =
    let here = at_new f n t old new paint.blit.level paint.blit.rectangle (drawn f n t bytes old new paint is) in
    All-push (IsPainted f n new) done t
    (λ k d less. elim (cases_eq (get_or done k d) t) [
      | inl same ↦ subst (IsPainted f n new) (sym same) here
      | inr other ↦ at_new f n (get_or done k d) old new paint.blit.level paint.blit.rectangle (kept f n t (get_or done k d) paint.plain old new paint.blit other (all k d less))
    ])
    here

-- ---- plain tiles

-- a plain tile that is copied by its bytes is painted
pub painted_plain : (t : ℕ) (bytes : List ℕ) (old new : Picture) → old.level.compression ≡ Plain → length bytes ≡ plain_size (layout_of old.level) → IsBlit t bytes old new → IsPaint t bytes old new
painted_plain t bytes old new plain size blit = record {
  plain = bytes;
  unpacked = subst (λ k. IsUnpackedBy k (plain_row (layout_of old.level)) (plain_size (layout_of old.level)) bytes bytes) (sym plain) refl;
  size = size;
  blit = blit;
}

-- the bytes of a plain tile in those of its group are as long as its samples
pub part_size : (a : Arrays) (at t len : ℕ) (bytes : List ℕ) (l : Level) → at + (tile_extent a t).len ≤ length bytes → len ≡ (tile_extent a t).len → (tile_extent a t).len ≡ plain_size (layout_of a.level) → a.level ≡ l
    → length (take (at + len - at) (drop at bytes)) ≡ plain_size (layout_of l)
part_size a at t len bytes l within same size is =
    let n : at + len - at ≡ (tile_extent a t).len = omega (arith, same) in
    length-take-le (at + len - at) (drop at bytes) (omega (arith, within, n, length-drop at bytes)) ∙ n ∙ size ∙ ap (λ (k : Level). plain_size (layout_of k)) is

pub size_of_part : (at len first count : ℕ) (bytes of : List ℕ) (size : ℕ) → of ≡ bytes → first ≡ at → count ≡ len → length (take (at + len - at) (drop at bytes)) ≡ size
    → length (slice_range of first (first + count)) ≡ size
size_of_part at len first count bytes of size same place some is =
    subst (λ k. length (take (k + count - k) (drop k of)) ≡ size) (sym place)
    (subst (λ n. length (take (at + n - at) (drop at of)) ≡ size) (sym some) (subst (λ l. length (take (at + len - at) (drop at l)) ≡ size) (sym same) is))
