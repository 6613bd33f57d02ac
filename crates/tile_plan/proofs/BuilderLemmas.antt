-- One group after another.
use Rattle.std.proofs.Common.{◌≡◌, ℕ, zero, suc, ◌+◌, ◌<◌, inl, inr, true, List, [], ◌∷◌, ◌++◌, length, take, get_or, Option, Some, None, refl, sym, subst, ap, ◌∙◌, arith, length-append}
use Rattle.std.specs.Prelude.{◌==◌, nat_lt, slice_get, IsSomeAnd}
use Rattle.std.specs.List.{All, IsAmong, slice_range}
use Rattle.std.proofs.lemmas.Bool.{cases_Bool, eqb-true, ltb-true}
use Rattle.std.proofs.lemmas.Grind.{flat_map-append}
use Rattle.std.proofs.lemmas.List.{get_or_append_left, get_or-append-add, take_more}
use Rattle.std.proofs.lemmas.Option.{none-some, slice_get_read, slice_get_within, get_or_from_slice_get}
use Rattle.std.proofs.Common.{append-nil}
use Rattle.tiff_dir.specs.declared.level.Compression.TheVariants.{Plain}
use Rattle.tiff_dir.specs.declared.query.Query.{Query}
use Rattle.tiff_dir.specs.declared.fault.FileFault.{FileFault}
use Rattle.tiff_dir.specs.declared.fault.FileFault.TheVariants.{TileSize}
use Rattle.tiff_dir.specs.Level.{plain_size}
use Rattle.tiff_dir.specs.Described.{layout_of}
use Rattle.tiff_dir.specs.Faulty.{HasBadPackets, IsFaultOfWindow}
use Rattle.tiff_dir.specs.Query.{window_tiles}
use Rattle.extents.specs.Extent.{extent_of_span, bytes_in}
use Rattle.tile_plan.specs.declared.asked.Rectangle.{Rectangle}
use Rattle.tile_plan.specs.declared.plan.Group.{Group}
use Rattle.tile_plan.specs.Levels.{IsSmall}
use Rattle.tile_plan.specs.Plan.{AreGroups, Adjoin, tiles_of, group_of, IsGroup, IsPlanned}
use Rattle.tile_plan.specs.Canvas.{Picture, picture_size}
use Rattle.tile_plan.specs.declared.arrays.Arrays.{Arrays}
use Rattle.tile_plan.specs.WindowBuilder.{WindowState, tile_extent, tiles_of_groups, IsPainted, IsPlan, IsUnderway, IsGroupLen, IsWantedGroup, IsWhole, AreBytesOf, AreArraysOf, HasDamage}

-- ---- tiles of groups

among_front : (xs ys : List ℕ) (t : ℕ) → IsAmong xs t → IsAmong (xs ++ ys) t
among_front xs ys t (i, (less, is)) = (i, (omega (arith, less, length-append xs ys), is ∙ sym (get_or_append_left xs ys t i less)))

among_back : (xs ys : List ℕ) (t : ℕ) → IsAmong ys t → IsAmong (xs ++ ys) t
among_back xs ys t (i, (less, is)) = (length xs + i, (omega (arith, less, length-append xs ys), is ∙ sym (get_or-append-add xs ys i t)))

among_group : (gs : List Group) (i : ℕ) (g : Group) (t : ℕ) → slice_get gs i ≡ Some g → IsAmong g.tiles.items t → IsAmong (tiles_of_groups gs) t
among_group [] i g t is among = absurd (none-some g is)
among_group (h ∷ gs) zero g t is among = (let same : h ≡ g = cc in among_front h.tiles.items (tiles_of_groups gs) t (subst (λ k. IsAmong k.tiles.items t) (sym same) among))
among_group (h ∷ gs) (suc i) g t is among = among_back h.tiles.items (tiles_of_groups gs) t (among_group gs i g t is among)

tiles_more : (gs : List Group) (i : ℕ) (g : Group) → slice_get gs i ≡ Some g → tiles_of_groups (take (i + 1) gs) ≡ tiles_of_groups (take i gs) ++ g.tiles.items
tiles_more gs i g is =
    let less = slice_get_within gs i g is in
    ap tiles_of_groups (take_more gs i g less ∙ ap (λ h. take i gs ++ h ∷ []) (get_or_from_slice_get gs i g g is))
    ∙ flat_map-append (λ (h : Group). h.tiles.items) (take i gs) (g ∷ []) ∙ ap (λ l. tiles_of_groups (take i gs) ++ l) (append-nil g.tiles.items)

-- ---- the next group

pub found : (gs ys : List Group) (i : ℕ) (g : Group) → ys ≡ gs → true ≡ nat_lt i (length ys) → g ≡ get_or ys i g → slice_get gs i ≡ Some g
found gs ys i g same less is = ap (λ l. slice_get l i) (sym same) ∙ slice_get_read ys (length ys) i g refl (ltb-true i (length ys) (sym less)) is

pub here_and : {X : Type 0} (o : Option X) (x : X) (P : X → Type 0) → o ≡ Some x → IsSomeAnd o P → P x
here_and None x P is some = absurd (none-some x is)
here_and (Some y) x P is some = (let same : y ≡ x = cc in subst P same some)

plain_len : (n : ℕ) (a : Arrays) (w : WindowState) (g : Group) (t : ℕ) → IsPlan n a w → slice_get w.groups w.given ≡ Some g → IsAmong g.tiles.items t → a.level.compression ≡ Plain → (tile_extent a t).len ≡ plain_size (layout_of a.level)
plain_len n a w g t plan is among plain =
    let of_window = subst (λ l. IsAmong l t) plan.are.tiles (among_group w.groups w.given g t is among) in
    elim (cases_Bool ((tile_extent a t).len == plain_size (layout_of a.level))) [
      | inl h ↦ eqb-true (tile_extent a t).len (plain_size (layout_of a.level)) h
      | inr h ↦ absurd (plan.are.sound t of_window TileSize (inr (plain, h)))
    ]

pub whole_group : (n : ℕ) (a : Arrays) (w : WindowState) (g : Group) (ts : List ℕ) (len : ℕ) → IsPlan n a w → slice_get w.groups w.given ≡ Some g → ts ≡ g.tiles.items → IsGroupLen w len → IsWhole a ts len
whole_group n a w g ts len plan is same next =
    let group = subst (λ h. IsGroup (tile_extent a) a.level n (group_of h)) (get_or_from_slice_get w.groups w.given g g is) (plan.are.each w.given g (slice_get_within w.groups w.given g is)) in
    let size = here_and (slice_get w.groups w.given) g (λ h. len ≡ (extent_of_span h.span).len) is next in
    subst (λ l. IsWhole a l len) (sym same) (record {
      within = group.tiles;
      plain = λ k d less plain. plain_len n a w g (get_or g.tiles.items k d) plan is (k, (less, among_same g.tiles.items k d less)) plain;
      first = g.span.first;
      adjoin = subst (λ m. Adjoin (tile_extent a) g.span.first g.tiles.items (g.span.first + m)) (sym size) group.adjoin;
    }) where
      among_same : (xs : List ℕ) (k d : ℕ) → k < length xs → get_or xs k d ≡ get_or xs k (get_or xs k d)
      among_same [] k d less = absurd (omega (arith, less))
      among_same (x ∷ xs) zero d less = refl
      among_same (x ∷ xs) (suc k) d less = among_same xs k d (omega (arith, less))

next_bytes : (f : List ℕ) (q : Query) (a : Arrays) (w : WindowState) (g : Group) (bytes : List ℕ) → IsUnderway f q a w → slice_get w.groups w.given ≡ Some g → IsGroupLen w (length bytes) → IsWantedGroup f w bytes
    → AreBytesOf f g.span.first bytes × Adjoin (tile_extent a) g.span.first g.tiles.items (g.span.first + length bytes)
next_bytes f q a w g bytes u is next of_file =
    let group = subst (λ h. IsGroup (tile_extent a) a.level (length f) (group_of h)) (get_or_from_slice_get w.groups w.given g g is) (u.are.each w.given g (slice_get_within w.groups w.given g is)) in
    let size = here_and (slice_get w.groups w.given) g (λ h. length bytes ≡ (extent_of_span h.span).len) is next in
    let are = here_and (slice_get w.groups w.given) g (λ h. bytes ≡ bytes_in f (extent_of_span h.span)) is of_file in (
      record {
        are = are ∙ ap (λ n. slice_range f g.span.first (g.span.first + n)) (sym size);
        inside = omega (arith, group.inside, size);
      },
      subst (λ m. Adjoin (tile_extent a) g.span.first g.tiles.items (g.span.first + m)) (sym size) group.adjoin,
    )

pub arrays_of : (f : List ℕ) (q : Query) (a : Arrays) (w : WindowState) → IsUnderway f q a w → AreArraysOf f w.picture.rectangle.level a
arrays_of f q a w u = record { order_is = u.planned.order_is; layout_is = u.planned.layout_is; offsets_are = u.planned.offsets_are; counts_are = u.planned.counts_are }

-- Where the bytes of the next group are given: the work is the query's, they are the file's, and the group's tiles adjoin in them.
pub given_bytes : (f : List ℕ) (q : Query) (a : Arrays) (w old : WindowState) (g : Group) (ts bytes : List ℕ) → w ≡ old → slice_get w.groups w.given ≡ Some g → ts ≡ g.tiles.items → IsGroupLen old (length bytes)
    → IsUnderway f q a old → IsWantedGroup f old bytes → IsUnderway f q a w × AreBytesOf f g.span.first bytes × Adjoin (tile_extent a) g.span.first ts (g.span.first + length bytes)
given_bytes f q a w old g ts bytes is there same len underway next =
    let u = subst (IsUnderway f q a) (sym is) underway in
    let given = next_bytes f q a w g bytes u there (subst (λ w. IsGroupLen w (length bytes)) (sym is) len) (subst (λ w. IsWantedGroup f w bytes) (sym is) next) in
    (u, given.0, subst (λ l. Adjoin (tile_extent a) g.span.first l (g.span.first + length bytes)) (sym same) given.1)

-- ---- a group more

pub underway_more : (f : List ℕ) (q : Query) (a : Arrays) (w : WindowState) (g : Group) (new : Picture) → IsUnderway f q a w → slice_get w.groups w.given ≡ Some g → new.level ≡ w.picture.level → new.rectangle ≡ w.picture.rectangle → length new.bytes ≡ length w.picture.bytes
    → All (IsPainted f w.picture.rectangle.level new) (tiles_of_groups (take w.given w.groups) ++ g.tiles.items) → IsUnderway f q a (record { groups = w.groups; given = w.given + 1; picture = new })
underway_more f q a w g new u is level rectangle size painted = record {
  planned = subst (λ r. IsPlanned f q a.order a.level r (length f) a.offsets.items a.counts.items) (sym rectangle) u.planned;
  are = subst (λ r. AreGroups (tile_extent a) a.level r (length f) w.groups) (sym rectangle) u.are;
  level = level ∙ u.level;
  small = subst (IsSmall a.level) (sym rectangle) u.small;
  size = size ∙ u.size ∙ ap (picture_size a.level) (sym rectangle);
  needed = u.needed;
  painted = subst (All (IsPainted f new.rectangle.level new)) (sym (tiles_more w.groups w.given g is))
      (subst (λ (r : Rectangle). All (IsPainted f r.level new) (tiles_of_groups (take w.given w.groups) ++ g.tiles.items)) (sym rectangle) painted);
}

-- ---- a damaged tile

pub window_is : (f : List ℕ) (q : Query) (a : Arrays) (r : Rectangle) → IsPlanned f q a.order a.level r (length f) a.offsets.items a.counts.items → window_tiles f q ≡ tiles_of a.level r
unfolding window_tiles
window_is f q a r p = rw (p.good, p.rectangle_is, p.described.grid) refl

pub damaged : (f : List ℕ) (q : Query) (a : Arrays) (w : WindowState) (g : Group) (ts : List ℕ) (fault : FileFault) → IsUnderway f q a w → slice_get w.groups w.given ≡ Some g → ts ≡ g.tiles.items
    → HasDamage f w.picture.rectangle.level a.level ts fault → IsFaultOfWindow f q fault
damaged f q a w g ts fault u is same bad =
    let p = u.planned in
    let among = subst (λ l. IsAmong l bad.tile) (u.are.tiles ∙ sym (window_is f q a w.picture.rectangle p)) (among_group w.groups w.given g bad.tile is (subst (λ l. IsAmong l bad.tile) same bad.among)) in
    let (i, (less, is)) = among in
    let found : HasBadPackets f q = rw p.rectangle_is (i, bad.tile, less, sym is, rw (p.layout_is, bad.bytes_are) bad.wrong) in
    subst (IsFaultOfWindow f q) (sym bad.packet) found
