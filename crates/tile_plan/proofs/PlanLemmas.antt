-- The groups of a window in a file.
use Rattle.tiff_dir.specs.declared.tags.TheConstants.{COMPRESSION, TILE_BYTE_COUNTS}
use Rattle.std.proofs.Common.{◌≡◌, ℕ, zero, suc, ◌+◌, ◌<◌, ◌≤◌, ◌⊎◌, inl, inr, Bool, true, false, List, [], ◌∷◌, ◌++◌, length, get_or, map, Option, Some, None, refl, sym, subst, ap, ◌∙◌, arith}
use Rattle.std.specs.Prelude.{◌||◌, nat_lt, nat_le, ◌==◌, IsSomeAnd}
use Rattle.std.specs.List.{AllByRecursion, Any, IsAmong, flat_map, list_any, range_with_len}
use Rattle.std.specs.Option.{option_to_list}
use Rattle.std.proofs.lemmas.Bool.{and_parts, cases_Bool, leb-true, lt-ltb, le-ltb, cases_lt}
use Rattle.std.proofs.lemmas.List.Elements.{All-from_recursion}
use Rattle.std.proofs.lemmas.List.Folds.{list_any-append}
use Rattle.std.proofs.lemmas.Option.{none-some, same_Some}
use Rattle.tiff_dir.specs.declared.order.Order.{Order}
use Rattle.tiff_dir.specs.declared.level.Level.{Level}
use Rattle.tiff_dir.specs.declared.level.Compression.TheVariants.{Plain}
use Rattle.tiff_dir.specs.declared.query.Query.{Query}
use Rattle.tiff_dir.specs.declared.fault.FileFault.{FileFault}
use Rattle.tiff_dir.specs.declared.fault.FileFault.TheVariants.{PastEnd, TileSize}
use Rattle.tiff_dir.specs.File.{◌>>=◌, order_of}
use Rattle.tiff_dir.specs.Level.{compression_of, level_directory, level_layout, level_value, plain_size, plain_size_at, tile_total}
use Rattle.extents.specs.Extent.{Extent, ends_past}
use Rattle.tiff_dir.specs.Described.{grid_of, layout_of}
use Rattle.tiff_dir.specs.Walk.{IsArrayOf, IsDescribed}
use Rattle.tiff_dir.specs.Faulty.{HasTile, HasBadTile, IsNotPlainSize, IsFaultOfWindow, is_byte_count}
use Rattle.tiff_dir.specs.Query.{joined_after, tile_range, tile_ranges, window_tiles, rectangle, array_ranges}
use Rattle.tile_plan.specs.declared.asked.Rectangle.{Rectangle}
use Rattle.tile_plan.specs.declared.plan.Group.{Group}
use Rattle.tile_plan.specs.Groups as groups
use Rattle.tile_plan.specs.Groups.{grouped}
use Rattle.tile_plan.specs.Levels.{rectangle_of}
use Rattle.tile_plan.specs.Plan.{range_in, tiles_of, group_of, IsRangeOf, IsWrongSize, IsTileFault, IsGroup, IsPlanned, AreNeeded, AreGroups}
use Rattle.tiff_dir.proofs.TileValues.{plain_number}
use Rattle.tile_plan.proofs.GroupLemmas.{IsFit, ranges_joined, ranges_kept, tiles_of_groups, each_group, all_of, all_counted, counted_among}

-- what the arrays say of a tile, in every file that has them
abbrev pub IsValueOf : Order → Level → List ℕ → List ℕ → ℕ → Type 0
IsValueOf order l offsets counts t =
    (f : List ℕ) (n : ℕ) → order_of f ≡ Some order → level_layout f n ≡ Some (layout_of l) → IsArrayOf f l.offsets offsets → IsArrayOf f l.counts counts
    → IsRangeOf f n t (range_in order l offsets counts t)

-- a tile that was looked at, and has no fault
pub record IsKnown (order : Order) (l : Level) (file_length : ℕ) (offsets counts : List ℕ) (t : ℕ) : Type 0 where
  pub within : t < tile_total (grid_of l)
  pub sound : (fault : FileFault) → IsTileFault l file_length (range_in order l offsets counts t) fault → ⊥
  pub values : IsValueOf order l offsets counts t

-- ---- a tile without a fault has few bytes, inside the file

small : (n : ℕ) → (is_byte_count n ≡ false → ⊥) → n ≤ 1048576
small n right = elim (cases_Bool (is_byte_count n)) [
  | inl h ↦ leb-true n 1048576 (and_parts (nat_lt 0 n) (nat_le n 1048576) h).1
  | inr h ↦ absurd (right h)
]

pub known_fit : (order : Order) (l : Level) (file_length : ℕ) (offsets counts : List ℕ) (t : ℕ) → IsKnown order l file_length offsets counts t → IsFit (range_in order l offsets counts) l file_length t
known_fit order l file_length offsets counts t known =
    let r = range_in order l offsets counts t in
    record {
      within = known.within;
      few = small r.len (λ wrong. known.sound TileSize (inl wrong));
      inside = elim (cases_lt file_length (r.first + r.len)) [ inl past ↦ absurd (known.sound PastEnd (lt-ltb file_length (r.first + r.len) past)) | inr fits ↦ fits ];
    }

-- ---- in the definitions of a file

window_is : (f : List ℕ) (q : Query) (order : Order) (l : Level) (r : Rectangle) (file_length : ℕ) (offsets counts : List ℕ) → IsPlanned f q order l r file_length offsets counts → window_tiles f q ≡ tiles_of l r
unfolding window_tiles
window_is f q order l r file_length offsets counts p = rw (p.good, p.rectangle_is, p.described.grid) refl

tile_ranges_are : (f : List ℕ) (q : Query) (order : Order) (l : Level) (r : Rectangle) (file_length : ℕ) (offsets counts : List ℕ) → IsPlanned f q order l r file_length offsets counts
    → tile_ranges f q ≡ map (tile_range f r.level) (tiles_of l r)
unfolding tile_ranges
tile_ranges_are f q order l r file_length offsets counts p =
    rw p.rectangle_is (ap (map (tile_range f r.level)) (window_is f q order l r file_length offsets counts p))

range_is : (f : List ℕ) (n t : ℕ) (r : Extent) → IsRangeOf f n t r → tile_range f n t ≡ Some r
unfolding tile_range
range_is f n t r is = rw (is.first, is.len) refl

same_ranges : (a : ℕ → Option Extent) (b : ℕ → Extent) (ts : List ℕ) → AllByRecursion (λ t. a t ≡ Some (b t)) ts → map a ts ≡ map (λ t. Some (b t)) ts
same_ranges a b [] same = refl
same_ranges a b (t ∷ ts) (here, rest) = ap (λ x. x ∷ map a ts) here ∙ ap (λ l. Some (b t) ∷ l) (same_ranges a b ts rest)

-- ---- a tile past the end

abbrev past : ℕ → Extent → Bool
past file_length r = nat_lt file_length (r.first + r.len)

or_right : (a b : Bool) → b ≡ true → (a || b) ≡ true
or_right true b is = refl
or_right false b is = is

among_past : (p : Extent → Bool) (range : ℕ → Option Extent) (ts : List ℕ) (i t : ℕ) (r : Extent) → i < length ts → t ≡ get_or ts i t → range t ≡ Some r → p r ≡ true → list_any p (flat_map option_to_list (map range ts)) ≡ true
among_past p range [] i t r less at is far = absurd (omega (arith, less))
among_past p range (u ∷ ts) zero t r less at is far = rw (ap range (sym at) ∙ is, far) refl
among_past p range (u ∷ ts) (suc i) t r less at is far = go (range u) (among_past p range ts i t r (omega (arith, less)) at is far) where
  go : (o : Option Extent) → list_any p (flat_map option_to_list (map range ts)) ≡ true → list_any p (option_to_list o ++ flat_map option_to_list (map range ts)) ≡ true
  go None later = later
  go (Some s) later = or_right (p s) (list_any p (flat_map option_to_list (map range ts))) later

-- ---- a fault of a tile is one of the query

has_tile : (f : List ℕ) (q : Query) (order : Order) (l : Level) (r : Rectangle) (file_length : ℕ) (offsets counts : List ℕ) (t : ℕ) (P : ℕ → ℕ → Type 0) → IsPlanned f q order l r file_length offsets counts → IsAmong (tiles_of l r) t
    → P r.level t → HasTile f q P
has_tile f q order l r file_length offsets counts t P p among holds =
    let (k, (less, is)) = subst (λ ts. IsAmong ts t) (sym (window_is f q order l r file_length offsets counts p)) among in
    rw p.rectangle_is (k, t, less, sym is, holds)

not_plain : (f : List ℕ) (n count : ℕ) (l : Level) → IsDescribed f n l → l.compression ≡ Plain → (count == plain_size (layout_of l)) ≡ false → IsNotPlainSize f n count
not_plain f n count l here plain is = (plain_number (level_value f n COMPRESSION 0) (here.compression ∙ ap Some plain), size (level_directory f n >>= plain_size_at f) (plain_size (layout_of l)) here.plain_size is) where
  size : (o : Option ℕ) (s : ℕ) → o ≡ Some s → (count == s) ≡ false → IsSomeAnd o (λ size. (count == size) ≡ false)
  size None s is wrong = absurd (none-some s is)
  size (Some k) s is wrong = (let same : k ≡ s = cc in ap (λ j. count == j) same ∙ wrong)

pub stands : (f : List ℕ) (q : Query) (order : Order) (l : Level) (r : Rectangle) (file_length : ℕ) (offsets counts : List ℕ) (t : ℕ) (fault : FileFault) → IsPlanned f q order l r file_length offsets counts
    → IsAmong (tiles_of l r) t → IsRangeOf f r.level t (range_in order l offsets counts t) → IsTileFault l file_length (range_in order l offsets counts t) fault → IsFaultOfWindow f q fault
stands f q order l r file_length offsets counts t TileSize p among is wrong =
    has_tile f q order l r file_length offsets counts t (λ n t. IsSomeAnd (level_value f n TILE_BYTE_COUNTS t) (λ count. (is_byte_count count ≡ false) ⊎ IsNotPlainSize f n count)) p among
    (rw is.len (elim wrong [ inl bad ↦ inl bad | inr (plain, bad) ↦ inr (not_plain f r.level (range_in order l offsets counts t).len l p.described plain bad) ]))
stands f q order l r file_length offsets counts t PastEnd p among is wrong =
    let here = range_in order l offsets counts t in
    let far : past (length f) here ≡ true = ap (λ n. past n here) p.size ∙ wrong in
    let some = among_past (ends_past f) (tile_range f r.level) (tiles_of l r) among.0 t here among.1.0 among.1.1 (range_is f r.level t here is) far in
    list_any-append (ends_past f) (array_ranges f q) (flat_map option_to_list (tile_ranges f q))
    ∙ or_right (list_any (ends_past f) (array_ranges f q)) (list_any (ends_past f) (flat_map option_to_list (tile_ranges f q)))
    (ap (λ rs. list_any (ends_past f) (flat_map option_to_list rs)) (tile_ranges_are f q order l r file_length offsets counts p) ∙ some)
stands f q order l r file_length offsets counts t _ p among is wrong = absurd wrong

-- ---- the groups of a window

pub planned : (order : Order) (l : Level) (r : Rectangle) (file_length : ℕ) (offsets counts : List ℕ) (e : ℕ → ℕ) (n : ℕ) (gs : List Group)
    → map e (range_with_len 0 n) ≡ tiles_of l r → ((k : ℕ) → k < n → IsKnown order l file_length offsets counts (e k)) → map group_of gs ≡ grouped (range_in order l offsets counts) (map e (range_with_len 0 n))
    → AreGroups (range_in order l offsets counts) l r file_length gs
planned order l r file_length offsets counts e n gs tiles known is =
    let range = range_in order l offsets counts in
    let same : map group_of gs ≡ grouped range (tiles_of l r) = is ∙ ap (grouped range) tiles in
    let fits = subst (AllByRecursion (IsFit range l file_length)) tiles (all_counted (IsFit range l file_length) e 0 n (λ k low less. known_fit order l file_length offsets counts (e k) (known k (omega (arith, less))))) in
    record {
      groups = same;
      tiles = tiles_of_groups range (tiles_of l r) gs same;
      each = All-from_recursion (λ g. IsGroup range l file_length (group_of g)) gs
          (all_of (IsGroup range l file_length) group_of gs (subst (AllByRecursion (IsGroup range l file_length)) (sym same) (each_group range l file_length (tiles_of l r) fits)));
      sound = λ t among fault wrong. (let k = counted_among e n (tiles_of l r) t tiles among in (known k.0 k.1).sound fault (subst (λ t. IsTileFault l file_length (range t) fault) k.2 wrong));
    }

all_inside : (f : List ℕ) (at : ℕ → Option Extent) (range : ℕ → Extent) (file_length : ℕ) (ts : List ℕ) → length f ≡ file_length
    → AllByRecursion (λ t. (at t ≡ Some (range t)) × ((range t).first + (range t).len ≤ file_length)) ts → list_any (ends_past f) (flat_map option_to_list (map at ts)) ≡ false
all_inside f at range file_length [] size all = refl
all_inside f at range file_length (t ∷ ts) size ((is, fits), rest) =
    let here : ends_past f (range t) ≡ false = le-ltb (length f) ((range t).first + (range t).len) (omega (arith, fits, size)) in
    rw (is, here) (all_inside f at range file_length ts size rest)

-- what is wrong with a tile of the window is wrong with its range
wrong_size : (f : List ℕ) (n t : ℕ) (l : Level) (r : Extent) → IsDescribed f n l → IsRangeOf f n t r → IsSomeAnd (level_value f n TILE_BYTE_COUNTS t) (λ count. (is_byte_count count ≡ false) ⊎ IsNotPlainSize f n count) → IsWrongSize l r.len
wrong_size f n t l r here is wrong = at (level_value f n TILE_BYTE_COUNTS t) is.len wrong where
  plain : (o : Option ℕ) (size : ℕ) → o ≡ Some size → IsSomeAnd o (λ size. (r.len == size) ≡ false) → (r.len == size) ≡ false
  plain None size is wrong = absurd (none-some size is)
  plain (Some s) size is wrong = (let same : s ≡ size = cc in ap (λ j. r.len == j) (sym same) ∙ wrong)

  at : (o : Option ℕ) → o ≡ Some r.len → IsSomeAnd o (λ count. (is_byte_count count ≡ false) ⊎ IsNotPlainSize f n count) → IsWrongSize l r.len
  at None is wrong = absurd (none-some r.len is)
  at (Some count) is (inl bad) = (let same : count ≡ r.len = cc in inl (ap is_byte_count (sym same) ∙ bad))
  at (Some count) is (inr (compressed, bad)) =
      let same : count ≡ r.len = cc in
      let is_plain : l.compression ≡ Plain = same_Some l.compression Plain (sym here.compression ∙ ap (λ o. o >>= compression_of) compressed) in
      let size = level_directory f n >>= plain_size_at f in
      inr (is_plain, plain size (plain_size (layout_of l)) here.plain_size (subst (λ k. IsSomeAnd size (λ size. (k == size) ≡ false)) same bad))

at_some : {A : Type 0} (o : Option A) (x : A) (P : A → Type 0) → o ≡ Some x → IsSomeAnd o P → P x
at_some None x P is some = absurd (none-some x is)
at_some (Some y) x P is some = subst P (same_Some y x is) some

no_bad_tile : (f : List ℕ) (q : Query) (order : Order) (l : Level) (r : Rectangle) (file_length : ℕ) (offsets counts : List ℕ) (e : ℕ → ℕ) (n : ℕ) → IsPlanned f q order l r file_length offsets counts
    → map e (range_with_len 0 n) ≡ tiles_of l r → ((k : ℕ) → k < n → IsKnown order l file_length offsets counts (e k)) → HasBadTile f q → ⊥
no_bad_tile f q order l r file_length offsets counts e n p tiles known h =
    let (i, t, less, is, bad) = at_some (rectangle f q) (rectangle_of r) (λ s. Any (λ t. IsSomeAnd (level_value f s.level TILE_BYTE_COUNTS t) (λ count. (is_byte_count count ≡ false) ⊎ IsNotPlainSize f s.level count)) (window_tiles f q)) p.rectangle_is h in
    let among = subst (λ ts. IsAmong ts t) (window_is f q order l r file_length offsets counts p) (i, (less, sym is)) in
    let k = counted_among e n (tiles_of l r) t tiles among in
    let here = (known k.0 k.1).values f r.level p.order_is p.layout_is p.offsets_are p.counts_are in
    let wrong = subst (λ t. IsSomeAnd (level_value f r.level TILE_BYTE_COUNTS t) (λ count. (is_byte_count count ≡ false) ⊎ IsNotPlainSize f r.level count)) k.2 bad in
    (known k.0 k.1).sound TileSize (wrong_size f r.level (e k.0) l (range_in order l offsets counts (e k.0)) p.described here wrong)

pub needed : (f : List ℕ) (q : Query) (order : Order) (l : Level) (r : Rectangle) (file_length : ℕ) (offsets counts : List ℕ) (e : ℕ → ℕ) (n : ℕ) (gs : List Group) → IsPlanned f q order l r file_length offsets counts
    → map e (range_with_len 0 n) ≡ tiles_of l r → ((k : ℕ) → k < n → IsKnown order l file_length offsets counts (e k)) → AreGroups (range_in order l offsets counts) l r file_length gs → AreNeeded f q gs
needed f q order l r file_length offsets counts e n gs p tiles known are =
    let range = range_in order l offsets counts in
    let Same : ℕ → Type 0 = λ t. tile_range f r.level t ≡ Some (range t) in
    let same = subst (AllByRecursion Same) tiles
    (all_counted Same e 0 n (λ k low less. range_is f r.level (e k) (range (e k)) ((known k (omega (arith, less))).values f r.level p.order_is p.layout_is p.offsets_are p.counts_are))) in
    let Inside : ℕ → Type 0 = λ t. (tile_range f r.level t ≡ Some (range t)) × ((range t).first + (range t).len ≤ file_length) in
    let inside = subst (AllByRecursion Inside) tiles
    (all_counted Inside e 0 n (λ k low less.
    let fine = known k (omega (arith, less)) in
    (range_is f r.level (e k) (range (e k)) (fine.values f r.level p.order_is p.layout_is p.offsets_are p.counts_are), (known_fit order l file_length offsets counts (e k) fine).inside))) in
    let ranges : tile_ranges f q ≡ map (λ t. Some (range t)) (tiles_of l r) =
    tile_ranges_are f q order l r file_length offsets counts p ∙ same_ranges (tile_range f r.level) range (tiles_of l r) same in
    record {
      ranges = ranges_kept gs ∙ ap (map (λ (g : groups.Group). g.range)) are.groups ∙ ranges_joined range (tiles_of l r) ∙ sym (ap (joined_after None) ranges);
      inside = ap (λ rs. list_any (ends_past f) (flat_map option_to_list rs)) (tile_ranges_are f q order l r file_length offsets counts p) ∙ all_inside f (tile_range f r.level) range file_length (tiles_of l r) p.size inside;
      right = no_bad_tile f q order l r file_length offsets counts e n p tiles known;
    }
