-- Where no fault stands for a window: its rectangle, its level, and the bytes of each of its tiles.
use Rattle.tiff_dir.specs.declared.tags.TheConstants.{IMAGE_LENGTH, IMAGE_WIDTH, TILE_BYTE_COUNTS, TILE_OFFSETS}
use Rattle.std.proofs.Common.{◌≡◌, ℕ, zero, suc, ◌+◌, ◌-◌, ◌*◌, ◌/◌, ◌<◌, ◌≤◌, ◌⊎◌, inl, inr, Bool, true, false, List, [], ◌∷◌, ◌++◌, length, get_or, map, Option, Some, None, refl, sym, subst, ap, ◌∙◌, arith}
use Rattle.std.specs.Prelude.{◌==◌, is_none, unwrap_or, slice_get}
use Rattle.std.specs.Option.{option_to_list}
use Rattle.std.specs.List.{filter, flat_map, last_or, range_with_len}
use Rattle.std.proofs.Math.Nat.{mul-le-mul_right}
use Rattle.std.proofs.lemmas.Bool.{and_parts, or_parts, cases_Bool, ltb-false, ltb-true, false≢true}
use Rattle.std.proofs.lemmas.Nat.{div_below}
use Rattle.std.proofs.lemmas.Option.{none-some, same_Some, slice_get-get_or, slice_get_within}
use Rattle.tiff_dir.specs.declared.query.Query.{Query}
use Rattle.tiff_dir.specs.declared.query.Query.TheVariants.{Window}
use Rattle.tiff_dir.specs.declared.query.Pick.{Pick}
use Rattle.tiff_dir.specs.declared.query.Pick.TheVariants as pick
use Rattle.tiff_dir.specs.declared.fault.FileFault.{FileFault}
use Rattle.tiff_dir.specs.declared.fault.FileFault.TheVariants.{PastEnd, Outside, TooLarge}
use Rattle.tiff_dir.specs.File.{has_directory, directories}
use Rattle.tiff_dir.specs.Level.{Layout, is_level, level_directories, level_directory, level_grid, level_layout, level_value}
use Rattle.extents.specs.Extent.{Extent, ends_past}
use Rattle.tiff_dir.specs.Query.{Rectangle, has_columns, smallest_level, scaled_down, scaled_up, scaled, rectangle, passes, is_outside_level, is_outside, is_too_large, is_refused, tiles_in, window_tiles, array_range, tile_range, array_ranges, tile_ranges}
use Rattle.tiff_dir.specs.Faulty.{IsFaultOfWindow, IsFaulty}
use Rattle.tiff_dir.specs.Shape.{layout_from}
use Rattle.tiff_dir.proofs.Clean.{IsClean, IsLaid, In, in_left, in_right, none_of_any, ends_inside, named, laid}
use Rattle.tiff_dir.proofs.Ends.{layout_parts}
use Rattle.tiff_dir.proofs.TileValues.{level_value_at}

-- ---- lists

got_in : {A : Type 0} (xs : List A) (n : ℕ) (x : A) → slice_get xs n ≡ Some x → In x xs
got_in [] zero x is = absurd (none-some x is)
got_in [] (suc n) x is = absurd (none-some x is)
got_in (y ∷ ys) zero x is = inl (sym (same_Some _ _ is))
got_in (y ∷ ys) (suc n) x is = inr (got_in ys n x is)

kept_in : (p : ℕ → Bool) (y x : ℕ) (ys rest : List ℕ) → p y ≡ true → (In x rest → (p x ≡ true) × In x ys) → In x (y ∷ rest) → (p x ≡ true) × In x (y ∷ ys)
kept_in p y x ys rest h more (inl is) = (ap p is ∙ h, inl is)
kept_in p y x ys rest h more (inr there) = let found = more there in (found.0, inr found.1)

in_filtered : (p : ℕ → Bool) (xs : List ℕ) (x : ℕ) → In x (filter p xs) → (p x ≡ true) × In x xs
in_filtered p [] x there = absurd there
in_filtered p (y ∷ ys) x there = elim (cases_Bool (p y)) [
  | inl h ↦ kept_in p y x ys (filter p ys) h (in_filtered p ys x) (rw h at there)
  | inr h ↦ (let found = in_filtered p ys x (rw h at there) in (found.0, inr found.1))
]

below : (a n k : ℕ) → In k (range_with_len a n) → k < a + n
below a zero k there = absurd there
below a (suc n) k (inl is) = omega (arith, is)
below a (suc n) k (inr there) = omega (arith, below (a + 1) n k there)

last_in : (o : Option ℕ) (xs : List ℕ) (k : ℕ) → last_or o xs ≡ Some k → (o ≡ Some k) ⊎ In k xs
last_in o [] k is = inl is
last_in o (x ∷ xs) k is = elim (last_in (Some x) xs k is) [ inl here ↦ inr (inl (sym (same_Some _ _ here))) | inr there ↦ inr (inr there) ]

-- ---- levels

pub level_of : (f : List ℕ) (n k : ℕ) → level_directory f n ≡ Some k → (k < 16) × (has_directory f k ≡ true) × (is_level f k ≡ true)
unfolding level_directory level_directories directories
level_of f n k there =
    let a = in_filtered (is_level f) (directories f) k (got_in (level_directories f) n k there) in
    let b = in_filtered (has_directory f) (range_with_len 0 16) k a.1 in
    (below 0 16 k b.1, b.0, a.0)

directory_of_level : (f : List ℕ) (n : ℕ) → n < length (level_directories f) → (k : ℕ) × (level_directory f n ≡ Some k)
unfolding level_directory
directory_of_level f n less = (get_or (level_directories f) n 0, slice_get-get_or (level_directories f) n 0 less)

pub level_there : (f : List ℕ) (n k : ℕ) → level_directory f n ≡ Some k → n < length (level_directories f)
unfolding level_directory
level_there f n k there = slice_get_within (level_directories f) n k there

smallest_there : (f : List ℕ) (columns w : ℕ) → 0 < length (level_directories f) → smallest_level f columns w < length (level_directories f)
unfolding smallest_level
smallest_there f columns w some = at (last_or None (filter (has_columns f columns w) (range_with_len 0 (length (level_directories f))))) refl where
  at : (o : Option ℕ) → last_or None (filter (has_columns f columns w) (range_with_len 0 (length (level_directories f)))) ≡ o → unwrap_or o 0 < length (level_directories f)
  at None is = some
  at (Some n) is = elim (last_in None (filter (has_columns f columns w) (range_with_len 0 (length (level_directories f)))) n is) [
    | inl none ↦ absurd (none-some n none)
    | inr there ↦ (let less = below 0 (length (level_directories f)) n (in_filtered (has_columns f columns w) (range_with_len 0 (length (level_directories f))) n there).1 in omega (arith, less))
  ]

-- a level of a clean file, and its layout
pub record IsLaidLevel (f : List ℕ) (n : ℕ) : Type 0 where
  pub directory : ℕ
  pub there : level_directory f n ≡ Some directory
  pub laid : IsLaid f directory

pub laid_level : (f : List ℕ) (n k : ℕ) → IsClean f → level_directory f n ≡ Some k → IsLaidLevel f n
laid_level f n k clean there =
    let (o, order) = named f clean in
    let (few, has, level) = level_of f n k there in
    record { directory = k; there = there; laid = laid f o k clean order few has level }

-- the grid of a level
abbrev pub layout_of_level : (f : List ℕ) (n : ℕ) → IsLaidLevel f n → Layout
layout_of_level f n l = layout_from l.laid.draft l.laid.bits

pub layout_there : (f : List ℕ) (n : ℕ) (l : IsLaidLevel f n) → level_layout f n ≡ Some (layout_of_level f n l)
unfolding level_layout
layout_there f n l = rw l.there l.laid.layout

pub grid_there : (f : List ℕ) (n : ℕ) (l : IsLaidLevel f n) → level_grid f n ≡ Some (layout_of_level f n l).grid
unfolding level_grid
grid_there f n l = rw l.there (layout_parts f l.directory (layout_of_level f n l) l.laid.layout).0

-- ---- the rectangle

-- a rectangle in a level, each pixel of which is in the level
pub record IsPlaced (f : List ℕ) (r : Rectangle) : Type 0 where
  pub level : IsLaidLevel f r.level
  pub columns : (i : ℕ) → i < r.width → r.left + i < level.laid.draft.width
  pub rows : (j : ℕ) → j < r.height → r.top + j < level.laid.draft.length

-- a window given in a level's own samples
record IsInLevel (f : List ℕ) (n x y w h : ℕ) : Type 0 where
  level : IsLaidLevel f n
  width : level_value f n IMAGE_WIDTH 0 ≡ Some level.laid.draft.width
  length : level_value f n IMAGE_LENGTH 0 ≡ Some level.laid.draft.length
  right : x + w ≤ level.laid.draft.width
  bottom : y + h ≤ level.laid.draft.length

some_directory : (f : List ℕ) (n : ℕ) → is_none (level_directory f n) ≡ false → (k : ℕ) × (level_directory f n ≡ Some k)
some_directory f n there = at (level_directory f n) refl there where
  at : (o : Option ℕ) → level_directory f n ≡ o → is_none o ≡ false → (k : ℕ) × (level_directory f n ≡ Some k)
  at None is bad = absurd (false≢true (sym bad))
  at (Some k) is good = (k, is)

not_passed : (end side : ℕ) (o : Option ℕ) → o ≡ Some side → passes end o ≡ false → end ≤ side
not_passed end side None is h = absurd (none-some side is)
not_passed end side (Some x) is h = let same = same_Some x side is in omega (arith, same, ltb-false x end h)

in_level : (f : List ℕ) (n x y w h : ℕ) → IsClean f → is_outside_level f n x y w h ≡ false → IsInLevel f n x y w h
in_level f n x y w h clean inside =
    let most = or_parts _ _ inside in
    let more = or_parts _ _ most.0 in
    let (k, there) = some_directory f n (or_parts _ _ more.0).1 in
    let l = laid_level f n k clean there in
    let width = level_value_at f n l.directory IMAGE_WIDTH 0 l.laid.draft.width l.there l.laid.drafted.width in
    let long = level_value_at f n l.directory IMAGE_LENGTH 0 l.laid.draft.length l.there l.laid.drafted.length in
    record { level = l; width = width; length = long; right = not_passed (x + w) l.laid.draft.width _ width more.1; bottom = not_passed (y + h) l.laid.draft.length _ long most.1 }

up_to : (side first end : ℕ) → 0 < first → end ≤ first → scaled_up side first end ≤ side
up_to side first end some less =
    let low : end * side ≤ first * side = mul-le-mul_right side less in
    let below : (end * side + first - 1) / first < side + 1 = div_below (end * side + first - 1) first (side + 1) some (omega (arith, low)) in
    omega (arith, below)

-- the rectangle that a query asks for, in its level
pub record IsAsked (f : List ℕ) (q : Query) : Type 0 where
  pub asked : Rectangle
  pub asked_is : rectangle f q ≡ Some asked
  pub placed : IsPlaced f asked

asked_of_level : (f : List ℕ) (x y w h n : ℕ) → IsClean f → is_outside f (Window x y w h (pick.Level n)) ≡ false → IsAsked f (Window x y w h (pick.Level n))
unfolding is_outside rectangle
asked_of_level f x y w h n clean inside =
    let at = in_level f n x y w h clean inside in
    record {
      asked = record { level = n; left = x; top = y; width = w; height = h };
      asked_is = refl;
      placed = record { level = at.level; columns = λ i less. omega (arith, less, at.right); rows = λ j less. omega (arith, less, at.bottom) };
    }

abbrev outwards : (n first_width first_length width length x y w h : ℕ) → Rectangle
outwards n first_width first_length width length x y w h = record {
  level = n;
  left = scaled_down width first_width x;
  top = scaled_down length first_length y;
  width = scaled_up width first_width (x + w) - scaled_down width first_width x;
  height = scaled_up length first_length (y + h) - scaled_down length first_length y;
}

scaled_is : (f : List ℕ) (n first_width first_length width length x y w h : ℕ) → level_value f 0 IMAGE_WIDTH 0 ≡ Some first_width → level_value f 0 IMAGE_LENGTH 0 ≡ Some first_length → level_value f n IMAGE_WIDTH 0 ≡ Some width → level_value f n IMAGE_LENGTH 0 ≡ Some length
    → scaled f n x y w h ≡ Some (outwards n first_width first_length width length x y w h)
unfolding scaled
scaled_is f n first_width first_length width length x y w h a b c d = rw (a, b, c, d) refl

by_columns : (f : List ℕ) (x y w h columns : ℕ) (r : Rectangle) → (columns == 0) ≡ false → scaled f (smallest_level f columns w) x y w h ≡ Some r → rectangle f (Window x y w h (pick.Columns columns)) ≡ Some r
unfolding rectangle
by_columns f x y w h columns r some is = rw some is

asked_by_columns : (f : List ℕ) (x y w h columns : ℕ) → IsClean f → is_outside f (Window x y w h (pick.Columns columns)) ≡ false → IsAsked f (Window x y w h (pick.Columns columns))
unfolding is_outside
asked_by_columns f x y w h columns clean inside =
    let (some, within) = or_parts (columns == 0) (is_outside_level f 0 x y w h) inside in
    let at = in_level f 0 x y w h clean within in
    let first = at.level.laid.draft in
    let n = smallest_level f columns w in
    let (k, there) = directory_of_level f n (smallest_there f columns w (level_there f 0 at.level.directory at.level.there)) in
    let l = laid_level f n k clean there in
    let here = l.laid.draft in
    let width = level_value_at f n l.directory IMAGE_WIDTH 0 here.width l.there l.laid.drafted.width in
    let long = level_value_at f n l.directory IMAGE_LENGTH 0 here.length l.there l.laid.drafted.length in
    let sides = and_parts _ _ at.level.laid.sides in
    let right = up_to here.width first.width (x + w) (ltb-true 0 first.width sides.0) at.right in
    let bottom = up_to here.length first.length (y + h) (ltb-true 0 first.length sides.1) at.bottom in
    record {
      asked = outwards n first.width first.length here.width here.length x y w h;
      asked_is = by_columns f x y w h columns (outwards n first.width first.length here.width here.length x y w h) some (scaled_is f n first.width first.length here.width here.length x y w h at.width at.length width long);
      placed = record { level = l; columns = λ i less. omega (arith, less, right); rows = λ j less. omega (arith, less, bottom) };
    }

pub asked : (f : List ℕ) (x y w h : ℕ) (p : Pick) → IsClean f → is_outside f (Window x y w h p) ≡ false → IsAsked f (Window x y w h p)
asked f x y w h (pick.Level n) clean inside = asked_of_level f x y w h n clean inside
asked f x y w h (pick.Columns columns) clean inside = asked_by_columns f x y w h columns clean inside

-- ---- the bytes of its tiles

-- no fault of the window stands, of its directories or its own
pub record IsClear (f : List ℕ) (q : Query) : Type 0 where
  pub directories : IsClean f
  pub own : (fault : FileFault) → IsFaultOfWindow f q fault → ⊥

pub clear : (f : List ℕ) (x y w h : ℕ) (p : Pick) → ((fault : FileFault) → IsFaulty f (Window x y w h p) fault → ⊥) → IsClear f (Window x y w h p)
unfolding IsFaulty
clear f x y w h p sound = record { directories = λ fault bad. sound fault (inl bad); own = λ fault bad. sound fault (inr bad) }

not_true : (b : Bool) → (b ≡ true → ⊥) → b ≡ false
not_true true h = absurd (h refl)
not_true false h = refl

pub not_outside : (f : List ℕ) (q : Query) → IsClear f q → is_outside f q ≡ false
not_outside f q c = not_true (is_outside f q) (c.own Outside)

not_refused : (f : List ℕ) (q : Query) → IsClear f q → is_refused f q ≡ false
not_refused f q c =
    let outside = not_outside f q c in
    let large : is_too_large f q ≡ false = not_true (is_too_large f q) (c.own TooLarge) in
    rw (outside, large) refl

needed_inside : (f : List ℕ) (q : Query) (r : Extent) → IsClear f q → In r (array_ranges f q ++ flat_map option_to_list (tile_ranges f q)) → r.first + r.len ≤ length f
needed_inside f q r c there = ends_inside f r (none_of_any (ends_past f) (array_ranges f q ++ flat_map option_to_list (tile_ranges f q)) r (c.own PastEnd) there)

pub tiles_are : (f : List ℕ) (q : Query) (c : IsClear f q) (a : IsAsked f q) → window_tiles f q ≡ tiles_in (layout_of_level f a.asked.level a.placed.level).grid a.asked
unfolding window_tiles
tiles_are f q c a = rw (not_refused f q c, a.asked_is, grid_there f a.asked.level a.placed.level) refl

tile_ranges_are : (f : List ℕ) (q : Query) (a : IsAsked f q) → tile_ranges f q ≡ map (tile_range f a.asked.level) (window_tiles f q)
unfolding tile_ranges
tile_ranges_are f q a = rw a.asked_is refl

arrays_are : (f : List ℕ) (q : Query) (c : IsClear f q) (a : IsAsked f q) → array_ranges f q ≡ option_to_list (array_range f a.asked.level TILE_OFFSETS) ++ option_to_list (array_range f a.asked.level TILE_BYTE_COUNTS)
unfolding array_ranges
arrays_are f q c a = rw (not_refused f q c, a.asked_is) refl

in_ranges : (range : ℕ → Option Extent) (t : ℕ) (r : Extent) (ts : List ℕ) → In t ts → range t ≡ Some r → In r (flat_map option_to_list (map range ts))
in_ranges range t r [] there is = absurd there
in_ranges range t r (u ∷ ts) (inl same) is = rw (ap range (sym same) ∙ is) (inl refl)
in_ranges range t r (u ∷ ts) (inr there) is = in_right r (option_to_list (range u)) (flat_map option_to_list (map range ts)) (in_ranges range t r ts there is)

pub arrays_inside : (f : List ℕ) (q : Query) (r : Extent) (c : IsClear f q) (a : IsAsked f q) → In r (option_to_list (array_range f a.asked.level TILE_OFFSETS) ++ option_to_list (array_range f a.asked.level TILE_BYTE_COUNTS)) → r.first + r.len ≤ length f
arrays_inside f q r c a there =
    let here : In r (array_ranges f q) = subst (λ (rs : List Extent). In r rs) (sym (arrays_are f q c a)) there in
    needed_inside f q r c (in_left r (array_ranges f q) (flat_map option_to_list (tile_ranges f q)) here)

pub bytes_inside : (f : List ℕ) (q : Query) (t : ℕ) (r : Extent) (c : IsClear f q) (a : IsAsked f q) → In t (window_tiles f q) → tile_range f a.asked.level t ≡ Some r → r.first + r.len ≤ length f
bytes_inside f q t r c a there is =
    let here : In r (flat_map option_to_list (tile_ranges f q)) = subst (λ rs. In r (flat_map option_to_list rs)) (sym (tile_ranges_are f q a)) (in_ranges (tile_range f a.asked.level) t r (window_tiles f q) there is) in
    needed_inside f q r c (in_right r (array_ranges f q) (flat_map option_to_list (tile_ranges f q)) here)
