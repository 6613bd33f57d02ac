-- The tiles of a level, and its rows of samples.
use Rattle.std.proofs.Common.{◌≡◌, None, ◌<◌, ◌≤◌, ◌+◌, ◌-◌, ◌*◌, ◌/◌, ◌%◌, ◌∙◌, ℕ, zero, suc, inl, inr, List, [], ◌∷◌, ◌++◌, length, get_or, slice_get, Option, Some, IsTrue, MatchOption, refl, sym, ap, subst, arith, below_more, length-append}
use Rattle.std.specs.Global.{Vec}
use Rattle.std.proofs.Math.ListN.{get_or-append}
use Rattle.std.proofs.Math.Nat.{div-lt_iff_lt-mul}
use Rattle.std.proofs.Math.Seq.{get_or-append_seam}
use Rattle.std.proofs.lemmas.Option.{slice_get-get_or, slice_get_cases}
use Rattle.std.proofs.lemmas.Nat.{le-div, row_fits}
use Rattle.tiff_dir.specs.Level.{Grid, Layout, across, level_directories, tile_total}
use Rattle.reference_support.specs.Info.{HasNoSides, sides_of}
use Rattle.tiff_dir.specs.Window.{tile_at}
use Rattle.reference_support.specs.Missing.{HasNoSample}
use Rattle.reference_support.specs.Modest.{is_modest_grid, modest_level}
use Rattle.reference_support.specs.Tile.{AreTiles, HasNoRow, HasNoRows, HasNoTile, IsRow, IsTile}
use Rattle.reference_support.proofs.SampleLemmas.{modest_same}

-- ---- lists

-- what holds of each item and of one more at the end
each_last : {A : Type 0} (P : ℕ → A → Type 0) (xs : List A) (x : A) → ((t : ℕ) (o : A) → slice_get xs t ≡ Some o → P t o) → P (length xs) x
    → (t : ℕ) (o : A) → slice_get (xs ++ x ∷ []) t ≡ Some o → P t o
each_last P [] x all last zero o is = let same : x ≡ o = cc in subst (λ a. P 0 a) same last
each_last P [] x all last (suc t) o is = absurd (cc)
each_last P (a ∷ xs) x all last zero o is = all 0 o is
each_last P (a ∷ xs) x all last (suc t) o is = each_last (λ k b. P (suc k) b) xs x (λ k b there. all (suc k) b there) last t o is

-- the same in the words of a loop
pub each_pushed : {A : Type 0} (P : ℕ → A → Type 0) (xs ys : List A) (x : A) (n : ℕ) → length xs ≡ n → ys ≡ xs ++ x ∷ []
    → ((t : ℕ) (o : A) → slice_get xs t ≡ Some o → P t o) → P n x → (t : ℕ) (o : A) → slice_get ys t ≡ Some o → P t o
each_pushed P xs ys x n len more all last t o is =
    each_last P xs x all (subst (λ k. P k x) (sym len) last) t o (subst (λ zs. slice_get zs t ≡ Some o) more is)

pub length_pushed : {A : Type 0} (xs ys : List A) (x : A) (n : ℕ) → length xs ≡ n → ys ≡ xs ++ x ∷ [] → length ys ≡ n + 1
length_pushed xs ys x n len more = ap length more ∙ length-append xs (x ∷ []) ∙ ap (λ k. k + 1) len

-- numbers by their index
pub numbers_pushed : (P : ℕ → ℕ → Type 0) (xs ys : List ℕ) (v n : ℕ) → length xs ≡ n → ys ≡ xs ++ v ∷ []
    → ((j : ℕ) → j < length xs → P j (get_or xs j 0)) → P n v → (j : ℕ) → j < length ys → P j (get_or ys j 0)
numbers_pushed P xs ys v n len more all last j inside =
    let old : (k : ℕ) → k < length xs → P k (get_or ys k 0) = λ k below.
    subst (P k) (sym (ap (λ zs. get_or zs k 0) more ∙ get_or-append xs (v ∷ []) 0 k below)) (all k below) in
    let seam : get_or ys (length xs) 0 ≡ v = ap (λ zs. get_or zs (length xs) 0) more ∙ get_or-append_seam xs v [] 0 in
    let here : P (length xs) (get_or ys (length xs) 0) =
    subst (P (length xs)) (sym seam) (subst (λ k. P k v) (sym len) last) in
    let size : length ys ≡ length xs + 1 = length_pushed xs ys v (length xs) refl more in
    below_more (λ k. P k (get_or ys k 0)) (length xs) old here j (omega (arith, inside, size))

-- ---- tiles

-- what is known of a tile that was looked up
pub tile_read : (f : List ℕ) (n : ℕ) (l : Layout) (total : ℕ) (tiles : List (Option (Vec ℕ))) → AreTiles f n l total tiles → (t : ℕ) (o : Option (Vec ℕ))
    → t < length tiles → o ≡ get_or tiles t o → MatchOption o (HasNoTile f n l t) (λ plain. IsTile f n l t plain.items)
tile_read f n l total tiles are t o inside is = are.each t o (slice_get-get_or tiles t o inside ∙ ap Some (sym is))

-- and of one that is there
pub tile_there : (f : List ℕ) (n : ℕ) (l : Layout) (total : ℕ) (tiles : List (Option (Vec ℕ))) → AreTiles f n l total tiles → (t : ℕ) (o : Option (Vec ℕ)) (plain : Vec ℕ)
    → t < length tiles → o ≡ get_or tiles t o → o ≡ Some plain → IsTile f n l t plain.items
tile_there f n l total tiles are t o plain inside is there =
    subst (λ m. MatchOption m (HasNoTile f n l t) (λ (p : Vec ℕ). IsTile f n l t p.items)) there (tile_read f n l total tiles are t o inside is)

along : (side tile x : ℕ) → 0 < tile → x < side → x / tile < (side + tile - 1) / tile
along side tile x some less =
    let low : (x / tile) * tile ≤ x = omega (arith) in
    let more : x / tile + 1 ≤ (side + tile - 1) / tile = le-div (x / tile + 1) (side + tile - 1) tile some (omega arith) in
    omega (arith, more)

-- a pixel of the level is in one of its tiles
pub tile_inside : (g : Grid) (x y : ℕ) → IsTrue (is_modest_grid g) → x < g.width → y < g.length → tile_at g x y < tile_total g
tile_inside g x y modest column row =
    let wide : 0 < g.tile_width = grind (arith, modest) in
    let long : 0 < g.tile_length = grind (arith, modest) in
    let rows = along g.length g.tile_length y long row in
    let columns = along g.width g.tile_width x wide column in
    let fits = row_fits (y / g.tile_length) (across g) ((g.length + g.tile_length - 1) / g.tile_length) (across g) rows (omega arith) in
    omega (arith, fits, columns)

-- ---- rows

pub column_inside : (i width samples : ℕ) → i < width * samples → i / samples < width
column_inside i width zero less = absurd (omega (arith, less))
column_inside i width (suc k) less = (div-lt_iff_lt-mul {k = suc k} {x = i} {y = width} (omega arith)).1 less

-- no row where there is no sample of it
pub no_row : (f : List ℕ) (n : ℕ) (l : Layout) (y i : ℕ) → i < l.grid.width * l.samples → HasNoSample f n (i / l.samples) y (i % l.samples) → HasNoRow f n l y
no_row f n l y i inside none row is = none (get_or row i 0) (is.each i (omega (arith, inside, is.size)))

-- no rows where there is no row
pub no_rows : (f : List ℕ) (n : ℕ) (l : Layout) (y : ℕ) → modest_level f n ≡ Some l → y < l.grid.length → HasNoRow f n l y → HasNoRows f n
no_rows f n l y modest inside none rows are =
    let level : are.layout ≡ l = modest_same f n l are.layout modest are.layout_is in
    let same : are.layout.grid.length ≡ l.grid.length = ap (λ (m : Layout). m.grid.length) level in
    let there : y < length rows = omega (arith, are.count, same, inside) in
    elim (slice_get_cases rows y).1 [
      | inl found ↦ none found.0.items (subst (λ (m : Layout). IsRow f n m y found.0.items) level (are.each y found.0 found.2))
      | inr past ↦ omega (arith, past.0, there)
    ]

-- ---- sides of levels

-- no list of sides where a level has none
pub no_sides : (f : List ℕ) (n : ℕ) → sides_of f n ≡ None → n < length (level_directories f) → HasNoSides f
no_sides f n none inside sides are =
    let there : n < length sides = omega (arith, are.count, inside) in
    elim (slice_get_cases sides n).1 [
      | inl found ↦ (let is = are.each n found.0 found.2 in cc)
      | inr past ↦ omega (arith, past.0, there)
    ]
