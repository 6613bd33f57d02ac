-- The tiles of a rectangle, counted row by row.
use Rattle.std.proofs.Common.{List, subst, length, length-append, append-nil, ◌≡◌, ℕ, zero, suc, ◌+◌, ◌-◌, ◌*◌, ◌/◌, ◌%◌, ◌<◌, ◌≤◌, inl, inr, Bool, true, [], ◌∷◌, ◌++◌, refl, sym, ap, ◌∙◌, arith, map}
use Rattle.std.specs.Prelude.{◌&&◌, nat_lt, nat_le, ◌==◌, IsTrue, cond}
use Rattle.std.specs.List.{IsAmong, filter, range_with_len}
use Rattle.std.proofs.Math.Nat.{mul-le-mul_right, mul-le-mul_left}
use Rattle.std.proofs.lemmas.Bool.{and_parts, cases_Bool, lt-ltb, ltb-true, leb-true, cases_lt, false≢true}
use Rattle.std.proofs.lemmas.Nat.{le-div, div_below, div-add-mod', mul-add-lt, div-mul-add, mod-mul-add}
use Rattle.std.proofs.lemmas.List.{get_or_append_left}
use Rattle.std.proofs.Math.Seq.{get_or-append_seam}
use Rattle.tiff_dir.specs.Window.{tile_at}
use Rattle.std.proofs.lemmas.List.FromFn.{map-range_with_len_more}
use Rattle.tiff_dir.specs.declared.limits.TheConstants.{MAX_TILES}
use Rattle.tiff_dir.specs.Profile.{tiles_along}
use Rattle.tiff_dir.specs.Level.{Grid, across, tile_total}
use Rattle.tiff_dir.specs.declared.level.Level.{Level}
use Rattle.tile_plan.specs.declared.asked.Rectangle.{Rectangle as Window}
use Rattle.tile_plan.specs.Levels.{is_inside, rectangle_of}
use Rattle.tiff_dir.specs.Described.{grid_of}
use Rattle.tiff_dir.specs.Query.{Rectangle, overlap, meets, tiles_in}

-- ---- numbers along a side

pub some_along : (side tile : ℕ) → 0 < side → 0 < tile → 0 < tiles_along side tile
some_along side tile some some_tile = le-div 1 (side + tile - 1) tile some_tile (omega arith)

pub factor_few : (a d m : ℕ) → 0 < d → a * d ≤ m → a ≤ m
factor_few a d m some few = omega (arith, few, mul-le-mul_left a some)

pub last_below : (at len side tile : ℕ) → 0 < len → 0 < tile → at + len ≤ side → (at + len - 1) / tile < tiles_along side tile
last_below at len side tile some some_tile fits =
    let q = (at + len - 1) / tile in
    let low : q * tile ≤ at + len - 1 = omega arith in
    let next : q + 1 ≤ (side + tile - 1) / tile = le-div (q + 1) (side + tile - 1) tile some_tile (omega (arith, low)) in
    omega (arith, next)

pub first_below : (at len tile : ℕ) → 0 < len → 0 < tile → at / tile ≤ (at + len - 1) / tile
first_below at len tile some some_tile =
    let low : at / tile * tile ≤ at = omega arith in
    le-div (at / tile) (at + len - 1) tile some_tile (omega (arith, low))

pub touches : (at len tile i : ℕ) → 0 < len → 0 < tile → at / tile ≤ i → i < at / tile + ((at + len - 1) / tile + 1 - at / tile) → overlap (i * tile) tile at len ≡ true
touches at len tile i some some_tile low high =
    let q = (at + len - 1) / tile in
    let less : i ≤ q = omega (arith, first_below at len tile some some_tile) in
    let end : q * tile ≤ at + len - 1 = omega arith in
    let up : i * tile ≤ q * tile = mul-le-mul_right tile less in
    let down : at / tile * tile ≤ i * tile = mul-le-mul_right tile low in
    let near : at < at / tile * tile + tile = omega arith in
    rw (lt-ltb (i * tile) (at + len) (omega (arith, up, end)), lt-ltb at (i * tile + tile) (omega (arith, down, near))) refl

pub touched : (at len tile i : ℕ) → 0 < len → 0 < tile → overlap (i * tile) tile at len ≡ true → (at / tile ≤ i) × (i < at / tile + ((at + len - 1) / tile + 1 - at / tile))
touched at len tile i some some_tile is =
    let (left, right) = and_parts (nat_lt (i * tile) (at + len)) (nat_lt at (i * tile + tile)) is in
    let before = ltb-true (i * tile) (at + len) left in
    let after = ltb-true at (i * tile + tile) right in
    let up : i ≤ (at + len - 1) / tile = le-div i (at + len - 1) tile some_tile (omega (arith, before)) in
    let down : at / tile < i + 1 = div_below at tile (i + 1) some_tile (omega (arith, after)) in
    (omega (arith, down), omega (arith, up, down))

-- ---- the numbers of a block

pub rising : (A left top C : ℕ) → 0 < C → left + C ≤ A → (a b : ℕ) → a < b → (top + a / C) * A + left + a % C < (top + b / C) * A + left + b % C
rising A left top C some fits a b less =
    let size_a : C * (a / C) + a % C ≡ a = omega arith in
    let size_b : C * (b / C) + b % C ≡ b = omega arith in
    let rest_a : a % C < C = omega arith in
    let rest_b : b % C < C = omega arith in
    elim (cases_lt (a / C) (b / C)) [
      | inl lower ↦ (let up : (top + a / C + 1) * A ≤ (top + b / C) * A = mul-le-mul_right A (omega (arith, lower)) in omega (arith, up, rest_a, fits))
      | inr higher ↦ elim (cases_lt (b / C) (a / C)) [
        | inl more ↦ (let up : C * (b / C + 1) ≤ C * (a / C) = mul-le-mul_left C (omega (arith, more)) in absurd (omega (arith, up, size_a, size_b, rest_b, less)))
        | inr same ↦ (let is : a / C ≡ b / C = omega (arith, higher, same) in rw is (let both : C * (a / C) ≡ C * (b / C) = ap (λ k. C * k) is in omega (arith, size_a, size_b, both, less)))
      ]
    ]

row_of : (A left top C n : ℕ) → 0 < C → left + C ≤ A → ((top + n / C) * A + left + n % C) / A ≡ top + n / C
row_of A left top C n some fits =
    let rest : n % C < C = omega arith in
    let place : (top + n / C) * A + left + n % C ≡ (top + n / C) * A + (left + n % C) = omega arith in
    ap (λ k. k / A) place ∙ div-mul-add (top + n / C) A (left + n % C) (omega (arith, rest))

column_of : (A left top C n : ℕ) → 0 < C → left + C ≤ A → ((top + n / C) * A + left + n % C) % A ≡ left + n % C
column_of A left top C n some fits =
    let rest : n % C < C = omega arith in
    let place : (top + n / C) * A + left + n % C ≡ (top + n / C) * A + (left + n % C) = omega arith in
    ap (λ k. k % A) place ∙ mod-mul-add (top + n / C) A (left + n % C) (omega (arith, rest))

pub below_total : (A left top C R D n : ℕ) → 0 < C → left + C ≤ A → top + R ≤ D → n < C * R → (top + n / C) * A + left + n % C < A * D
below_total A left top C R D n some fits rows less =
    let row : n / C < R = div_below n C R some (omega (arith, less)) in
    let rest : n % C < C = omega arith in
    let up : (top + n / C + 1) * A ≤ D * A = mul-le-mul_right A (omega (arith, row)) in
    omega (arith, up, rest)

-- ---- the numbers that pass are those that are counted

filter_more : (p : ℕ → Bool) (a n : ℕ) → filter p (range_with_len a (suc n)) ≡ filter p (range_with_len a n) ++ cond (p (a + n)) ((a + n) ∷ []) []
filter_more p a zero = (let here : a + 0 ≡ a = omega arith in elim (cases_Bool (p a)) [ inl h ↦ rw (here, h) refl | inr h ↦ rw (here, h) refl ])
filter_more p a (suc n) =
    let here : a + 1 + n ≡ a + suc n = omega arith in
    let rest = filter_more p (a + 1) n ∙ ap (λ k. filter p (range_with_len (a + 1) n) ++ cond (p k) (k ∷ []) []) here in
    elim (cases_Bool (p a)) [ inl h ↦ rw h (ap (λ l. a ∷ l) rest) | inr h ↦ rw h rest ]

pub counted_all : (e : ℕ → ℕ) (m : ℕ) → map e (range_with_len 0 m) ++ e m ∷ [] ≡ map e (range_with_len 0 (m + 1))
counted_all e m = sym (map-range_with_len_more e 0 m m (omega arith))

-- Numbers below N that pass, in ascending order, are the first M values of a rising function with an inverse.
pub counted : (p : ℕ → Bool) (e inverse : ℕ → ℕ) → ((a b : ℕ) → a < b → e a < e b) → (N M : ℕ) → ((n : ℕ) → n < M → (e n < N) × (p (e n) ≡ true))
    → ((t : ℕ) → t < N → p t ≡ true → (inverse t < M) × (e (inverse t) ≡ t)) → filter p (range_with_len 0 N) ≡ map e (range_with_len 0 M)
counted p e inverse up zero zero each all = refl
counted p e inverse up zero (suc M) each all = absurd (omega (arith, (each 0 (omega arith)).0))
counted p e inverse up (suc N) M each all =
    let here : 0 + N ≡ N = omega arith in
    let more = filter_more p 0 N ∙ ap (λ k. filter p (range_with_len 0 N) ++ cond (p k) (k ∷ []) []) here in
    elim (cases_Bool (p N)) [
      | inl h ↦ (
          let m = inverse N in
          let last = all N (omega arith) h in
          let top : M ≡ m + 1 = elim (cases_lt (m + 1) M) [
            | inl less ↦ (let next = (each (m + 1) less).0 in let higher = up m (m + 1) (omega arith) in absurd (omega (arith, next, higher, last.1)))
            | inr fits ↦ omega (arith, fits, last.0)
          ] in
          let before = counted p e inverse up N m
          (λ n less. (let higher = up n m less in omega (arith, higher, last.1), (each n (omega (arith, less, last.0))).1))
          (λ t less passes. let found = all t (omega (arith, less)) passes in (
            elim (cases_lt (inverse t) m) [ inl lower ↦ lower | inr same ↦ (let is : inverse t ≡ m = omega (arith, same, found.0, top) in absurd (omega (arith, less, found.1, ap e is, last.1))) ],
            found.1,
          )) in
          more ∙ ap (λ b. filter p (range_with_len 0 N) ++ cond b (N ∷ []) []) h ∙ ap (λ l. l ++ N ∷ []) before ∙ ap (λ k. map e (range_with_len 0 m) ++ k ∷ []) (sym last.1)
          ∙ counted_all e m ∙ ap (λ k. map e (range_with_len 0 k)) (sym top)
          )
      | inr h ↦ (
          let before = counted p e inverse up N M
          (λ n less. (
            elim (cases_lt (e n) N) [ inl lower ↦ lower | inr same ↦ (let is : e n ≡ N = omega (arith, same, (each n less).0) in absurd (false≢true (sym h ∙ ap p (sym is) ∙ (each n less).1))) ],
            (each n less).1,
          ))
          (λ t less passes. all t (omega (arith, less)) passes) in
          more ∙ ap (λ b. filter p (range_with_len 0 N) ++ cond b (N ∷ []) []) h ∙ append-nil (filter p (range_with_len 0 N)) ∙ before
          )
    ]

-- a number of a stretch is in the tile that it lies in
shares : (at len tile x : ℕ) → 0 < tile → at ≤ x → x < at + len → overlap (x / tile * tile) tile at len ≡ true
shares at len tile x some low high =
    let down : x / tile * tile ≤ x = omega arith in
    let up : x < x / tile * tile + tile = omega arith in
    rw (lt-ltb (x / tile * tile) (at + len) (omega (arith, down)), lt-ltb at (x / tile * tile + tile) (omega (arith, up))) refl

both_true : (a b : Bool) → a ≡ true → b ≡ true → (a && b) ≡ true
both_true a b x y = rw (x, y) refl

meets_at : (g : Grid) (r : Rectangle) (t i j : ℕ) → t % across g ≡ i → t / across g ≡ j → overlap (i * g.tile_width) g.tile_width r.left r.width ≡ true
    → overlap (j * g.tile_length) g.tile_length r.top r.height ≡ true → meets g r t ≡ true
meets_at g r t i j column row wide tall =
    both_true (overlap ((t % across g) * g.tile_width) g.tile_width r.left r.width) (overlap ((t / across g) * g.tile_length) g.tile_length r.top r.height)
    (ap (λ k. overlap (k * g.tile_width) g.tile_width r.left r.width) column ∙ wide) (ap (λ k. overlap (k * g.tile_length) g.tile_length r.top r.height) row ∙ tall)

-- the number of column i and row j, counted and numbered
numbered : (A left top C i j : ℕ) → 0 < C → left ≤ i → i < left + C → top ≤ j
    → (top + ((j - top) * C + (i - left)) / C) * A + left + ((j - top) * C + (i - left)) % C ≡ j * A + i
numbered A left top C i j some low high above =
    let rest : i - left < C = omega arith in
    let row : ((j - top) * C + (i - left)) / C ≡ j - top = div-mul-add (j - top) C (i - left) rest in
    let column : ((j - top) * C + (i - left)) % C ≡ i - left = mod-mul-add (j - top) C (i - left) rest in
    let here : top + (j - top) ≡ j = omega arith in
    rw (row, column, here) (omega (arith, low))

-- how many tiles along a side have one of the pixels from at
abbrev pub count_touched : ℕ → ℕ → ℕ → ℕ
count_touched at len tile = (at + len - 1) / tile + 1 - at / tile

-- columns and rows of tiles that have a pixel of the rectangle
pub record IsBlock (g : Grid) (r : Rectangle) (left top C R : ℕ) : Type 0 where
  pub left_is : left ≡ r.left / g.tile_width
  pub top_is : top ≡ r.top / g.tile_length
  pub columns : C ≡ count_touched r.left r.width g.tile_width
  pub rows : R ≡ count_touched r.top r.height g.tile_length

-- the rectangle isn't empty, and lies in the grid
pub record IsIn (g : Grid) (r : Rectangle) : Type 0 where
  pub tile_wide : 0 < g.tile_width
  pub tile_tall : 0 < g.tile_length
  pub wide : 0 < r.width
  pub tall : 0 < r.height
  pub fits_x : r.left + r.width ≤ g.width
  pub fits_y : r.top + r.height ≤ g.length

pub record HasRoom (A D left top C R : ℕ) : Type 0 where
  pub some : 0 < C
  pub more : 0 < R
  pub wide : left + C ≤ A
  pub tall : top + R ≤ D

pub block_room : (g : Grid) (r : Rectangle) (left top C R : ℕ) → IsIn g r → IsBlock g r left top C R → HasRoom (across g) (tiles_along g.length g.tile_length) left top C R
block_room g r left top C R here is =
    let x = first_below r.left r.width g.tile_width here.wide here.tile_wide in
    let y = first_below r.top r.height g.tile_length here.tall here.tile_tall in
    record {
      some = omega (arith, x, is.columns);
      more = omega (arith, y, is.rows);
      wide = omega (arith, x, is.columns, is.left_is, last_below r.left r.width g.width g.tile_width here.wide here.tile_wide here.fits_x);
      tall = omega (arith, y, is.rows, is.top_is, last_below r.top r.height g.length g.tile_length here.tall here.tile_tall here.fits_y);
    }

-- The block's numbers are the tiles that have a pixel of the rectangle.
pub block_tiles : (g : Grid) (r : Rectangle) (left top C R : ℕ) → IsIn g r → IsBlock g r left top C R
    → map (λ n. (top + n / C) * across g + left + n % C) (range_with_len 0 (C * R)) ≡ tiles_in g r
unfolding tiles_in
block_tiles g r left top C R here is =
    let A = across g in
    let D = tiles_along g.length g.tile_length in
    let room = block_room g r left top C R here is in
    let some : 0 < C = room.some in
    let wide : left + C ≤ A = room.wide in
    sym (counted (meets g r) (λ n. (top + n / C) * A + left + n % C) (λ t. (t / A - top) * C + (t % A - left)) (λ a b less. rising A left top C some wide a b less) (tile_total g) (C * R)
    (λ n less. (
      below_total A left top C R D n some wide room.tall less,
      (let rest : n % C < C = omega arith in
          let row : n / C < R = div_below n C R some (omega (arith, less)) in
          meets_at g r ((top + n / C) * A + left + n % C) (left + n % C) (top + n / C) (column_of A left top C n some wide) (row_of A left top C n some wide)
          (touches r.left r.width g.tile_width (left + n % C) here.wide here.tile_wide (omega (arith, is.left_is)) (omega (arith, rest, is.left_is, is.columns)))
          (touches r.top r.height g.tile_length (top + n / C) here.tall here.tile_tall (omega (arith, is.top_is)) (omega (arith, row, is.top_is, is.rows)))),
    ))
    (λ t less passes. (
    let parts = and_parts (overlap ((t % A) * g.tile_width) g.tile_width r.left r.width) (overlap ((t / A) * g.tile_length) g.tile_length r.top r.height) passes in
    let column = touched r.left r.width g.tile_width (t % A) here.wide here.tile_wide parts.0 in
    let row = touched r.top r.height g.tile_length (t / A) here.tall here.tile_tall parts.1 in
    let whole : t / A * A + t % A ≡ t = div-add-mod' t A in
    let low : left ≤ t % A = omega (arith, column.0, is.left_is) in
    let high : t % A < left + C = omega (arith, column.1, is.left_is, is.columns) in
    let above : top ≤ t / A = omega (arith, row.0, is.top_is) in (
      mul-add-lt (t / A - top) C (t % A - left) R (omega (arith, row.1, is.top_is, is.rows, above)) (omega (arith, low, high)),
      numbered A left top C (t % A) (t / A) some low high above ∙ whole,
    )
    )))

-- ---- a rectangle of a level

-- a tile has a side
pub sides : (l : Level) → (0 < l.tile_width) × (0 < l.tile_length)
sides l =
    let (wide, _) = and_parts (nat_lt 0 l.tile_width) (l.tile_width % 16 == 0) l.tile_sides.0 in
    let (tall, _) = and_parts (nat_lt 0 l.tile_length) (l.tile_length % 16 == 0) l.tile_sides.1 in
    (ltb-true 0 l.tile_width wide, ltb-true 0 l.tile_length tall)

pub in_level : (l : Level) (r : Window) → IsTrue (is_inside l r.x r.y r.w r.h) → IsIn (grid_of l) (rectangle_of r)
in_level l r inside =
    let (some, fits) = and_parts (nat_lt 0 r.w && nat_lt 0 r.h) (nat_le (r.x + r.w) l.width && nat_le (r.y + r.h) l.length) inside in
    let (wide, tall) = and_parts (nat_lt 0 r.w) (nat_lt 0 r.h) some in
    let (fits_x, fits_y) = and_parts (nat_le (r.x + r.w) l.width) (nat_le (r.y + r.h) l.length) fits in
    record {
      tile_wide = (sides l).0;
      tile_tall = (sides l).1;
      wide = ltb-true 0 r.w wide;
      tall = ltb-true 0 r.h tall;
      fits_x = leb-true (r.x + r.w) l.width fits_x;
      fits_y = leb-true (r.y + r.h) l.length fits_y;
    }

-- the last row's tiles are few
pub block_few : (l : Level) (top R : ℕ) → top + R ≤ tiles_along l.length l.tile_length → (top + R) * tiles_along l.width l.tile_width ≤ MAX_TILES
block_few l top R tall = omega (arith, l.tiles, mul-le-mul_right (tiles_along l.width l.tile_width) tall)

-- ---- the tile of a pixel

among_front : (xs ys : List ℕ) (t : ℕ) → IsAmong xs t → IsAmong (xs ++ ys) t
among_front xs ys t (i, (less, is)) = (i, (omega (arith, less, length-append xs ys), is ∙ sym (get_or_append_left xs ys t i less)))

among_last : (xs : List ℕ) (t : ℕ) → IsAmong (xs ++ t ∷ []) t
among_last xs t = (length xs, (omega (arith, length-append xs (t ∷ [])), sym (get_or-append_seam xs t [] t)))

among_filter : (p : ℕ → Bool) (n t : ℕ) → t < n → p t ≡ true → IsAmong (filter p (range_with_len 0 n)) t
among_filter p zero t less passes = absurd (omega (arith, less))
among_filter p (suc n) t less passes =
    let here : 0 + n ≡ n = omega arith in
    let more = filter_more p 0 n ∙ ap (λ k. filter p (range_with_len 0 n) ++ cond (p k) (k ∷ []) []) here in
    subst (λ l. IsAmong l t) (sym more) (elim (cases_lt t n) [
      | inl below ↦ among_front (filter p (range_with_len 0 n)) (cond (p n) (n ∷ []) []) t (among_filter p n t below passes)
      | inr last ↦ (
          let is : t ≡ n = omega (arith, less, last) in
          subst (λ b. IsAmong (filter p (range_with_len 0 n) ++ cond b (n ∷ []) []) t) (sym (ap p (sym is) ∙ passes))
          (subst (λ k. IsAmong (filter p (range_with_len 0 n) ++ k ∷ []) t) is (among_last (filter p (range_with_len 0 n)) t))
          )
    ])

-- it is one of the rectangle's
pub tile_among : (g : Grid) (r : Rectangle) (i j : ℕ) → IsIn g r → i < r.width → j < r.height → IsAmong (tiles_in g r) (tile_at g (r.left + i) (r.top + j))
unfolding tiles_in
tile_among g r i j here wide tall =
    let X = r.left + i in
    let Y = r.top + j in
    let A = across g in
    let one : X + 1 - 1 ≡ X = omega arith in
    let row_one : Y + 1 - 1 ≡ Y = omega arith in
    let column : X / g.tile_width < A = omega (arith, last_below X 1 g.width g.tile_width (omega arith) here.tile_wide (omega (arith, wide, here.fits_x)), ap (λ k. k / g.tile_width) one) in
    let row : Y / g.tile_length < tiles_along g.length g.tile_length =
    omega (arith, last_below Y 1 g.length g.tile_length (omega arith) here.tile_tall (omega (arith, tall, here.fits_y)), ap (λ k. k / g.tile_length) row_one) in
    let total : Y / g.tile_length * A + X / g.tile_width < A * tiles_along g.length g.tile_length = mul-add-lt (Y / g.tile_length) A (X / g.tile_width) (tiles_along g.length g.tile_length) row column in
    among_filter (meets g r) (tile_total g) (tile_at g X Y) total
    (meets_at g r (tile_at g X Y) (X / g.tile_width) (Y / g.tile_length) (mod-mul-add (Y / g.tile_length) A (X / g.tile_width) column) (div-mul-add (Y / g.tile_length) A (X / g.tile_width) column)
    (shares r.left r.width g.tile_width X here.tile_wide (omega arith) (omega (arith, wide)))
    (shares r.top r.height g.tile_length Y here.tile_tall (omega arith) (omega (arith, tall))))
