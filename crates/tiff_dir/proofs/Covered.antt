-- Each pixel of a rectangle is in a tile of the window.
use Rattle.std.proofs.Common.{◌≡◌, ℕ, suc, ◌+◌, ◌-◌, ◌*◌, ◌/◌, ◌%◌, ◌<◌, ◌≤◌, inl, inr, true, List, [], ◌∷◌, refl, arith}
use Rattle.std.specs.List.{IsAmong}
use Rattle.std.proofs.lemmas.Bool.{lt-ltb}
use Rattle.std.proofs.lemmas.Nat.{div-mul-add, mod-mul-add, mod_below, row_fits, le-div}
use Rattle.tiff_dir.specs.Level.{Grid, across, tile_total}
use Rattle.tiff_dir.specs.Query.{Rectangle, overlap, meets, tiles_in}
use Rattle.tiff_dir.specs.Window.{tile_at}
use Rattle.tiff_dir.proofs.Clean.{In, in_filter}

-- ---- tiles

along : (side tile x : ℕ) → 0 < tile → x < side → x / tile < (side + tile - 1) / tile
along side tile x some less =
    let low : (x / tile) * tile ≤ x = omega (arith) in
    let more : x / tile + 1 ≤ (side + tile - 1) / tile = le-div (x / tile + 1) (side + tile - 1) tile some (omega arith) in
    omega (arith, more)

-- a grid with tiles, and a pixel in it
pub record IsPixelOf (g : Grid) (x y : ℕ) : Type 0 where
  pub wide : 0 < g.tile_width
  pub long : 0 < g.tile_length
  pub column : x < g.width
  pub row : y < g.length

columns_of : (g : Grid) (x y : ℕ) → IsPixelOf g x y → x / g.tile_width < across g
columns_of g x y is = along g.width g.tile_width x is.wide is.column

pub tile_inside : (g : Grid) (x y : ℕ) → IsPixelOf g x y → tile_at g x y < tile_total g
tile_inside g x y is =
    let rows = along g.length g.tile_length y is.long is.row in
    let fits = row_fits (y / g.tile_length) (across g) ((g.length + g.tile_length - 1) / g.tile_length) (across g) rows (omega arith) in
    omega (arith, fits, columns_of g x y is)

tile_column : (g : Grid) (x y : ℕ) → IsPixelOf g x y → tile_at g x y % across g ≡ x / g.tile_width
tile_column g x y is = mod-mul-add (y / g.tile_length) (across g) (x / g.tile_width) (columns_of g x y is)

tile_row : (g : Grid) (x y : ℕ) → IsPixelOf g x y → tile_at g x y / across g ≡ y / g.tile_length
tile_row g x y is = div-mul-add (y / g.tile_length) (across g) (x / g.tile_width) (columns_of g x y is)

overlaps : (tile x left width : ℕ) → 0 < tile → left ≤ x → x < left + width → overlap (x / tile * tile) tile left width ≡ true
overlaps tile x left width some after before =
    let low : x / tile * tile + x % tile ≡ x = omega arith in
    let rest : x % tile < tile = mod_below x tile some in
    rw (lt-ltb (x / tile * tile) (left + width) (omega arith), lt-ltb left (x / tile * tile + tile) (omega arith)) refl

pub meets_pixel : (g : Grid) (r : Rectangle) (x y : ℕ) → IsPixelOf g x y → r.left ≤ x → x < r.left + r.width → r.top ≤ y → y < r.top + r.height → meets g r (tile_at g x y) ≡ true
meets_pixel g r x y is left right top bottom =
    rw (tile_column g x y is, tile_row g x y is, overlaps g.tile_width x r.left r.width is.wide left right, overlaps g.tile_length y r.top r.height is.long top bottom) refl

pub among_in : (x : ℕ) (xs : List ℕ) → In x xs → IsAmong xs x
among_in x [] there = absurd there
among_in x (y ∷ ys) (inl is) = (0, (omega arith, is))
among_in x (y ∷ ys) (inr there) = let (i, (less, is)) = among_in x ys there in (suc i, (omega (arith, less), is))

pub pixel_tile : (g : Grid) (r : Rectangle) (x y : ℕ) → IsPixelOf g x y → r.left ≤ x → x < r.left + r.width → r.top ≤ y → y < r.top + r.height → In (tile_at g x y) (tiles_in g r)
unfolding tiles_in
pixel_tile g r x y is left right top bottom =
    in_filter (meets g r) 0 (tile_total g) (tile_at g x y) (omega arith) (omega (arith, tile_inside g x y is)) (meets_pixel g r x y is left right top bottom)
