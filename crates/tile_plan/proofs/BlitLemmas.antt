-- Where the pixels of a tile stand in a picture.
use Rattle.std.proofs.Common.{◌≡◌, ℕ, ◌+◌, ◌-◌, ◌*◌, ◌/◌, ◌%◌, ◌<◌, ◌≤◌, inl, inr, List, get_or, max, min, refl, sym, ap, ◌∙◌, arith}
use Rattle.std.proofs.Math.Nat.{mul-le-mul_right}
use Rattle.std.proofs.lemmas.Bool.{cases_lt}
use Rattle.std.proofs.lemmas.Nat.{div-mul-add, mod-mul-add, div-add-mod', same_from_place}
use Rattle.tiff_dir.specs.declared.level.Level.{Level}
use Rattle.tiff_dir.specs.Profile.{tiles_along, sample_bytes}
use Rattle.tiff_dir.specs.Level.{plain_size}
use Rattle.tiff_dir.specs.Described.{grid_of, layout_of}
use Rattle.tiff_dir.specs.Window.{tile_at}
use Rattle.std.specs.Prelude.{IsTrue}
use Rattle.tile_plan.specs.Levels.{is_inside}
use Rattle.tile_plan.specs.declared.asked.Rectangle.{Rectangle}
use Rattle.tile_plan.specs.declared.rows.Rows.{Rows}
use Rattle.tile_plan.specs.Rows.{AreCopied}
use Rattle.tile_plan.specs.Canvas.{Picture, IsBlit, pixel_bytes, place}
use Rattle.tile_plan.proofs.BlockLemmas.{last_below, in_level}

-- ---- numbers

-- byte b of pixel a + i of row r + n, from pixel a of row r
moved : (r n side a i pixel b : ℕ) → (r * side + a) * pixel + n * (side * pixel) + (i * pixel + b) ≡ ((r + n) * side + (a + i)) * pixel + b
moved r n side a i pixel b = omega arith

-- a row ends in the picture
row_end : (r a side rows pixel : ℕ) → r < rows → a ≤ side → (r * side + a) * pixel ≤ side * rows * pixel
row_end r a side rows pixel less fits =
    let up : (r + 1) * side ≤ rows * side = mul-le-mul_right side (omega (arith, less)) in
    let here : r * side + a ≤ side * rows = omega (arith, up, fits) in
    mul-le-mul_right pixel here

pixel_below : (i b columns pixel : ℕ) → i < columns → b < pixel → i * pixel + b < columns * pixel
pixel_below i b columns pixel less inside =
    let up : (i + 1) * pixel ≤ columns * pixel = mul-le-mul_right pixel (omega (arith, less)) in
    omega (arith, up, inside)

pixel_from : (i b a pixel : ℕ) → b < pixel → a * pixel ≤ i * pixel + b → a ≤ i
pixel_from i b a pixel inside more = elim (cases_lt i a) [
  | inl less ↦ absurd (omega (arith, pixel_below i b a pixel less inside, more))
  | inr above ↦ above
]

pixel_until : (i b a pixel : ℕ) → i * pixel + b < a * pixel → i < a
pixel_until i b a pixel less = elim (cases_lt i a) [
  | inl below ↦ below
  | inr above ↦ (let up : a * pixel ≤ i * pixel = mul-le-mul_right pixel above in absurd (omega (arith, up, less)))
]

-- ---- a pixel's tile

in_tile : (x side t : ℕ) → 0 < side → x / side ≡ t → (t * side ≤ x) × (x < t * side + side) × (x % side ≡ x - t * side)
in_tile x side t some is =
    let whole : x / side * side + x % side ≡ x = div-add-mod' x side in
    let rest : x % side < side = omega arith in
    let same : x / side * side ≡ t * side = ap (λ k. k * side) is in
    (omega (arith, whole, same), omega (arith, whole, same, rest), omega (arith, whole, same))

tile_of_place : (x side t : ℕ) → t * side ≤ x → x < t * side + side → x / side ≡ t
tile_of_place x side t low high =
    let place : x ≡ t * side + (x - t * side) = omega (arith, low) in
    ap (λ k. k / side) place ∙ div-mul-add t side (x - t * side) (omega (arith, low, high))

-- ---- what a tile and a rectangle have in common

pub record Cut (W H X0 Y0 TW TL x y left right top bottom : ℕ) : Type 0 where
  pub left_is : left ≡ max X0 x
  pub right_is : right ≡ min (X0 + W) (x + TW)
  pub top_is : top ≡ max Y0 y
  pub bottom_is : bottom ≡ min (Y0 + H) (y + TL)

pub cut_of : (W H X0 Y0 TW TL : ℕ) {x y left right top bottom : ℕ} → left ≡ max X0 x → right ≡ min (X0 + W) (x + TW) → top ≡ max Y0 y → bottom ≡ min (Y0 + H) (y + TL) → Cut W H X0 Y0 TW TL x y left right top bottom
cut_of W H X0 Y0 TW TL left_is right_is top_is bottom_is = record { left_is = left_is; right_is = right_is; top_is = top_is; bottom_is = bottom_is }

-- the rows end in the tile, and in the picture
pub rows_read : {W H X0 Y0 TW TL x y left right top bottom : ℕ} (pixel n : ℕ) → Cut W H X0 Y0 TW TL x y left right top bottom → left < right → n < bottom - top
    → ((top - y) * TW + (left - x)) * pixel + n * (TW * pixel) + (right - left) * pixel ≤ TW * TL * pixel
rows_read {W} {H} {X0} {Y0} {TW} {TL} {x} {y} {left} {right} {top} {bottom} pixel n cut some less =
    let end = row_end (top - y + n) (right - x) TW TL pixel (omega (arith, cut.top_is, cut.bottom_is)) (omega (arith, cut.right_is)) in
    let across : left - x + (right - left) ≡ right - x = omega (arith, cut.left_is) in
    let place = moved (top - y) n TW (left - x) (right - left) pixel 0 ∙ ap (λ k. ((top - y + n) * TW + k) * pixel + 0) across in
    omega (arith, end, place)

pub rows_written : {W H X0 Y0 TW TL x y left right top bottom : ℕ} (pixel n : ℕ) → Cut W H X0 Y0 TW TL x y left right top bottom → left < right → n < bottom - top
    → ((top - Y0) * W + (left - X0)) * pixel + n * (W * pixel) + (right - left) * pixel ≤ W * H * pixel
rows_written {W} {H} {X0} {Y0} {TW} {TL} {x} {y} {left} {right} {top} {bottom} pixel n cut some less =
    let end = row_end (top - Y0 + n) (right - X0) W H pixel (omega (arith, cut.top_is, cut.bottom_is)) (omega (arith, cut.right_is)) in
    let across : left - X0 + (right - left) ≡ right - X0 = omega (arith, cut.left_is) in
    let place = moved (top - Y0) n W (left - X0) (right - left) pixel 0 ∙ ap (λ k. ((top - Y0 + n) * W + k) * pixel + 0) across in
    omega (arith, end, place)

-- and the products of their places are small
pub read_fits : {W H X0 Y0 TW TL x y left right top bottom : ℕ} (pixel : ℕ) → Cut W H X0 Y0 TW TL x y left right top bottom → top < bottom → ((top - y) * TW + TW) * pixel ≤ TW * TL * pixel
read_fits {W} {H} {X0} {Y0} {TW} {TL} {x} {y} {left} {right} {top} {bottom} pixel cut some = row_end (top - y) TW TW TL pixel (omega (arith, cut.top_is, cut.bottom_is)) (omega arith)

pub written_fits : {W H X0 Y0 TW TL x y left right top bottom : ℕ} (pixel : ℕ) → Cut W H X0 Y0 TW TL x y left right top bottom → top < bottom → ((top - Y0) * W + W) * pixel ≤ W * H * pixel
written_fits {W} {H} {X0} {Y0} {TW} {TL} {x} {y} {left} {right} {top} {bottom} pixel cut some = row_end (top - Y0) W W H pixel (omega (arith, cut.top_is, cut.bottom_is)) (omega arith)

-- the bytes of a tile
pub tile_size : (l : Level) (pixel : ℕ) → pixel ≡ pixel_bytes l → l.tile_width * l.tile_length * pixel ≡ plain_size (layout_of l)
tile_size l pixel size = ap (λ k. l.tile_width * l.tile_length * k) size ∙ same l.tile_width l.tile_length l.samples (sample_bytes l.bits) where
  same : (a b c d : ℕ) → a * b * (c * d) ≡ a * b * c * d
  same a b c d = omega arith

-- the pixel of the picture in column i and row j, as one of the rows that are copied
pub written_place : (W H X0 Y0 TW TL x y left right top bottom pixel i j b : ℕ) → Cut W H X0 Y0 TW TL x y left right top bottom → left ≤ X0 + i → top ≤ Y0 + j
    → ((top - Y0) * W + (left - X0)) * pixel + (Y0 + j - top) * (W * pixel) + ((X0 + i - left) * pixel + b) ≡ (j * W + i) * pixel + b
written_place W H X0 Y0 TW TL x y left right top bottom pixel i j b cut low above =
    let row : top - Y0 + (Y0 + j - top) ≡ j = omega (arith, cut.top_is) in
    let column : left - X0 + (X0 + i - left) ≡ i = omega (arith, cut.left_is) in
    moved (top - Y0) (Y0 + j - top) W (left - X0) (X0 + i - left) pixel b ∙ ap (λ k. (k * W + (left - X0 + (X0 + i - left))) * pixel + b) row ∙ ap (λ k. (j * W + k) * pixel + b) column

pub read_place : (W H X0 Y0 TW TL x y left right top bottom pixel X Y b : ℕ) → Cut W H X0 Y0 TW TL x y left right top bottom → left ≤ X → top ≤ Y
    → ((top - y) * TW + (left - x)) * pixel + (Y - top) * (TW * pixel) + ((X - left) * pixel + b) ≡ ((Y - y) * TW + (X - x)) * pixel + b
read_place W H X0 Y0 TW TL x y left right top bottom pixel X Y b cut low above =
    let row : top - y + (Y - top) ≡ Y - y = omega (arith, cut.top_is) in
    let column : left - x + (X - left) ≡ X - x = omega (arith, cut.left_is) in
    moved (top - y) (Y - top) TW (left - x) (X - left) pixel b ∙ ap (λ k. (k * TW + (left - x + (X - left))) * pixel + b) row ∙ ap (λ k. ((Y - y) * TW + k) * pixel + b) column

-- a byte of a row that is copied is one of a pixel that both have
pub copied_pixel : (W H X0 Y0 TW TL x y left right top bottom pixel i j b n s : ℕ) → Cut W H X0 Y0 TW TL x y left right top bottom → left < right → top < bottom → i < W → b < pixel → n < bottom - top → s < (right - left) * pixel
    → (j * W + i) * pixel + b ≡ ((top - Y0) * W + (left - X0)) * pixel + n * (W * pixel) + s → (left ≤ X0 + i) × (X0 + i < right) × (top ≤ Y0 + j) × (Y0 + j < bottom)
copied_pixel W H X0 Y0 TW TL x y left right top bottom pixel i j b n s cut some more wide inside less part same =
    let from = left - X0 in
    let end : right - X0 ≤ W = omega (arith, cut.right_is) in
    let ends : from * pixel + (right - left) * pixel ≡ (right - X0) * pixel = (let is : from + (right - left) ≡ right - X0 = omega (arith, cut.left_is) in omega (arith, ap (λ k. k * pixel) is)) in
    let most : (right - X0) * pixel ≤ W * pixel = mul-le-mul_right pixel end in
    let here : j * (W * pixel) + (i * pixel + b) ≡ (top - Y0 + n) * (W * pixel) + (from * pixel + s) = omega (arith, same) in
    let (row, column) = same_from_place j (i * pixel + b) (top - Y0 + n) (from * pixel + s) (W * pixel) (pixel_below i b W pixel wide inside) (omega (arith, ends, most, part)) here in
    let low : from ≤ i = pixel_from i b from pixel inside (omega (arith, column)) in
    let high : i < right - X0 = pixel_until i b (right - X0) pixel (omega (arith, column, part, ends)) in
    (omega (arith, low), omega (arith, high), omega (arith, row, cut.top_is), omega (arith, row, less, cut.top_is))

-- ---- the tile of a pixel

-- a tile's first column and row
pub record IsCorner (l : Level) (tile A x y : ℕ) : Type 0 where
  pub across_is : A ≡ tiles_along l.width l.tile_width
  pub x_is : x ≡ tile % A * l.tile_width
  pub y_is : y ≡ tile / A * l.tile_length

pub record Sides (l : Level) (r : Rectangle) : Type 0 where
  pub tile_wide : 0 < l.tile_width
  pub tile_tall : 0 < l.tile_length
  pub fits_x : r.x + r.w ≤ l.width

tile_column : (l : Level) (r : Rectangle) (tile A x y i Y : ℕ) → IsCorner l tile A x y → Sides l r → i < r.w → tile_at (grid_of l) (r.x + i) Y ≡ tile
    → ((r.x + i) / l.tile_width ≡ tile % A) × (Y / l.tile_length ≡ tile / A)
tile_column l r tile A x y i Y corner sides wide is =
    let X = r.x + i in
    let near = last_below X 1 l.width l.tile_width (omega arith) sides.tile_wide (omega (arith, wide, sides.fits_x)) in
    let one : X + 1 - 1 ≡ X = omega arith in
    let below : X / l.tile_width < A = omega (arith, near, ap (λ k. k / l.tile_width) one, corner.across_is) in
    let same : Y / l.tile_length * A + X / l.tile_width ≡ tile = ap (λ k. Y / l.tile_length * k + X / l.tile_width) corner.across_is ∙ is in
    (sym (ap (λ t. t % A) (sym same) ∙ mod-mul-add (Y / l.tile_length) A (X / l.tile_width) below), sym (ap (λ t. t / A) (sym same) ∙ div-mul-add (Y / l.tile_length) A (X / l.tile_width) below))

-- it has the pixels from its corner on
pub of_tile : (l : Level) (r : Rectangle) (tile A x y i Y : ℕ) → IsCorner l tile A x y → Sides l r → i < r.w → tile_at (grid_of l) (r.x + i) Y ≡ tile
    → (x ≤ r.x + i) × (r.x + i < x + l.tile_width) × (y ≤ Y) × (Y < y + l.tile_length) × ((r.x + i) % l.tile_width ≡ r.x + i - x) × (Y % l.tile_length ≡ Y - y)
of_tile l r tile A x y i Y corner sides wide is =
    let place = tile_column l r tile A x y i Y corner sides wide is in
    let column = in_tile (r.x + i) l.tile_width (tile % A) sides.tile_wide place.0 in
    let row = in_tile Y l.tile_length (tile / A) sides.tile_tall place.1 in (
      omega (arith, column.0, corner.x_is),
      omega (arith, column.1, corner.x_is),
      omega (arith, row.0, corner.y_is),
      omega (arith, row.1, corner.y_is),
      column.2 ∙ ap (λ k. r.x + i - k) (sym corner.x_is),
      row.2 ∙ ap (λ k. Y - k) (sym corner.y_is),
    )

-- and they have it
pub tile_is : (l : Level) (tile A x y X Y : ℕ) → IsCorner l tile A x y → x ≤ X → X < x + l.tile_width → y ≤ Y → Y < y + l.tile_length → tile_at (grid_of l) X Y ≡ tile
tile_is l tile A x y X Y corner low high above below =
    let column : X / l.tile_width ≡ tile % A = tile_of_place X l.tile_width (tile % A) (omega (arith, corner.x_is, low)) (omega (arith, corner.x_is, high)) in
    let row : Y / l.tile_length ≡ tile / A = tile_of_place Y l.tile_length (tile / A) (omega (arith, corner.y_is, above)) (omega (arith, corner.y_is, below)) in
    ap (λ k. Y / l.tile_length * k + X / l.tile_width) (sym corner.across_is) ∙ ap (λ k. k * A + X / l.tile_width) row ∙ ap (λ k. tile / A * A + k) column ∙ div-add-mod' tile A

pub sides_of : (l : Level) (r : Rectangle) → IsTrue (is_inside l r.x r.y r.w r.h) → Sides l r
sides_of l r inside = (let here = in_level l r inside in record { tile_wide = here.tile_wide; tile_tall = here.tile_tall; fits_x = here.fits_x })

-- ---- the rows

-- those of the tile, and those of the picture
abbrev pub tile_rows : (l : Level) (x y left top pixel : ℕ) → Rows
tile_rows l x y left top pixel = record { first = ((top - y) * l.tile_width + (left - x)) * pixel; step = l.tile_width * pixel }

abbrev pub picture_rows : (r : Rectangle) (left top pixel : ℕ) → Rows
picture_rows r left top pixel = record { first = ((top - r.y) * r.w + (left - r.x)) * pixel; step = r.w * pixel }

-- ---- the picture

abbrev pub picture : Level → Rectangle → List ℕ → Picture
picture l r bytes = record { level = l; rectangle = r; bytes = bytes }

-- the tile and the rectangle have no pixel in common
pub blit_none : (l : Level) (r : Rectangle) {tile A x y left right top bottom : ℕ} (bytes old : List ℕ) → IsCorner l tile A x y → Sides l r → Cut r.w r.h r.x r.y l.tile_width l.tile_length x y left right top bottom
    → (left < right → top < bottom → ⊥) → IsBlit tile bytes (picture l r old) (picture l r old)
blit_none l r {tile} {A} {x} {y} {left} {right} {top} {bottom} bytes old corner sides cut none = record {
  level = refl;
  rectangle = refl;
  size = refl;
  inside = λ i j b wide tall small is. (let here = of_tile l r tile A x y i (r.y + j) corner sides wide is in
      absurd (none (omega (arith, cut.left_is, cut.right_is, wide, here.0, here.1)) (omega (arith, cut.top_is, cut.bottom_is, tall, here.2, here.3))));
  outside = λ i j b wide tall small isnt. refl;
}

pub blit_is : (l : Level) (r : Rectangle) {tile A x y left right top bottom : ℕ} (pixel : ℕ) (bytes old new : List ℕ) → IsCorner l tile A x y → Sides l r
    → Cut r.w r.h r.x r.y l.tile_width l.tile_length x y left right top bottom → left < right → top < bottom → pixel ≡ pixel_bytes l
    → AreCopied (bottom - top) ((right - left) * pixel) bytes (tile_rows l x y left top pixel) old new (picture_rows r left top pixel)
    → IsBlit tile bytes (picture l r old) (picture l r new)
blit_is l r {tile} {A} {x} {y} {left} {right} {top} {bottom} pixel bytes old new corner sides cut some more size copied = record {
  level = refl;
  rectangle = refl;
  size = copied.size;
  inside = λ i j b wide tall small is. (
      let X = r.x + i in
      let Y = r.y + j in
      let here = of_tile l r tile A x y i Y corner sides wide is in
      let low : left ≤ X = omega (arith, cut.left_is, here.0) in
      let above : top ≤ Y = omega (arith, cut.top_is, here.2) in
      let high : X < right = omega (arith, cut.right_is, wide, here.1) in
      let below : Y < bottom = omega (arith, cut.bottom_is, tall, here.3) in
      let part : b < pixel = omega (arith, small, size) in
      let to = written_place r.w r.h r.x r.y l.tile_width l.tile_length x y left right top bottom pixel i j b cut low above ∙ ap (λ k. (j * r.w + i) * k + b) size in
      let from = read_place r.w r.h r.x r.y l.tile_width l.tile_length x y left right top bottom pixel X Y b cut low above
      ∙ ap (λ k. ((Y - y) * l.tile_width + (X - x)) * k + b) size ∙ ap (λ k. (k * l.tile_width + (X - x)) * pixel_bytes l + b) (sym here.5) ∙ ap (λ k. (Y % l.tile_length * l.tile_width + k) * pixel_bytes l + b) (sym here.4) in
      ap (λ k. get_or new k 0) (sym to)
      ∙ copied.copied (Y - top) ((X - left) * pixel + b) (omega (arith, above, below)) (pixel_below (X - left) b (right - left) pixel (omega (arith, low, high)) part)
      ∙ ap (λ k. get_or bytes k 0) from
      );
  outside = λ i j b wide tall small isnt. copied.others (place l r.w i j b) (λ n s less part same. (
      let whole : (j * r.w + i) * pixel + b ≡ ((top - r.y) * r.w + (left - r.x)) * pixel + n * (r.w * pixel) + s = ap (λ k. (j * r.w + i) * k + b) size ∙ same in
      let here = copied_pixel r.w r.h r.x r.y l.tile_width l.tile_length x y left right top bottom pixel i j b n s cut some more wide (omega (arith, small, size)) less part whole in
      isnt (tile_is l tile A x y (r.x + i) (r.y + j) corner (omega (arith, cut.left_is, here.0)) (omega (arith, cut.right_is, here.1)) (omega (arith, cut.top_is, here.2)) (omega (arith, cut.bottom_is, here.3)))
      ));
}
