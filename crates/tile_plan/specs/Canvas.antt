-- The samples of a window as bytes, put together from tiles (TIFF 6.0, section 15).
use Rattle.std.specs.Prelude.{◌≡◌, ◌≢◌, ℕ, ◌+◌, ◌*◌, ◌%◌, ◌<◌, List, length, slice_index}
use Rattle.tiff_dir.specs.declared.level.Level.{Level}
use Rattle.tiff_dir.specs.Level.{pixel_size}
use Rattle.tiff_dir.specs.Described.{grid_of, layout_of}
use Rattle.tiff_dir.specs.Window.{tile_at}
use Rattle.tile_plan.specs.declared.asked.Rectangle.{Rectangle}

-- What a contract sees of a canvas: a rectangle of a level, and the bytes of its pixels, row by row.
pub record Picture : Type 0 where
  pub level : Level
  pub rectangle : Rectangle
  pub bytes : List ℕ

-- how many bytes a pixel has
abbrev pub pixel_bytes : Level → ℕ
pixel_bytes l = pixel_size (layout_of l)

-- how many bytes a rectangle has
abbrev pub picture_size : Level → Rectangle → ℕ
picture_size l r = r.w * r.h * pixel_bytes l

-- the place of byte `b` of the pixel in column `i` and row `j`, in a picture of `columns` columns
abbrev pub place : Level → ℕ → ℕ → ℕ → ℕ → ℕ
place l columns i j b = (j * columns + i) * pixel_bytes l + b

-- byte `b` of the pixel in column `x` and row `y` of the level, in the bytes of its tile
abbrev pub byte_in_tile : Level → List ℕ → ℕ → ℕ → ℕ → ℕ
byte_in_tile l bytes x y b = slice_index bytes (place l l.tile_width (x % l.tile_width) (y % l.tile_length) b)

-- byte `b` of the pixel in column `i` and row `j` of the picture
abbrev pub byte_at : Picture → ℕ → ℕ → ℕ → ℕ
byte_at p i j b = slice_index p.bytes (place p.level p.rectangle.w i j b)

-- The pixels of the tile are those of its bytes. All others are as before.
pub record IsBlit (tile : ℕ) (bytes : List ℕ) (old new : Picture) : Type 0 where
  pub level : new.level ≡ old.level
  pub rectangle : new.rectangle ≡ old.rectangle
  pub size : length new.bytes ≡ length old.bytes
  pub inside : (i j b : ℕ) → i < old.rectangle.w → j < old.rectangle.h → b < pixel_bytes old.level
      → tile_at (grid_of old.level) (old.rectangle.x + i) (old.rectangle.y + j) ≡ tile
      → byte_at new i j b ≡ byte_in_tile old.level bytes (old.rectangle.x + i) (old.rectangle.y + j) b
  pub outside : (i j b : ℕ) → i < old.rectangle.w → j < old.rectangle.h → b < pixel_bytes old.level
      → tile_at (grid_of old.level) (old.rectangle.x + i) (old.rectangle.y + j) ≢ tile
      → byte_at new i j b ≡ byte_at old i j b
