-- What a query asks for, and which bytes of the file it needs.
use Rattle.tiff_dir.specs.declared.tags.TheConstants.{IMAGE_LENGTH, IMAGE_WIDTH, SAMPLES_PER_PIXEL, TILE_BYTE_COUNTS, TILE_OFFSETS}
use Rattle.extents.specs.declared.limits.TheConstants.{MAX_RANGE_BYTES}
use Rattle.tiff_dir.specs.declared.limits.TheConstants.{MAX_WINDOW_SAMPLES}
use Rattle.std.specs.Prelude.{ℕ, ◌+◌, ◌-◌, ◌*◌, ◌/◌, ◌%◌, Bool, false, not, ◌&&◌, ◌||◌, nat_lt, nat_le, ◌==◌, if◌then◌else◌, List, [], ◌∷◌, ◌++◌, length, map, Option, Some, None, is_none, unwrap_or}
use Rattle.std.specs.List.{filter, last_or, range_with_len, sum_by}
use Rattle.std.specs.Option.{option_map_or, option_to_list}
use Rattle.tiff_dir.specs.declared.query.Query.{Query}
use Rattle.tiff_dir.specs.declared.query.Query.TheVariants.{Window, Info}
use Rattle.tiff_dir.specs.declared.query.Pick.TheVariants as pick
use Rattle.extents.specs.Block.{blocks}
use Rattle.tiff_dir.specs.File.{◌>>=◌}
use Rattle.tiff_dir.specs.Level.{Grid, level_directories, level_directory, level_grid, level_value, across, tile_total}
use Rattle.extents.specs.Extent.{Extent, bytes_in, ends_past}
use Rattle.tiff_dir.specs.Needs.{field_range, needs_of_directories}
use Rattle.tiff_dir.specs.Geo.{geo_ranges}

-- `width` columns from `left` on and `height` rows from `top` on, in the samples of a level
pub record Rectangle : Type 0 where
  pub level : ℕ
  pub left : ℕ
  pub top : ℕ
  pub width : ℕ
  pub height : ℕ

-- level `n` has at least `columns` columns for `w` columns of level 0
abbrev pub has_columns : List ℕ → ℕ → ℕ → ℕ → Bool
has_columns f columns w n = unwrap_or (do
  width ← level_value f n IMAGE_WIDTH 0
  first ← level_value f 0 IMAGE_WIDTH 0
  Some (nat_le (columns * first) (width * w))) false

-- the greatest number of such a level, or 0 if there is none
unfoldable pub smallest_level : List ℕ → ℕ → ℕ → ℕ
smallest_level f columns w =
    unwrap_or (last_or None (filter (has_columns f columns w) (range_with_len 0 (length (level_directories f))))) 0

-- a position along a side of level 0, on the same side of another level: rounded down, and then rounded up
abbrev pub scaled_down : ℕ → ℕ → ℕ → ℕ
scaled_down side first at = at * side / first

abbrev pub scaled_up : ℕ → ℕ → ℕ → ℕ
scaled_up side first at = (at * side + first - 1) / first

-- a window of level 0 in level `n`, rounded outwards
unfoldable pub scaled : List ℕ → ℕ → ℕ → ℕ → ℕ → ℕ → Option Rectangle
scaled f n x y w h = do
  first_width ← level_value f 0 IMAGE_WIDTH 0
  first_length ← level_value f 0 IMAGE_LENGTH 0
  width ← level_value f n IMAGE_WIDTH 0
  length ← level_value f n IMAGE_LENGTH 0
  let left = scaled_down width first_width x in let right = scaled_up width first_width (x + w) in
      let top = scaled_down length first_length y in let bottom = scaled_up length first_length (y + h) in
      Some (record { level = n; left = left; top = top; width = right - left; height = bottom - top })

-- The rectangle that is asked for. Neither 0 columns nor Info ask for one.
unfoldable pub rectangle : List ℕ → Query → Option Rectangle
rectangle f (Window x y w h (pick.Level n)) = Some (record { level = n; left = x; top = y; width = w; height = h })
rectangle f (Window x y w h (pick.Columns columns)) = if columns == 0 then None else scaled f (smallest_level f columns w) x y w h
rectangle f Info = None

-- the side is there, and ends before the position `end`
abbrev pub passes : ℕ → Option ℕ → Bool
passes end side = option_map_or (λ s. nat_lt s end) side false

-- a window is empty, its level isn't there, or it crosses a side of the level
abbrev pub is_outside_level : List ℕ → ℕ → ℕ → ℕ → ℕ → ℕ → Bool
is_outside_level f n x y w h =
    (w == 0) || (h == 0) || is_none (level_directory f n)
    || passes (x + w) (level_value f n IMAGE_WIDTH 0) || passes (y + h) (level_value f n IMAGE_LENGTH 0)

-- The window is outside the level that its numbers are given in.
unfoldable pub is_outside : List ℕ → Query → Bool
is_outside f (Window x y w h (pick.Level n)) = is_outside_level f n x y w h
is_outside f (Window x y w h (pick.Columns columns)) = (columns == 0) || is_outside_level f 0 x y w h
is_outside f Info = false

-- The window has more than 4,194,304 samples.
unfoldable pub is_too_large : List ℕ → Query → Bool
is_too_large f q = unwrap_or (do
  r ← rectangle f q
  samples ← level_value f r.level SAMPLES_PER_PIXEL 0
  Some (nat_lt MAX_WINDOW_SAMPLES (r.width * r.height * samples))) false

abbrev pub is_refused : List ℕ → Query → Bool
is_refused f q = is_outside f q || is_too_large f q

-- two intervals, neither of them empty, have a position in common
abbrev pub overlap : ℕ → ℕ → ℕ → ℕ → Bool
overlap a a_len b b_len = nat_lt a (b + b_len) && nat_lt b (a + a_len)

-- tile `t` of the grid has a pixel of the rectangle
abbrev pub meets : Grid → Rectangle → ℕ → Bool
meets g r t =
    overlap ((t % across g) * g.tile_width) g.tile_width r.left r.width
    && overlap ((t / across g) * g.tile_length) g.tile_length r.top r.height

-- the tiles of a rectangle, in the order of their numbers
unfoldable pub tiles_in : Grid → Rectangle → List ℕ
tiles_in g r = filter (meets g r) (range_with_len 0 (tile_total g))

-- The tiles that the window needs: none if it is outside or too large.
unfoldable pub window_tiles : List ℕ → Query → List ℕ
window_tiles f q =
    if is_refused f q then [] else unwrap_or (do
      r ← rectangle f q
      g ← level_grid f r.level
      Some (tiles_in g r)) []

-- the range of the values of TileOffsets or TileByteCounts, in the entry or outside
unfoldable pub array_range : List ℕ → ℕ → ℕ → Option Extent
array_range f n tag = level_directory f n >>= λ k. field_range f k tag

-- the range of the bytes of tile `t` of level `n`
unfoldable pub tile_range : List ℕ → ℕ → ℕ → Option Extent
tile_range f n t = do
  first ← level_value f n TILE_OFFSETS t
  len ← level_value f n TILE_BYTE_COUNTS t
  Some (record { first = first; len = len })

-- These bytes, if they are in the file.
unfoldable pub segment : List ℕ → ℕ → ℕ → Option (List ℕ)
segment f n t = tile_range f n t >>= λ r. if ends_past f r then None else Some (bytes_in f r)

-- the ranges of the bytes of the window's tiles, tile by tile
unfoldable pub tile_ranges : List ℕ → Query → List (Option Extent)
tile_ranges f q = option_map_or (λ r. map (tile_range f r.level) (window_tiles f q)) (rectangle f q) []

-- ---- groups: tiles that follow each other in the file are read by one range

-- the range begins where the group ends, and the group with it isn't too long
abbrev pub joins : Extent → Extent → Bool
joins g r = (r.first == g.first + g.len) && nat_le (g.len + r.len) MAX_RANGE_BYTES

-- The ranges of a group and of the tiles after it. Each tile joins the group of the tile before it, or begins the next group. A tile
-- whose values aren't there is in no group, and ends the one before it.
abbrev pub joined_after : Option Extent → List (Option Extent) → List Extent
joined_after before [] = option_to_list before
joined_after before (None ∷ rest) = option_to_list before ++ joined_after None rest
joined_after None (Some r ∷ rest) = joined_after (Some r) rest
joined_after (Some g) (Some r ∷ rest) =
    if joins g r then joined_after (Some (record g { len = g.len + r.len })) rest else g ∷ joined_after (Some r) rest

-- the ranges of the tile arrays of the window's level
unfoldable pub array_ranges : List ℕ → Query → List Extent
array_ranges f q =
    if is_refused f q then [] else unwrap_or (do
      r ← rectangle f q
      Some (option_to_list (array_range f r.level TILE_OFFSETS) ++ option_to_list (array_range f r.level TILE_BYTE_COUNTS))) []

-- what a window needs, and what Info needs, besides the directories
unfoldable pub needs_of_query : List ℕ → Query → List Extent
needs_of_query f Info = geo_ranges f
needs_of_query f q = array_ranges f q ++ joined_after None (tile_ranges f q)

-- The ranges of the file that the query needs.
unfoldable pub needs : List ℕ → Query → List Extent
needs f q = needs_of_directories f ++ needs_of_query f q

-- how many blocks a range touches
abbrev pub blocks_of_extent : Extent → ℕ
blocks_of_extent r = blocks r.first r.len

-- How many blocks the ranges touch that the query needs and that end within the file. A block that several ranges touch counts for each.
unfoldable pub cost : List ℕ → Query → ℕ
cost f q = sum_by blocks_of_extent (filter (λ r. not (ends_past f r)) (needs f q))
