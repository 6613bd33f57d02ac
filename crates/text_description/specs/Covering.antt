-- Which pixels of a level a rectangle in the file's coordinates meets, in doubles, each result rounded (IEEE 754).
use Rattle.std.specs.Prelude.{◌≡◌, ◌≤◌, ◌+◌, ◌-◌, ◌&&◌, ℕ, Bool, nat_lt, min, if◌then◌else◌, slice_get, Option, Some, None, Result, Ok, Err}
use Rattle.std.specs.Int.{w32}
use Rattle.std.specs.Float.{float_is_finite, float_to_unsigned, floor, ceil}
use Rattle.std.specs.Float.Ieee.{Float, binary64, add, sub, div, eq, le, ne}
use Rattle.tiff_dir.specs.declared.query.Query.{Query}
use Rattle.tiff_dir.specs.declared.query.Query.TheVariants.{Window, Info as AnInfo}
use Rattle.tiff_dir.specs.declared.query.Pick.TheVariants.{Level}
use Rattle.cog_reader.specs.declared.outcome.Info.{Info}
use Rattle.text_description.specs.declared.covering.Bounds.{Bounds}
use Rattle.text_description.specs.declared.covering.NoPixels.{NoPixels}
use Rattle.text_description.specs.declared.covering.NoPixels.TheVariants.{NotPlaced, Turned, Outside}
use Rattle.text_description.specs.declared.covering.TheConstants.{ONE, SNAP}
use Rattle.text_description.specs.declared.placement.Placement.{Placement}
use Rattle.text_description.specs.declared.placement.TheConstants.{NOTHING}
use Rattle.text_description.specs.Description.{is_point}
use Rattle.text_description.specs.Facts.{raster_type_by}
use Rattle.text_description.specs.Placement.{of_level, placement_of}

-- ---- one axis: columns to the right, or rows downwards

-- a place in pixels from the image's first edge on
abbrev pub pixels_to : (origin step place : Float) → Float
pixels_to origin step place = div binary64 (sub binary64 place origin) step

-- The first pixel that an interval meets which begins at `low`. A place less than `SNAP` before the edge of a pixel counts as that edge.
abbrev pub first_pixel : (low : Float) → Float
first_pixel low = floor binary64 (add binary64 low SNAP)

-- The pixel after the last one of an interval that ends at `high`. An interval meets at least its first pixel.
abbrev pub end_pixel : (first high : Float) → Float
end_pixel first high = let least = add binary64 first ONE in let end = ceil binary64 (sub binary64 high SNAP) in if le least end then end else least

-- What is left of the pixels from `first` up to `end` in an image of `count` pixels: the first one, and how many.
abbrev pub cut : (count first end : ℕ) → Option (ℕ × ℕ)
cut count first end = if nat_lt first (min end count) then Some (first, min end count - first) else None

abbrev pub pixels_met : (count : ℕ) (low high : Float) → Option (ℕ × ℕ)
pixels_met count low high = let first = first_pixel low in
    cut count (float_to_unsigned w32 first) (float_to_unsigned w32 (end_pixel first high))

-- the same between two places, whichever is the lesser
abbrev pub pixels_between : (count : ℕ) (a b : Float) → Option (ℕ × ℕ)
pixels_between count a b = if le a b then pixels_met count a b else pixels_met count b a

-- ---- a rectangle

-- a step to the next pixel, which can be a divisor
abbrev pub is_step : Float → Bool
is_step step = float_is_finite step && ne step NOTHING

-- columns lie upright, and rows level
abbrev pub is_upright : Placement → Bool
is_upright p = eq p.across.1 NOTHING && (eq p.down.0 NOTHING && (is_step p.across.0 && is_step p.down.1))

abbrev pub columns_met : Placement → Bounds → (count : ℕ) → Option (ℕ × ℕ)
columns_met p b count = pixels_between count (pixels_to p.left p.across.0 b.west) (pixels_to p.left p.across.0 b.east)

abbrev pub rows_met : Placement → Bounds → (count : ℕ) → Option (ℕ × ℕ)
rows_met p b count = pixels_between count (pixels_to p.top p.down.1 b.north) (pixels_to p.top p.down.1 b.south)

abbrev pub window_met : (columns rows : Option (ℕ × ℕ)) → (level : ℕ) → Result Query NoPixels
window_met (Some columns) (Some rows) level = Ok (Window columns.0 rows.0 columns.1 rows.1 (Level level))
window_met columns rows level = Err Outside

-- the window in a level of these sides, with this placement
abbrev pub met_in : Placement → (sides : ℕ × ℕ) → Bounds → (level : ℕ) → Result Query NoPixels
met_in p sides b level = if is_upright p then window_met (columns_met p b sides.0) (rows_met p b sides.1) level else Err Turned

-- For a level that isn't there a window of one pixel stands, which isn't there either.
abbrev pub met_by : Option Placement → (whole sides : Option (ℕ × ℕ)) → Bounds → (level : ℕ) → Result Query NoPixels
met_by None whole sides b level = Err NotPlaced
met_by (Some p) (Some whole) (Some sides) b level = met_in (of_level p whole sides) sides b level
met_by (Some p) whole sides b level = Ok (Window 0 0 1 1 (Level level))

-- where the file has its pixels, by what Info says
abbrev pub placement_by : Info → Option Placement
placement_by i = placement_of i (is_point (raster_type_by i.geo.keys.items))

-- The window of the pixels that the rectangle meets in a level, by what Info says of a file.
unfoldable pub window_covering : Info → Bounds → (level : ℕ) → Result Query NoPixels
window_covering i b level = met_by (placement_by i) (slice_get i.sides.items 0) (slice_get i.sides.items level) b level

-- ---- what is true of each such window

-- the window is one of this level
abbrev pub IsOfLevel : (level : ℕ) → Query → Type 0
IsOfLevel level (Window x y w h pick) = pick ≡ Level level
IsOfLevel level AnInfo = ⊥

-- there are pixels from the first on, and they end within an image of `count` pixels
abbrev pub IsWithin : (count : ℕ) → ℕ × ℕ → Type 0
IsWithin count met = (1 ≤ met.1) × (met.0 + met.1 ≤ count)

-- the window has pixels, and none past these sides
abbrev pub IsInside : (sides : ℕ × ℕ) → Query → Type 0
IsInside sides (Window x y w h pick) = IsWithin sides.0 (x, w) × IsWithin sides.1 (y, h)
IsInside sides AnInfo = ⊥
