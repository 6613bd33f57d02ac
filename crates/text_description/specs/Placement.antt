-- Where the columns and rows of an image lie (GeoTIFF 1.1, OGC 19-008, section 7.3), in doubles, each result rounded (IEEE 754).
use Rattle.std.specs.Prelude.{ℕ, ◌==◌, pos, Bool, true, false, if◌then◌else◌, List, [], ◌∷◌, length, slice_get, Option, Some, None, from_bits, option_and_then}
use Rattle.std.specs.Option.{option_map}
use Rattle.std.specs.Int.{w64, from_be_bytes}
use Rattle.std.specs.Float.Ieee.{Float, binary64, add, sub, mul, div, neg, of_int}
use Rattle.cog_reader.specs.declared.outcome.Info.{Info}
use Rattle.text_description.specs.declared.placement.Placement.{Placement}
use Rattle.text_description.specs.declared.placement.Corners.{Corners}
use Rattle.text_description.specs.declared.placement.TheConstants.{NOTHING, HALF_BEFORE, TWO}

-- ---- a place

-- to the right: left + across * column + down * row
abbrev pub right_of : Placement → (column row : Float) → Float
right_of p column row = add binary64 (add binary64 p.left (mul binary64 p.across.0 column)) (mul binary64 p.down.0 row)

-- upwards: top + across * column + down * row
abbrev pub up_of : Placement → (column row : Float) → Float
up_of p column row = add binary64 (add binary64 p.top (mul binary64 p.across.1 column)) (mul binary64 p.down.1 row)

abbrev pub place_of : Placement → (column row : Float) → Float × Float
place_of p column row = (right_of p column row, up_of p column row)

-- the corners of these columns and rows, and their middle
abbrev pub corners_of : Placement → (columns rows : Float) → Corners
corners_of p columns rows = record {
  upper_left = place_of p NOTHING NOTHING;
  lower_left = place_of p NOTHING rows;
  lower_right = place_of p columns rows;
  upper_right = place_of p columns NOTHING;
  center = place_of p (div binary64 columns TWO) (div binary64 rows TWO);
}

-- the corners of an image of this size
abbrev pub corners_at : Placement → (size : ℕ × ℕ) → Corners
corners_at p size = corners_of p (of_int binary64 (pos size.0)) (of_int binary64 (pos size.1))

-- the corners, if both the placement and the size are known
abbrev pub corners_by : Option Placement → (size : Option (ℕ × ℕ)) → Option Corners
corners_by placement size = option_and_then (λ p. option_map (corners_at p) size) placement

-- GDAL's GetGeoTransform
abbrev pub geo_transform_of : Placement → List Float
geo_transform_of p = p.left ∷ p.across.0 ∷ p.down.0 ∷ p.top ∷ p.across.1 ∷ p.down.1 ∷ []

-- The placement of a level. Each step is longer by a ratio: the columns or rows of the first level, `whole`, to those of the level itself.
abbrev pub ratio : (whole part : ℕ) → Float
ratio whole part = div binary64 (of_int binary64 (pos whole)) (of_int binary64 (pos part))

abbrev pub longer : Float × Float → (by : Float) → Float × Float
longer step by = (mul binary64 step.0 by, mul binary64 step.1 by)

abbrev pub of_level : Placement → (whole part : ℕ × ℕ) → Placement
of_level p whole part = record p { across = longer p.across (ratio whole.0 part.0); down = longer p.down (ratio whole.1 part.1) }

-- ---- what the fields say

-- the double at a place of a field, whose items have the most significant byte first
abbrev pub double_at : List (List ℕ) → ℕ → Option Float
double_at items place = option_map (λ item. from_bits binary64 (from_be_bytes w64 item)) (slice_get items place)

-- a placement of six numbers, if all are there
abbrev pub of_six : (Float → Float → Float → Float → Float → Float → Placement) → (a b c d e f : Option Float) → Option Placement
of_six make (Some a) (Some b) (Some c) (Some d) (Some e) (Some f) = Some (make a b c d e f)
of_six make a b c d e f = None

-- ModelTransformation (section 7.3): the steps from a column and from a row, and the place of the first corner
abbrev pub by_steps : (left top right_across up_across right_down up_down : Float) → Placement
by_steps left top right_across up_across right_down up_down = record {
  left = left;
  top = top;
  across = (right_across, up_across);
  down = (right_down, up_down);
}

-- ModelPixelScale and one tiepoint (section 7.3): the sides of a pixel, and a column and a row with their place
abbrev pub by_sides : (width height column row x y : Float) → Placement
by_sides width height column row x y = record {
  left = sub binary64 x (mul binary64 column width);
  top = add binary64 y (mul binary64 row height);
  across = (width, NOTHING);
  down = (NOTHING, neg height);
}

abbrev pub transformed : List (List ℕ) → Option Placement
transformed m = of_six by_steps (double_at m 3) (double_at m 7) (double_at m 0) (double_at m 4) (double_at m 1) (double_at m 5)

abbrev pub scaled : (scale tiepoint : List (List ℕ)) → Option Placement
scaled s t = if length t == 6 then of_six by_sides (double_at s 0) (double_at s 1) (double_at t 0) (double_at t 1) (double_at t 3) (double_at t 4)
    else None

-- by the scale and one tiepoint if both fields are there, and else by the transformation
abbrev pub said_by : (scale tiepoints transformation : Option (List (List ℕ))) → Option Placement
said_by (Some scale) (Some tiepoints) m = scaled scale tiepoints
said_by s t (Some m) = transformed m
said_by s t None = None

abbrev pub said_of : Info → Option Placement
said_of info = said_by (option_map (λ v. v.items) info.scale) (option_map (λ v. v.items) info.tiepoints) (option_map (λ v. v.items) info.transformation)

-- If a pixel is a point, the fields place the middle of the first pixel, and its corner lies half a pixel before it.
abbrev pub from_corner : (is_point : Bool) → Placement → Placement
from_corner false p = p
from_corner true p = record p { left = right_of p HALF_BEFORE HALF_BEFORE; top = up_of p HALF_BEFORE HALF_BEFORE }

abbrev pub placement_of : Info → (is_point : Bool) → Option Placement
placement_of info is_point = option_map (from_corner is_point) (said_of info)
