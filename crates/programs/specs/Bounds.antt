-- Rectangles of command lines.
use Rattle.std.specs.Prelude.{◌≡◌, ◌⊎◌, ℕ, ◌&&◌, Bool, true, false, if◌then◌else◌, List, Option, Some, None, string_bytes, ⊤}
use Rattle.std.specs.Float.{float_is_finite}
use Rattle.std.specs.Float.Ieee.{Float, binary64, le}
use Rattle.std.specs.Float.Parse.{parse_float}
use Rattle.text_description.specs.declared.covering.Bounds.{Bounds}
use Rattle.command_lines.specs.declared.read.BoundsWords.{BoundsWords}
use Rattle.programs.specs.declared.exit.Exit.{Exit}
use Rattle.programs.specs.declared.exit.Exit.TheVariants.{Memory, NoRectangle, NotACoordinate}

abbrev pub finite : Option Float → Option Float
finite None = None
finite (Some x) = if float_is_finite x then Some x else None

-- the finite number of a word: the double that is nearest to its decimal number
abbrev pub coordinate : List ℕ → Option Float
coordinate word = finite (parse_float binary64 word)

-- west isn't greater than east, and south isn't greater than north
abbrev pub is_rectangle : Bounds → Bool
is_rectangle b = le b.west b.east && le b.south b.north

-- the sides have the numbers of their words
pub record HasSides (words : BoundsWords) (b : Bounds) : Type 0 where
  pub west : coordinate words.west.now ≡ Some b.west
  pub south : coordinate words.south.now ≡ Some b.south
  pub east : coordinate words.east.now ≡ Some b.east
  pub north : coordinate words.north.now ≡ Some b.north

-- the rectangle is that of the words
abbrev pub IsBounds : BoundsWords → Bounds → Type 0
IsBounds words b = HasSides words b × (is_rectangle b ≡ true)

-- the words have four numbers, which are no rectangle
abbrev pub IsNoRectangle : BoundsWords → Type 0
IsNoRectangle words = (b : Bounds) × HasSides words b × (is_rectangle b ≡ false)

-- one of the words is no finite number, or they are no rectangle
abbrev pub IsNoBounds : BoundsWords → Type 0
IsNoBounds words = (coordinate words.west.now ≡ None) ⊎ (coordinate words.south.now ≡ None) ⊎ (coordinate words.east.now ≡ None)
    ⊎ (coordinate words.north.now ≡ None) ⊎ IsNoRectangle words

-- the fault names the word, or memory ran out
abbrev pub NamesCoordinate : List ℕ → Exit → Type 0
NamesCoordinate word (NotACoordinate told) = string_bytes told ≡ word
NamesCoordinate word Memory = ⊤
NamesCoordinate word fault = ⊥

-- the fault names a word that is no finite number, or it is that of no rectangle, or memory ran out
abbrev pub IsOfRectangle : Exit → Type 0
IsOfRectangle (NotACoordinate told) = coordinate (string_bytes told) ≡ None
IsOfRectangle NoRectangle = ⊤
IsOfRectangle Memory = ⊤
IsOfRectangle fault = ⊥
