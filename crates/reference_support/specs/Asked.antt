-- A rectangle of a level as the definitions see it.
use Rattle.std.specs.Prelude.{◌≡◌, ℕ, List, None, IsSomeAnd}
use Rattle.tiff_dir.specs.declared.query.Query.{Query}
use Rattle.tiff_dir.specs.Query as asked
use Rattle.reference_support.specs.declared.rectangles.Rectangle.{Rectangle}
use Rattle.reference_support.specs.Modest.{modest_grid}

abbrev pub rectangle_of : Rectangle → asked.Rectangle
rectangle_of r = record { level = r.level; left = r.left; top = r.top; width = r.width; height = r.height }

-- The plain program doesn't read the level of the rectangle that is asked for.
abbrev pub HasNoModestLevel : List ℕ → Query → Type 0
HasNoModestLevel f q = IsSomeAnd (asked.rectangle f q) (λ r. modest_grid f r.level ≡ None)
