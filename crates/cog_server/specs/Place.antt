-- Where a part lies.
use Rattle.std.specs.Prelude.{ℕ, ◌≤◌, ◌<◌, ⊤}
use Rattle.http_range.specs.declared.range.Resolved.{Resolved}
use Rattle.http_range.specs.declared.range.Resolved.TheVariants.{Whole, Part, Unsatisfiable}

-- the part lies in a content of this length
abbrev pub IsInside : Resolved → ℕ → Type 0
IsInside Whole length = ⊤
IsInside (Part first last) length = (first ≤ last) × (last < length)
IsInside Unsatisfiable length = ⊤
