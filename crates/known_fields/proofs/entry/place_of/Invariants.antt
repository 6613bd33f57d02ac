use Rattle.std.proofs.Common.{◌≡◌, ℕ, ◌+◌, ◌*◌, ◌-◌, List}
use Rattle.known_fields.specs.Entry.{place_from}
use Rattle.known_fields.proofs.entry.place_of.Given as goal

-- none of the entries so far has the tag
abbrev pub invariant-loop-i : goal.invariant-loop-i
invariant-loop-i g l = (f : List ℕ) → g.B.KnownBytes.is_of l.bytes f → place_from f (l.first + 12 * l.i) (l.entries - l.i) l.tag ≡ place_from f l.first l.entries l.tag
