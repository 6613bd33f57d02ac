use Rattle.std.proofs.Common.{◌≡◌, ℕ, List, Some}
use Rattle.tiff_dir.specs.File.{size_of}
use Rattle.known_fields.specs.Sum.{sum_at}
use Rattle.known_fields.proofs.sum.known_sum.Given as goal

-- the sum so far
abbrev pub invariant-loop-index : goal.invariant-loop-index
invariant-loop-index g l = (f : List ℕ) → g.B.KnownBytes.is_of l.bytes f → sum_at f l.place.first (size_of l.place.kind) l.index ≡ Some l.sum
