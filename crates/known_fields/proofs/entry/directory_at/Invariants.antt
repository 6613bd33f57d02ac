use Rattle.std.proofs.Common.{◌≡◌, ℕ, ◌<◌, ◌^◌, List, Some}
use Rattle.tiff_dir.specs.File.{directory}
use Rattle.known_fields.proofs.entry.directory_at.Given as goal

-- the directory so far
abbrev pub invariant-loop-i : goal.invariant-loop-i
invariant-loop-i g l = record { fits : l.at < 2 ^ 32; here : (f : List ℕ) → g.B.KnownBytes.is_of l.bytes f → directory f l.i ≡ Some l.at }
