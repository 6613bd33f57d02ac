use Rattle.std.proofs.Common.{◌≡◌, ℕ, ◌-◌, ◌≤◌, List, true}
use Rattle.tiff_dir.specs.File.{has_directory}
use Rattle.known_fields.proofs.directories.known_directories.Given as goal

-- the directories so far are there
abbrev pub invariant-loop-index : goal.invariant-loop-index
invariant-loop-index g l = record { some : 1 ≤ l.index; here : (f : List ℕ) → g.B.KnownBytes.is_of l.bytes f → has_directory f (l.index - 1) ≡ true }
