use Rattle.std.proofs.Common.{ℕ, List}
use Rattle.known_fields.specs.Reads.{AreAllKnown}
use Rattle.text_report.proofs.UnreadLemmas.{NoneBefore}
use Rattle.text_report.proofs.found.found_value.Given as goal

-- where all of the file is known, the levels so far have no value that isn't read
abbrev pub invariant-loop-directory : goal.invariant-loop-directory
invariant-loop-directory g l = (f : List ℕ) → g.B.KnownBytes.is_of l.bytes f → AreAllKnown (g.B.KnownBytes.is_known l.bytes) f
    → NoneBefore f l.tag l.directories l.directory
