use Rattle.std.specs.Prelude.{◌≡◌, ◌+◌, ◌++◌, ◌≤◌, ℕ, List, length}
use Rattle.std.specs.Io.KnownBytes.{Consumes}
use Rattle.disk_files.proofs.reading.first_difference.Given as goal

-- as many bytes came as were compared, and each was the same
abbrev pub invariant-loop : goal.invariant-loop
invariant-loop g l = record {
  came : (front : List ℕ) × Consumes (g.R.Read.remaining l.fn.reader) (g.R.Read.remaining l.reader) front × (l.fn.bytes ≡ front ++ l.rest);
  left : l.counter + length l.rest ≤ l.end;
}
