-- What a reader gives.
use Rattle.std.specs.Prelude.{◌≤◌, ◌++◌, ℕ, List, Option, length, take}
use Rattle.std.specs.Io.KnownBytes.{Consumes}
use Rattle.disk_files.specs.declared.reading.Difference.{Difference}

-- as many bytes came as expected, and after them those at the front of the piece
pub record IsDifference (old new : Option (List ℕ)) (expected piece : List ℕ) (found : Difference) : Type 0 where
  pub same : found.same ≤ length expected
  pub other : found.other ≤ length piece
  pub came : Consumes old new (take found.same expected ++ take found.other piece)
