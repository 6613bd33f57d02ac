use Rattle.std.proofs.Common.{◌≡◌, ◌++◌}
use Rattle.fixtures_support.specs.Files.{packed_rows}
use Rattle.fixtures_support.proofs.files.push_packed_tile.Given as goal

-- the rows so far are added
abbrev pub invariant-loop-row : goal.invariant-loop-row
invariant-loop-row l = l.out.items ≡ l.fn.out.items ++ packed_rows l.row
