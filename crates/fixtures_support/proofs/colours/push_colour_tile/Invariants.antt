use Rattle.std.proofs.Common.{◌≡◌, ◌++◌}
use Rattle.fixtures_support.specs.Files.{colour_rows}
use Rattle.fixtures_support.proofs.colours.push_colour_tile.Given as goal

-- the rows so far are added
abbrev pub invariant-loop-row : goal.invariant-loop-row
invariant-loop-row l = l.out.items ≡ l.fn.out.items ++ colour_rows l.t l.row
