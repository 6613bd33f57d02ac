use Rattle.std.proofs.Common.{◌≡◌, ◌++◌}
use Rattle.fixtures_support.specs.Files.{colour_tiles}
use Rattle.fixtures_support.proofs.colours.push_colour_tiles.Given as goal

-- the tiles so far are added
abbrev pub invariant-loop-t : goal.invariant-loop-t
invariant-loop-t l = l.out.items ≡ l.fn.out.items ++ colour_tiles l.t
