use Rattle.std.proofs.Common.{◌≡◌, ◌+◌, ◌++◌}
use Rattle.fixtures_support.specs.Files.{even_tiles}
use Rattle.fixtures_support.proofs.files.push_rising_tiles.Given as goal

-- the tiles so far are added
abbrev pub invariant-loop-t : goal.invariant-loop-t
invariant-loop-t l = l.out.items ≡ l.fn.out.items ++ even_tiles l.size (λ t. l.first + t) l.t
