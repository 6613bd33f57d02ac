use Rattle.std.proofs.Common.{◌≡◌, ◌-◌, ◌++◌}
use Rattle.fixtures_support.specs.Files.{even_tiles}
use Rattle.fixtures_support.proofs.files.push_falling_tiles.Given as goal

-- the tiles so far are added
abbrev pub invariant-loop-t : goal.invariant-loop-t
invariant-loop-t l = l.out.items ≡ l.fn.out.items ++ even_tiles 256 (λ t. 255 - t) l.t
