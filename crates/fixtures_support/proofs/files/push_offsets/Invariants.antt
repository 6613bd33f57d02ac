use Rattle.std.proofs.Common.{◌≡◌, ◌++◌}
use Rattle.fixtures_support.specs.Files.{tile_places}
use Rattle.fixtures_support.proofs.files.push_offsets.Given as goal

-- the places of the tiles so far are added
abbrev pub invariant-loop-t : goal.invariant-loop-t
invariant-loop-t l = l.out.items ≡ l.fn.out.items ++ tile_places l.first l.size l.t
