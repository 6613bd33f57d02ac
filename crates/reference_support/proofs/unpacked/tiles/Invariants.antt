use Rattle.reference_support.specs.Modest.{layout_of}
use Rattle.reference_support.specs.Tile.{AreTiles}
use Rattle.reference_support.proofs.unpacked.tiles.Given as goal

-- these are the tiles so far
abbrev pub invariant-loop-t : goal.invariant-loop-t
invariant-loop-t l = AreTiles l.file l.n (layout_of l.level) l.t l.tiles.items
