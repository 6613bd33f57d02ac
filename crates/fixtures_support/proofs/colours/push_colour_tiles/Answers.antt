use Rattle.std.proofs.Common.{sym, append-nil}
use Rattle.fixtures_support.specs.Files.{colour_tiles}
use Rattle.fixtures_support.proofs.Pieces.{colour_tiles_next}
use Rattle.fixtures_support.proofs.colours.push_colour_tiles.Goals as goal

pub loop-t-init : goal.loop-t-init
unfolding colour_tiles
loop-t-init c = sym (append-nil c.args.out.now.items)

pub loop-t-preserved : goal.loop-t-preserved
loop-t-preserved c =
    colour_tiles_next c.loop-t.t c.args.out.now.items c.loop-t.out.items c.push_colour_tile.new.out.items
    c.loop-t.invariant c.in_ok-push_colour_tile.ensures
