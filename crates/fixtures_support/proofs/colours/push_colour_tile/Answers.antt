use Rattle.std.proofs.Common.{sym, append-nil}
use Rattle.fixtures_support.specs.Files.{colour_rows}
use Rattle.fixtures_support.proofs.Pieces.{colour_rows_next}
use Rattle.fixtures_support.proofs.colours.push_colour_tile.Goals as goal

pub loop-row-init : goal.loop-row-init
unfolding colour_rows
loop-row-init c = sym (append-nil c.args.out.now.items)

pub loop-row-preserved : goal.loop-row-preserved
loop-row-preserved c =
    colour_rows_next c.args.t c.loop-row.row c.args.out.now.items c.loop-row.out.items c.extend_from_slice.new.self.items
    c.loop-row.invariant c.in_ok-extend_from_slice.ensures.items
