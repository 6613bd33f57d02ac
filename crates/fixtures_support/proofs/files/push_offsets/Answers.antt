use Rattle.std.proofs.Common.{sym, append-nil}
use Rattle.fixtures_support.specs.Files.{numbers, tile_places}
use Rattle.fixtures_support.proofs.Pieces.{tile_places_next}
use Rattle.fixtures_support.proofs.files.push_offsets.Goals as goal

pub loop-t-init : goal.loop-t-init
unfolding tile_places numbers
loop-t-init c = sym (append-nil c.args.out.now.items)

pub loop-t-preserved : goal.loop-t-preserved
loop-t-preserved c =
    tile_places_next c.args.first c.args.size c.loop-t.t c.args.out.now.items c.loop-t.out.items c.push_long.new.out.items
    c.loop-t.invariant c.in_ok-push_long.ensures
