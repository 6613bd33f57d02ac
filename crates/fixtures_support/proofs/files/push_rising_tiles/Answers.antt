use Rattle.std.proofs.Common.{◌+◌, sym, append-nil}
use Rattle.fixtures_support.specs.Files.{even_tiles}
use Rattle.fixtures_support.proofs.Pieces.{even_tiles_next}
use Rattle.fixtures_support.proofs.files.push_rising_tiles.Goals as goal

pub loop-t-init : goal.loop-t-init
unfolding even_tiles
loop-t-init c = sym (append-nil c.args.out.now.items)

pub loop-t-preserved : goal.loop-t-preserved
loop-t-preserved c =
    even_tiles_next c.args.size (λ t. c.args.first + t) c.loop-t.t c.args.out.now.items c.loop-t.out.items
    c.push_even_tile.new.out.items c.loop-t.invariant c.in_ok-push_even_tile.ensures
