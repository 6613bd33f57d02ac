use Rattle.std.proofs.Common.{MatchOption}
use Rattle.reference_support.specs.Modest.{layout_of}
use Rattle.reference_support.specs.Tile.{HasNoTile, IsTile}
use Rattle.reference_support.proofs.RowLemmas.{each_pushed, length_pushed}
use Rattle.reference_support.proofs.unpacked.tiles.Goals as goal

pub loop-t-preserved : goal.loop-t-preserved
loop-t-preserved c = record {
  count = length_pushed c.loop-t.tiles.items _ _ c.loop-t.t c.loop-t.invariant.count c.in_ok-push.ensures.items;
  each = each_pushed (λ t o. MatchOption o (HasNoTile c.args.file.now c.args.n (layout_of c.args.level.now) t)
      (λ plain. IsTile c.args.file.now c.args.n (layout_of c.args.level.now) t plain.items)) c.loop-t.tiles.items _ _ c.loop-t.t
      c.loop-t.invariant.count c.in_ok-push.ensures.items c.loop-t.invariant.each c.in_ok-tile.ensures;
}
