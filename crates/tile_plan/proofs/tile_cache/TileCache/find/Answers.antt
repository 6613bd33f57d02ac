use Rattle.std.proofs.Common.{sym, subst}
use Rattle.std.specs.List.{All}
use Rattle.tile_plan.specs.TileCache.{tiles_in, AreTilesOf, IsTileOf}
use Rattle.tile_plan.proofs.UnpackedLemmas.{all_found, stands_for}
use Rattle.tile_plan.proofs.tile_cache.TileCache.find.Goals as goal

pub returns-clause-stands : goal.returns-clause-stands
unfolding AreTilesOf
returns-clause-stands c f all =
    let old = subst (AreTilesOf f) (sym c.self.view_is) all in
    let store = subst (λ o. All (IsTileOf f) (tiles_in o)) (sym c.in_ok-tiles.ensures.value) old in
    stands_for f c.args.codec c.args.first c.args.len c.args.row c.args.size c.in_ok-tile.tile.now c.plain_of.result c.plain_of.ensures
    (all_found (IsTileOf f) c.args.first c.in_ok-tiles.tiles.now.entries c.in_ok-tile.tile.now (sym c.in_ok-tile.ensures) store)
