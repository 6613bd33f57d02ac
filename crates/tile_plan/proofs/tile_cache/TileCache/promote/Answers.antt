use Rattle.std.proofs.Common.{ℕ, sym, subst}
use Rattle.std.specs.List.{All}
use Rattle.std.specs.Prelude.{IfSome}
use Rattle.lru.specs.LruCache.{LruCache}
use Rattle.tile_plan.specs.declared.tile_cache.Tile.{Tile}
use Rattle.tile_plan.specs.TileCache.{tiles_in, AreTilesOf, IsStore, IsTileOf}
use Rattle.tile_plan.proofs.UnpackedLemmas.{all_promoted, store_promoted}
use Rattle.tile_plan.proofs.tile_cache.TileCache.promote.Goals as goal
use Rattle.tile_plan.proofs.tile_cache.TileCache.promote.Goals.{in-Some, in_default}

pub returns-clause-of : goal.returns-clause-of
unfolding AreTilesOf
returns-clause-of c f all =
    let old = subst (AreTilesOf f) (sym c.self.view_is) all in
    elim c.match-self.branch [
      | in-Some w ↦
          subst (λ u. All (IsTileOf f) (tiles_in u.tiles)) (sym w.self-inside-is) (subst (λ (store : LruCache ℕ Tile). All (IsTileOf f) store.entries) (sym w.promote.ensures.entries)
          (all_promoted (IsTileOf f) c.args.first w.in-Some.tiles.entries (subst (λ o. All (IsTileOf f) (tiles_in o)) w.in-Some.is old)))
      | in_default w ↦ subst (λ u. All (IsTileOf f) (tiles_in u.tiles)) (sym w.self-inside-is) old
    ]

pub invariant_of-self : goal.invariant_of-self
invariant_of-self c =
    let i = c.self.inside in
    elim c.match-self.branch [
      | in-Some w ↦
          subst (λ u. IfSome u.tiles (IsStore u.most u.size)) (sym w.self-inside-is)
          (store_promoted i.most i.size c.args.first w.in-Some.tiles _ w.promote.ensures.entries (subst (λ o. IfSome o (IsStore i.most i.size)) w.in-Some.is c.self.invariant))
      | in_default w ↦ subst (λ u. IfSome u.tiles (IsStore u.most u.size)) (sym w.self-inside-is) c.self.invariant
    ]
