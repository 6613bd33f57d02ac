use Rattle.std.proofs.Common.{◌≤◌, sym, subst}
use Rattle.std.specs.Prelude.{IfSome}
use Rattle.tile_plan.specs.TileCache.{size_of_tiles, tiles_in, IsStore, KeptTiles}
use Rattle.tile_plan.proofs.UnpackedLemmas.{few_bytes}
use Rattle.tile_plan.proofs.tile_cache.TileCache.no_more_is_kept.Goals as goal

pub returns-in-Some : goal.returns-in-Some
returns-in-Some c =
    let i = c.self.inside in
    subst (λ (k : KeptTiles). size_of_tiles k.tiles ≤ k.most) c.self.view_is
    (subst (λ o. size_of_tiles (tiles_in o) ≤ i.most) (sym c.in-Some.is)
    (few_bytes i.most i.size c.in-Some.tiles (subst (λ o. IfSome o (IsStore i.most i.size)) c.in-Some.is c.self.invariant) c.len-len.ensures.valid.1))
