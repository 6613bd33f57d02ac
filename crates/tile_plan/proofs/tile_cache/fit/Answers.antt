use Rattle.std.proofs.Common.{◌≡◌, ℕ, [], sym, ap, subst, ◌∙◌}
use Rattle.lru.specs.LruCache.{LruCache}
use Rattle.tile_plan.specs.declared.tile_cache.Tile.{Tile}
use Rattle.tile_plan.specs.TileCache.{tiles_in, tiles_of_size}
use Rattle.tile_plan.proofs.UnpackedLemmas.{none_in_none, store_of_other, store_of_size}
use Rattle.tile_plan.proofs.tile_cache.fit.Goals.{else-of-size-via-then-of-size+else-is_some, else-of-size-via-else-of-size}
use Rattle.tile_plan.proofs.tile_cache.fit.Goals as goal

pub returns-then-is_some-clause-kept : goal.returns-then-is_some-clause-kept
returns-then-is_some-clause-kept c most is =
    let old = c.args.tiles.now in
    sym (subst (λ (n : ℕ). tiles_of_size n (tiles_in old) ≡ tiles_in old) c.if-of-size.true (store_of_size most c.args.of.now old is))

pub returns-clause-kept : goal.returns-clause-kept
returns-clause-kept c most is =
    let old = c.args.tiles.now in
    let none : tiles_of_size c.args.size (tiles_in old) ≡ [] = elim c.else-of-size.branch [
      | else-of-size-via-then-of-size+else-is_some w ↦ none_in_none c.args.size old (sym w.is_some.ensures ∙ w.if-is_some.false)
      | else-of-size-via-else-of-size w ↦ store_of_other most c.args.size c.args.of.now old is w.if-of-size.false
    ] in
    ap (λ (s : LruCache ℕ Tile). s.entries) c.in_ok-sparse.ensures ∙ sym none
