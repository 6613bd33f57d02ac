use Rattle.std.proofs.Common.{◌≡◌, ◌-◌, ◌/◌, ℕ, ◌∷◌, take, nat_eq, rules, length, sym, ap, subst, ◌∙◌}
use Rattle.std.specs.List.{All}
use Rattle.std.specs.Map.{remove_entry}
use Rattle.std.specs.Prelude.{IfSome}
use Rattle.tile_plan.specs.declared.tile_cache.Tile.{Tile}
use Rattle.tile_plan.specs.TileCache.{kept_with, tiles_in, tiles_of_size, AreTilesOf, IsStore, IsTileOf, KeptTiles}
use Rattle.tile_plan.proofs.UnpackedLemmas.{then_ok}
use Rattle.tile_plan.proofs.tile_cache.TileCache.keep.Goals as goal

pub invariant_of-self : goal.invariant_of-self
invariant_of-self c =
    c.fit.ensures.store c.self.inside.most c.in-Some.ensures.few c.in-Some.ensures.count c.self.invariant

pub returns-in_err-fit-clause-of : goal.returns-in_err-fit-clause-of
unfolding AreTilesOf
returns-in_err-fit-clause-of c f all packs = c.fit.ensures.of f (subst (AreTilesOf f) (sym c.self.view_is) all)

pub invariant_of-self-2 : goal.invariant_of-self-2
invariant_of-self-2 c =
    let fits = subst (λ o. IfSome o (IsStore c.self.inside.most c.fit.new.of)) c.in-Some-tiles.is (c.fit.ensures.store c.self.inside.most c.in-Some.ensures.few c.in-Some.ensures.count c.self.invariant) in
    let size : c.fit.new.of ≡ length c.args.plain.now.items = search rules in
    subst (λ n. IsStore c.self.inside.most n c.put.new.tiles) (sym size)
    (c.put.ensures.store c.self.inside.most (subst (λ n. IsStore c.self.inside.most n c.in-Some-tiles.tiles) size fits))

pub returns-clause-of : goal.returns-clause-of
unfolding AreTilesOf
returns-clause-of c f all packs =
    c.put.ensures.of f (subst (λ o. All (IsTileOf f) (tiles_in o)) c.in-Some-tiles.is (c.fit.ensures.of f (subst (AreTilesOf f) (sym c.self.view_is) all))) packs

pub returns-clause-others : goal.returns-clause-others
returns-clause-others c =
    let i = c.self.inside in
    let store = c.in-Some-tiles.tiles in
    let tile : Tile = record { codec = c.args.codec; len = c.args.len; row = c.args.row; plain = c.args.plain.now } in
    let size : c.fit.new.of ≡ length c.args.plain.now.items = search rules in
    let same : c.len-size.result ≡ length c.args.plain.now.items = search rules in
    let fits = subst (λ o. IfSome o (IsStore i.most c.fit.new.of)) c.in-Some-tiles.is (c.fit.ensures.store i.most c.in-Some.ensures.few c.in-Some.ensures.count c.self.invariant) in
    let room : store.cap ≡ i.most / length c.args.plain.now.items = fits.room ∙ ap (λ (n : ℕ). i.most / n) size in
    let kept : store.entries ≡ tiles_of_size (length c.args.plain.now.items) (tiles_in i.tiles) =
    ap tiles_in (sym c.in-Some-tiles.is) ∙ c.in_ok-fit.ensures.kept i.most c.self.invariant ∙ ap (λ (n : ℕ). tiles_of_size n (tiles_in i.tiles)) same in
    then_ok c.put.result (λ (put : c.put.new.tiles.entries ≡ (c.args.first, tile) ∷ remove_entry (nat_eq c.args.first) (take (store.cap - 1) store.entries)).
    λ some few. put
    ∙ ap (λ es. (c.args.first, tile) ∷ remove_entry (nat_eq c.args.first) (take (store.cap - 1) es)) kept
    ∙ ap (λ (n : ℕ). (c.args.first, tile) ∷ remove_entry (nat_eq c.args.first) (take (n - 1) (tiles_of_size (length c.args.plain.now.items) (tiles_in i.tiles)))) room
    ∙ ap (λ (k : KeptTiles). kept_with (c.args.first, tile) k) c.self.view_is) c.put.ensures.others
