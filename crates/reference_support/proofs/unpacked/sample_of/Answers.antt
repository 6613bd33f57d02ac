use Rattle.std.proofs.Common.{◌<◌, ◌∙◌, sym, ap, subst, MatchOption, arith}
use Rattle.std.specs.Global.{Vec}
use Rattle.tiff_dir.specs.Level.{tile_total}
use Rattle.tiff_dir.specs.Window.{tile_at, sample_in, place_in_tile}
use Rattle.reference_support.specs.Modest.{grid_of, layout_of}
use Rattle.reference_support.specs.Tile.{HasNoTile, IsTile}
use Rattle.reference_support.proofs.SampleLemmas.{no_order, no_sample, no_tile_no_sample, some_sample}
use Rattle.reference_support.proofs.RowLemmas.{tile_inside, tile_read, tile_there}
use Rattle.reference_support.proofs.unpacked.sample_of.Goals as goal

pub returns-in_err-get-clause-none : goal.returns-in_err-get-clause-none
returns-in_err-get-clause-none c = λ column row.
    let g = grid_of c.args.level.now.grid in
    let inside : tile_at g c.args.x c.args.y < tile_total g = tile_inside g c.args.x c.args.y (grind (arith, c.requires.modest)) column row in
    let past = c.in_err-get.ensures.lookup.3 in
    absurd (omega (arith, inside, past, c.tile_at.ensures, c.requires.tiles.count))

pub returns-in_err-plain-clause-none : goal.returns-in_err-plain-clause-none
returns-in_err-plain-clause-none c = λ column row.
    let f = c.args.file.now in let l = layout_of c.args.level.now in
    let t = c.tile_at.result in
    let found = c.in_ok-get.field-0.now in
    let told : MatchOption found (HasNoTile f c.args.n l t) (λ plain. IsTile f c.args.n l t plain.items) =
    tile_read f c.args.n l _ c.args.tiles.now c.requires.tiles t found c.in_ok-get.ensures.lookup.3.0 c.in_ok-get.ensures.lookup.1 in
    let none : HasNoTile f c.args.n l t = subst (λ o. MatchOption o (HasNoTile f c.args.n l t) (λ (plain : Vec _). IsTile f c.args.n l t plain.items)) (sym c.in_err-plain.ensures.value) told in
    rw c.from_residual-in_err-plain.ensures (no_tile_no_sample f c.args.n c.args.x c.args.y c.args.c l c.requires.level
    (subst (λ k. HasNoTile f c.args.n l k) c.tile_at.ensures none))

pub returns-clause-some : goal.returns-clause-some
returns-clause-some c =
    let f = c.args.file.now in let l = layout_of c.args.level.now in
    let t = c.tile_at.result in
    let plain = c.in_ok-plain.plain.now.items in
    let there = tile_there f c.args.n l _ c.args.tiles.now c.requires.tiles t c.in_ok-get.field-0.now c.in_ok-plain.plain.now c.in_ok-get.ensures.lookup.3.0 c.in_ok-get.ensures.lookup.1 (sym c.in_ok-plain.ensures.value) in
    let tile : IsTile f c.args.n l (tile_at l.grid c.args.x c.args.y) plain = subst (λ k. IsTile f c.args.n l k plain) c.tile_at.ensures there in
    some_sample f c.in_ok-order.order c.args.n c.args.x c.args.y c.args.c l plain c.sample_in.result (sym c.order_of.ensures ∙ c.in_ok-order.was) c.requires.level tile
    (c.sample_in.ensures ∙ ap (λ p. sample_in c.in_ok-order.order l.bits c.deref.result.now p) c.place_in_tile-place.ensures.place
    ∙ ap (λ xs. sample_in c.in_ok-order.order l.bits xs (place_in_tile l c.args.x c.args.y c.args.c)) c.deref.ensures.value)

pub returns-clause-none : goal.returns-clause-none
returns-clause-none c = λ column row.
    let f = c.args.file.now in let l = layout_of c.args.level.now in
    let t = c.tile_at.result in
    let plain = c.in_ok-plain.plain.now.items in
    let there = tile_there f c.args.n l _ c.args.tiles.now c.requires.tiles t c.in_ok-get.field-0.now c.in_ok-plain.plain.now c.in_ok-get.ensures.lookup.3.0 c.in_ok-get.ensures.lookup.1 (sym c.in_ok-plain.ensures.value) in
    let tile : IsTile f c.args.n l (tile_at l.grid c.args.x c.args.y) plain = subst (λ k. IsTile f c.args.n l k plain) c.tile_at.ensures there in
    no_sample c.law_one_text.ensures.text f c.in_ok-order.order c.args.n c.args.x c.args.y c.args.c l plain c.sample_in.result (sym c.order_of.ensures ∙ c.in_ok-order.was) c.requires.level tile
    (c.sample_in.ensures ∙ ap (λ p. sample_in c.in_ok-order.order l.bits c.deref.result.now p) c.place_in_tile-place.ensures.place
    ∙ ap (λ xs. sample_in c.in_ok-order.order l.bits xs (place_in_tile l c.args.x c.args.y c.args.c)) c.deref.ensures.value)

pub returns-in_err-order-clause-none : goal.returns-in_err-order-clause-none
returns-in_err-order-clause-none c = λ column row.
    rw c.from_residual.ensures (no_order c.args.file.now c.args.n c.args.x c.args.y c.args.c (sym c.order_of.ensures ∙ c.in_err-order.was))
