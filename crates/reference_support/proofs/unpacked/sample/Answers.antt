use Rattle.std.proofs.Common.{◌≡◌, ◌∙◌, sym, ap, subst, Some}
use Rattle.std.specs.Option.{option_map}
use Rattle.tiff_dir.specs.Window.{tile_at, sample_in, place_in_tile}
use Rattle.reference_support.specs.Modest.{layout_of, modest_level}
use Rattle.reference_support.specs.Tile.{HasNoTile, IsTile}
use Rattle.reference_support.proofs.SampleLemmas.{no_order, no_sample, no_tile_no_sample, some_sample}
use Rattle.reference_support.proofs.unpacked.sample.Goals as goal

pub returns-in_default-3-clause-none : goal.returns-in_default-3-clause-none
returns-in_default-3-clause-none c =
    let l = layout_of c.in-Some-2.level in
    let modest : modest_level c.args.file.now c.args.n ≡ Some l = sym c.in_ok-level.ensures.level ∙ ap (option_map layout_of) c.in-Some-2.is in
    let told = rw c.in_default-3.is at c.in_ok-plain.ensures in
    let none : HasNoTile c.args.file.now c.args.n l (tile_at l.grid c.args.x c.args.y) =
    subst (λ t. HasNoTile c.args.file.now c.args.n l t) c.tile_at.ensures told in
    λ some. no_tile_no_sample c.args.file.now c.args.n c.args.x c.args.y c.args.c l modest none

pub returns-clause-some : goal.returns-clause-some
returns-clause-some c =
    let l = layout_of c.in-Some-2.level in
    let modest : modest_level c.args.file.now c.args.n ≡ Some l = sym c.in_ok-level.ensures.level ∙ ap (option_map layout_of) c.in-Some-2.is in
    let tile = subst (λ t. IsTile c.args.file.now c.args.n l t c.in-Some-3.plain.items) c.tile_at.ensures (rw c.in-Some-3.is at c.in_ok-plain.ensures) in
    some_sample c.args.file.now c.in-Some.order c.args.n c.args.x c.args.y c.args.c l c.in-Some-3.plain.items c.sample_in.result (sym c.order_of.ensures ∙ c.in-Some.is) modest tile
    (c.sample_in.ensures ∙ ap (λ p. sample_in c.in-Some.order l.bits c.deref.result.now p) c.place_in_tile-place.ensures.place
    ∙ ap (λ xs. sample_in c.in-Some.order l.bits xs (place_in_tile l c.args.x c.args.y c.args.c)) c.deref.ensures.value)

pub returns-clause-none : goal.returns-clause-none
returns-clause-none c =
    let l = layout_of c.in-Some-2.level in
    let modest : modest_level c.args.file.now c.args.n ≡ Some l = sym c.in_ok-level.ensures.level ∙ ap (option_map layout_of) c.in-Some-2.is in
    let tile = subst (λ t. IsTile c.args.file.now c.args.n l t c.in-Some-3.plain.items) c.tile_at.ensures (rw c.in-Some-3.is at c.in_ok-plain.ensures) in
    λ some. no_sample c.law_one_text.ensures.text c.args.file.now c.in-Some.order c.args.n c.args.x c.args.y c.args.c l c.in-Some-3.plain.items c.sample_in.result (sym c.order_of.ensures ∙ c.in-Some.is) modest tile
    (c.sample_in.ensures ∙ ap (λ p. sample_in c.in-Some.order l.bits c.deref.result.now p) c.place_in_tile-place.ensures.place
    ∙ ap (λ xs. sample_in c.in-Some.order l.bits xs (place_in_tile l c.args.x c.args.y c.args.c)) c.deref.ensures.value)

pub returns-in_default-clause-none : goal.returns-in_default-clause-none
returns-in_default-clause-none c = λ some. no_order c.args.file.now c.args.n c.args.x c.args.y c.args.c (sym c.order_of.ensures ∙ c.in_default.is)
