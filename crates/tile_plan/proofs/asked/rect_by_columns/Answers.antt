use Rattle.std.proofs.Common.{length, refl}
use Rattle.std.proofs.lemmas.Bool.{eq-eqb, ne_eqb}
use Rattle.std.proofs.lemmas.Option.{slice_get_read}
use Rattle.tiff_dir.specs.declared.query.Query.{Query}
use Rattle.tiff_dir.specs.declared.query.Query.TheVariants.{Window}
use Rattle.tiff_dir.specs.declared.query.Pick.TheVariants as pick
use Rattle.tile_plan.specs.Levels.{IsRefusedBy}
use Rattle.tile_plan.proofs.AskedLemmas.{asked_by, refused_by, passed_on, no_columns, columns_within, columns_outside, columns_rectangle}
use Rattle.tile_plan.specs.Drawn.{IsRefusal}
use Rattle.tile_plan.proofs.DrawnLemmas.{columns_lie, columns_refusal, no_columns_refusal, columns_drawn, drawn_by, refusal_by}
use Rattle.tile_plan.proofs.asked.rect_by_columns.Goals as goal

pub returns-then-columns-eq0-clause-refused : goal.returns-then-columns-eq0-clause-refused
returns-then-columns-eq0-clause-refused c = no_columns c.args.levels.now c.args.columns c.args.x c.args.y c.args.w c.args.h (eq-eqb c.args.columns 0 c.if-columns-eq0.true)

pub returns-in_err-first-clause-refused : goal.returns-in_err-first-clause-refused
returns-in_err-first-clause-refused c =
    passed_on c.from_residual.result c.in_err-first.field-0.0 (IsRefusedBy c.args.levels.now (Window c.args.x c.args.y c.args.w c.args.h (pick.Columns c.args.columns))) c.from_residual.ensures.1
    (columns_outside c.args.levels.now c.args.columns c.args.x c.args.y c.args.w c.args.h c.in_err-first.field-0.0 c.in_err-first.ensures.outside)

pub returns-clause-asked : goal.returns-clause-asked
returns-clause-asked c =
    let ls = c.args.levels.now in
    let q : Query = Window c.args.x c.args.y c.args.w c.args.h (pick.Columns c.args.columns) in
    let first = c.in_ok-first.first.now in
    let l = c.index-levels-n.result in
    let there = c.in_ok-first.ensures.there in
    let some = ne_eqb c.args.columns 0 c.if-columns-eq0.false in
    let here = slice_get_read ls (length ls) c.smallest-n.result l refl c.smallest-n.ensures.within c.index-levels-n.is in
    asked_by ls q c.scaled.result l c.limited.result (rw c.scaled.ensures.number here) c.scaled.ensures.inside (columns_within ls c.args.columns c.args.x c.args.y c.args.w c.args.h first some there.0 there.1)
    (columns_rectangle ls c.args.columns c.smallest-n.result c.args.x c.args.y c.args.w c.args.h first l c.scaled.result some there.0 c.smallest-n.ensures.value here c.scaled.ensures.rectangle) c.limited.ensures.good

pub returns-clause-refused : goal.returns-clause-refused
returns-clause-refused c =
    let ls = c.args.levels.now in
    let q : Query = Window c.args.x c.args.y c.args.w c.args.h (pick.Columns c.args.columns) in
    let first = c.in_ok-first.first.now in
    let l = c.index-levels-n.result in
    let some = ne_eqb c.args.columns 0 c.if-columns-eq0.false in
    let here = slice_get_read ls (length ls) c.smallest-n.result l refl c.smallest-n.ensures.within c.index-levels-n.is in
    refused_by ls q c.scaled.result l c.limited.result (rw c.scaled.ensures.number here)
    (columns_rectangle ls c.args.columns c.smallest-n.result c.args.x c.args.y c.args.w c.args.h first l c.scaled.result some c.in_ok-first.ensures.there.0 c.smallest-n.ensures.value here c.scaled.ensures.rectangle) c.limited.ensures.large

pub returns-then-columns-eq0-clause-refusal : goal.returns-then-columns-eq0-clause-refusal
returns-then-columns-eq0-clause-refusal c = no_columns_refusal c.args.levels.now c.args.columns c.args.x c.args.y c.args.w c.args.h (eq-eqb c.args.columns 0 c.if-columns-eq0.true)

pub returns-in_err-first-clause-refusal : goal.returns-in_err-first-clause-refusal
returns-in_err-first-clause-refusal c =
    let some = ne_eqb c.args.columns 0 c.if-columns-eq0.false in
    passed_on c.from_residual.result c.in_err-first.field-0.0 (IsRefusal c.args.levels.now (Window c.args.x c.args.y c.args.w c.args.h (pick.Columns c.args.columns))) c.from_residual.ensures.1
    (columns_refusal c.args.levels.now c.args.columns c.args.x c.args.y c.args.w c.args.h c.in_err-first.field-0.0 some c.in_err-first.ensures.outside)

pub returns-clause-drawn : goal.returns-clause-drawn
returns-clause-drawn c =
    let ls = c.args.levels.now in
    let there = c.in_ok-first.ensures.there in
    let here = slice_get_read ls (length ls) c.smallest-n.result c.index-levels-n.result refl c.smallest-n.ensures.within c.index-levels-n.is in
    drawn_by ls (Window c.args.x c.args.y c.args.w c.args.h (pick.Columns c.args.columns)) c.scaled.result c.index-levels-n.result c.limited.result (rw c.scaled.ensures.number here)
    (columns_lie ls c.args.columns c.args.x c.args.y c.args.w c.args.h c.in_ok-first.first.now (ne_eqb c.args.columns 0 c.if-columns-eq0.false) there.0 there.1)
    (columns_drawn ls c.args.columns c.smallest-n.result c.args.x c.args.y c.args.w c.args.h c.in_ok-first.first.now c.index-levels-n.result c.scaled.result there.0 c.smallest-n.ensures.value here c.scaled.ensures.rectangle) c.limited.ensures.good

pub returns-clause-refusal : goal.returns-clause-refusal
returns-clause-refusal c =
    let ls = c.args.levels.now in
    let there = c.in_ok-first.ensures.there in
    let here = slice_get_read ls (length ls) c.smallest-n.result c.index-levels-n.result refl c.smallest-n.ensures.within c.index-levels-n.is in
    refusal_by ls (Window c.args.x c.args.y c.args.w c.args.h (pick.Columns c.args.columns)) c.scaled.result c.index-levels-n.result c.limited.result (rw c.scaled.ensures.number here)
    (columns_lie ls c.args.columns c.args.x c.args.y c.args.w c.args.h c.in_ok-first.first.now (ne_eqb c.args.columns 0 c.if-columns-eq0.false) there.0 there.1)
    (columns_drawn ls c.args.columns c.smallest-n.result c.args.x c.args.y c.args.w c.args.h c.in_ok-first.first.now c.index-levels-n.result c.scaled.result there.0 c.smallest-n.ensures.value here c.scaled.ensures.rectangle) c.limited.ensures.large
