use Rattle.std.proofs.Common.{refl}
use Rattle.tiff_dir.specs.declared.query.Query.{Query}
use Rattle.tiff_dir.specs.declared.query.Query.TheVariants.{Window}
use Rattle.tiff_dir.specs.declared.query.Pick.TheVariants as pick
use Rattle.tile_plan.specs.declared.asked.Rectangle.{Rectangle}
use Rattle.tile_plan.specs.Levels.{IsRefusedBy}
use Rattle.tile_plan.proofs.AskedLemmas.{asked_by, refused_by, passed_on, level_within, level_outside, level_rectangle}
use Rattle.tile_plan.specs.Drawn.{IsRefusal}
use Rattle.tile_plan.proofs.DrawnLemmas.{level_lies, level_refusal, drawn_by, refusal_by}
use Rattle.tile_plan.proofs.asked.rect_of_level.Goals as goal

pub returns-in_err-level-clause-refused : goal.returns-in_err-level-clause-refused
returns-in_err-level-clause-refused c =
    passed_on c.from_residual.result c.in_err-level.field-0.0 (IsRefusedBy c.args.levels.now (Window c.args.x c.args.y c.args.w c.args.h (pick.Level c.args.n))) c.from_residual.ensures.1
    (level_outside c.args.levels.now c.args.n c.args.x c.args.y c.args.w c.args.h c.in_err-level.field-0.0 c.in_err-level.ensures.outside)

pub returns-clause-asked : goal.returns-clause-asked
returns-clause-asked c =
    let q : Query = Window c.args.x c.args.y c.args.w c.args.h (pick.Level c.args.n) in
    let r : Rectangle = record { level = c.args.n; x = c.args.x; y = c.args.y; w = c.args.w; h = c.args.h } in
    let l = c.in_ok-level.level.now in
    let there = c.in_ok-level.ensures.there in
    asked_by c.args.levels.now q r l c.limited.result there.0 there.1 (level_within c.args.levels.now c.args.n c.args.x c.args.y c.args.w c.args.h l there.0 there.1)
    (level_rectangle c.args.levels.now c.args.n c.args.x c.args.y c.args.w c.args.h) c.limited.ensures.good

pub returns-clause-refused : goal.returns-clause-refused
returns-clause-refused c =
    let q : Query = Window c.args.x c.args.y c.args.w c.args.h (pick.Level c.args.n) in
    let r : Rectangle = record { level = c.args.n; x = c.args.x; y = c.args.y; w = c.args.w; h = c.args.h } in
    refused_by c.args.levels.now q r c.in_ok-level.level.now c.limited.result c.in_ok-level.ensures.there.0 (level_rectangle c.args.levels.now c.args.n c.args.x c.args.y c.args.w c.args.h) c.limited.ensures.large

pub returns-in_err-level-clause-refusal : goal.returns-in_err-level-clause-refusal
returns-in_err-level-clause-refusal c =
    passed_on c.from_residual.result c.in_err-level.field-0.0 (IsRefusal c.args.levels.now (Window c.args.x c.args.y c.args.w c.args.h (pick.Level c.args.n))) c.from_residual.ensures.1
    (level_refusal c.args.levels.now c.args.n c.args.x c.args.y c.args.w c.args.h c.in_err-level.field-0.0 c.in_err-level.ensures.outside)

pub returns-clause-drawn : goal.returns-clause-drawn
returns-clause-drawn c =
    drawn_by c.args.levels.now (Window c.args.x c.args.y c.args.w c.args.h (pick.Level c.args.n)) (record { level = c.args.n; x = c.args.x; y = c.args.y; w = c.args.w; h = c.args.h }) c.in_ok-level.level.now c.limited.result c.in_ok-level.ensures.there.0
    (level_lies c.args.levels.now c.args.n c.args.x c.args.y c.args.w c.args.h c.in_ok-level.level.now c.in_ok-level.ensures.there.0 c.in_ok-level.ensures.there.1) refl c.limited.ensures.good

pub returns-clause-refusal : goal.returns-clause-refusal
returns-clause-refusal c =
    refusal_by c.args.levels.now (Window c.args.x c.args.y c.args.w c.args.h (pick.Level c.args.n)) (record { level = c.args.n; x = c.args.x; y = c.args.y; w = c.args.w; h = c.args.h }) c.in_ok-level.level.now c.limited.result c.in_ok-level.ensures.there.0
    (level_lies c.args.levels.now c.args.n c.args.x c.args.y c.args.w c.args.h c.in_ok-level.level.now c.in_ok-level.ensures.there.0 c.in_ok-level.ensures.there.1) refl c.limited.ensures.large
