use Rattle.std.proofs.Common.{◌∙◌, ap, slice_get}
use Rattle.text_description.specs.Covering.{met_by, placement_by, window_covering}
use Rattle.text_description.proofs.CoveringLemmas.{inside_of}
use Rattle.text_description.proofs.covering.window_covering.Goals as goal

pub returns-clause-met : goal.returns-clause-met
unfolding window_covering
returns-clause-met c =
    let info = c.args.info.now in
    c.met_by.ensures.met
    ∙ ap (λ p. met_by p c.level_sides-whole.result c.level_sides-sides.result c.args.bounds.now c.args.level) c.placement_by.ensures
    ∙ ap (λ w. met_by (placement_by info) w c.level_sides-sides.result c.args.bounds.now c.args.level) c.level_sides-whole.ensures
    ∙ ap (λ s. met_by (placement_by info) (slice_get info.sides.items 0) s c.args.bounds.now c.args.level) c.level_sides-sides.ensures

pub returns-clause-inside : goal.returns-clause-inside
returns-clause-inside c =
    inside_of c.met_by.result c.args.info.now.sides.items c.args.level c.level_sides-whole.result c.level_sides-sides.result
    c.level_sides-whole.ensures c.level_sides-sides.ensures c.met_by.ensures.inside
