use Rattle.std.proofs.Common.{◌∙◌, ap, slice_get}
use Rattle.text_description.specs.Covering.{placement_by}
use Rattle.text_description.specs.World.{world_by}
use Rattle.text_description.proofs.world.world_in.Goals as goal

pub returns : goal.returns
returns c =
    let info = c.args.info.now in
    c.world_by.ensures
    ∙ ap (λ p. world_by p c.level_sides-whole.result c.level_sides-sides.result c.args.column c.args.row) c.placement_by.ensures
    ∙ ap (λ s. world_by (placement_by info) s c.level_sides-sides.result c.args.column c.args.row) c.level_sides-whole.ensures
    ∙ ap (λ s. world_by (placement_by info) (slice_get info.sides.items 0) s c.args.column c.args.row) c.level_sides-sides.ensures
