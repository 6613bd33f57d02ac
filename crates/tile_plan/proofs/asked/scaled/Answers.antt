use Rattle.tile_plan.proofs.AskedLemmas.{inside_scaled}
use Rattle.tile_plan.proofs.asked.scaled.Goals as goal

pub returns-clause-inside : goal.returns-clause-inside
returns-clause-inside c = rw (c.scaled_down-left.ensures.value, c.scaled_down-top.ensures.value)
    (inside_scaled c.args.first.now c.args.level.now c.args.x c.args.y c.args.w c.args.h c.scaled_up-right.result c.scaled_up-bottom.result c.requires
    c.scaled_up-right.ensures.value c.scaled_up-right.ensures.within c.scaled_up-bottom.ensures.value c.scaled_up-bottom.ensures.within)
