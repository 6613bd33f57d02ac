use Rattle.tile_plan.proofs.WindowSamples.{painted_all}
use Rattle.tile_plan.proofs.laws.law_all_are_painted.Goals as goal

pub returns : goal.returns
returns c f q a w = painted_all f q a w
