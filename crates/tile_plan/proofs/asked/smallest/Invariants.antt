use Rattle.std.proofs.Common.{◌≡◌}
use Rattle.tile_plan.specs.Levels.{last_with_columns}
use Rattle.tile_plan.proofs.asked.smallest.Given as goal

abbrev pub invariant-loop-n : goal.invariant-loop-n
invariant-loop-n l = l.best ≡ last_with_columns l.levels l.columns l.w l.first l.n
