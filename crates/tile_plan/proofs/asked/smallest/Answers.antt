use Rattle.std.proofs.Common.{refl, arith}
use Rattle.std.specs.Prelude.{length}
use Rattle.std.proofs.lemmas.Option.{slice_get_read}
use Rattle.tile_plan.proofs.RectLemmas.{next_best}
use Rattle.tile_plan.proofs.AskedLemmas.{best_below}
use Rattle.tile_plan.proofs.asked.smallest.Goals as goal
use Rattle.tile_plan.proofs.asked.smallest.Goals.{then-has_columns, else-has_columns}

pub loop-n-preserved : goal.loop-n-preserved
loop-n-preserved c =
    next_best c.args.levels.now c.args.columns c.args.w c.args.first c.loop-n.n c.loop-n.best c.if-has_columns.best c.index-levels-n.result c.has_columns.result (slice_get_read c.args.levels.now (length c.args.levels.now) c.loop-n.n c.index-levels-n.result refl c.loop-n-test.true c.index-levels-n.is) c.has_columns.ensures c.loop-n.invariant
    (elim c.if-has_columns.branch [ then-has_columns w ↦ rw w.if-has_columns.true w.best-is | else-has_columns w ↦ rw w.if-has_columns.false w.best-is ])

pub returns-clause-within : goal.returns-clause-within
returns-clause-within c = best_below c.args.levels.now c.args.columns c.args.w c.args.first c.loop-n.n (length c.args.levels.now) c.loop-n.best c.loop-n.invariant (omega (arith, c.loop-n-test.false, c.loop-n.auto.n-end)) c.requires.some
