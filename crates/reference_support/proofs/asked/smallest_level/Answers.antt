use Rattle.std.proofs.Common.{◌+◌, ◌∙◌, sym, refl}
use Rattle.tiff_dir.specs.Query.{has_columns}
use Rattle.reference_support.proofs.AskedLemmas.{one_passes, one_fails}
use Rattle.reference_support.proofs.asked.smallest_level.Goals as goal
use Rattle.reference_support.proofs.asked.smallest_level.Goals.{then-branch, else-branch}

pub loop-n-preserved : goal.loop-n-preserved
loop-n-preserved c =
    let p = has_columns c.args.file.now c.args.columns c.args.w in
    elim c.if-branch.branch [
      | then-branch w ↦ one_passes p c.loop-n.n (c.loop-n.n + 1) c.if-branch.level refl (sym c.in_ok-has_columns.ensures ∙ w.if-branch.true) w.level-is
      | else-branch w ↦ one_fails p c.loop-n.n (c.loop-n.n + 1) c.if-branch.level c.loop-n.level refl (sym c.in_ok-has_columns.ensures ∙ w.if-branch.false) w.level-is c.loop-n.invariant
    ]
