use Rattle.std.proofs.Common.{arith}
use Rattle.std.proofs.lemmas.Bool.Decides.{nat_tests}
use Rattle.tiff_dir.specs.Stage.{Counts}
use Rattle.tiff_dir.proofs.Chain.{bad_count, good_count}
use Rattle.tiff_dir.proofs.GoingOn.{counts_on}
use Rattle.tiff_dir.proofs.steps.after_count.Goals as goal
use Rattle.tiff_dir.proofs.steps.after_count.Goals.{then-entries-eq0-via-then-entries-eq0, then-entries-eq0-via-else-entries-eq0+then-entries-gt-MAX_ENTRIES}

pub returns-then-entries-eq0-clause-agrees : goal.returns-then-entries-eq0-clause-agrees
returns-then-entries-eq0-clause-agrees c = λ f reaches part. bad_count f _ _ _ _ reaches part c.requires.whole
    (rw (← c.short_at-entries.ensures) (elim c.then-entries-eq0.branch [
      | then-entries-eq0-via-then-entries-eq0 w ↦ grind (arith, nat_tests)
      | then-entries-eq0-via-else-entries-eq0+then-entries-gt-MAX_ENTRIES w ↦ grind (arith, nat_tests)
    ]))

pub returns-clause-agrees : goal.returns-clause-agrees
returns-clause-agrees c = λ f reaches part.
    let counts : Counts f c.args.order c.args.index c.args.at c.short_at-entries.result =
    rw c.short_at-entries.ensures (good_count f _ _ _ _ reaches part c.requires.whole (rw (← c.short_at-entries.ensures) (grind (arith, nat_tests)))) in
    counts_on f c.args.order c.args.index c.args.at c.short_at-entries.result counts
