use Rattle.tiff_dir.specs.Fault.{IsFaultOfDirectories}
use Rattle.tiff_dir.specs.Stage.{Follows}
use Rattle.tiff_dir.proofs.Chain.{bad_order, bad_number, first_follows}
use Rattle.tiff_dir.proofs.Outside.{err_told}
use Rattle.tiff_dir.proofs.GoingOn.{header_on}
use Rattle.tiff_dir.proofs.steps.after_header.Goals as goal

pub returns-in_default-clause-agrees : goal.returns-in_default-clause-agrees
returns-in_default-clause-agrees c = λ f part. bad_order f _ part c.requires (cc)

pub returns-then-short_at-ne42-clause-agrees : goal.returns-then-short_at-ne42-clause-agrees
returns-then-short_at-ne42-clause-agrees c = λ f part.
    bad_number f _ c.in-Some.order part c.requires (cc) (rw (← c.short_at.ensures) c.if-short_at-ne42.true)

pub returns-in_err-stage-clause-agrees : goal.returns-in_err-stage-clause-agrees
returns-in_err-stage-clause-agrees c = λ f part.
    let follows : Follows f c.in-Some.order 0 c.long_at.result = rw c.long_at.ensures (first_follows f _ c.in-Some.order part c.requires (cc) (cc)) in
    err_told c.from_residual.result c.in_err-stage.field-0.0 _ (IsFaultOfDirectories f) c.from_residual.ensures.1 (c.in_err-stage.ensures.agrees f follows)

pub returns-clause-agrees : goal.returns-clause-agrees
returns-clause-agrees c = λ f part.
    let follows : Follows f c.in-Some.order 0 c.long_at.result = rw c.long_at.ensures (first_follows f _ c.in-Some.order part c.requires (cc) (cc)) in
    header_on f c.in_ok-stage.stage c.in_ok-stage.ensures.index (c.in_ok-stage.ensures.agrees f follows)
