use Rattle.std.proofs.Common.{◌≡◌, ◌+◌, ◌∙◌, inl, arith, false}
use Rattle.std.proofs.lemmas.Bool.{lt-ltb}
use Rattle.tiff_dir.specs.Fault.{IsFaultOfDirectories}
use Rattle.tiff_dir.specs.Level.{is_level}
use Rattle.tiff_dir.specs.Stage.{Follows}
use Rattle.tiff_dir.proofs.Bounds.{kept_less}
use Rattle.tiff_dir.proofs.Directories.{passed_follows, passed_on, directory_fault}
use Rattle.tiff_dir.proofs.Outside.{err_told}
use Rattle.tiff_dir.proofs.steps.after_table.Goals as goal

pub returns-in_err-check_directory-clause-agrees : goal.returns-in_err-check_directory-clause-agrees
returns-in_err-check_directory-clause-agrees c = λ f is before.
    let fault = c.in_err-check_directory.field-0.0 in
    err_told c.from_residual.result fault _ (IsFaultOfDirectories f) c.from_residual.ensures.1
    (directory_fault f _ _ _ _ fault is.0 (c.in_err-check_directory.ensures.told f is))

pub returns-in_err-stage-clause-agrees : goal.returns-in_err-stage-clause-agrees
returns-in_err-stage-clause-agrees c = λ f is before.
    let told = c.in_ok-check_directory.ensures.told f is in
    let passed : is_level f c.args.index ≡ false = told.0 ∙ c.if-branch.false in
    let follows : Follows f c.args.order (c.args.index + 1) c.next.result =
    rw c.next.ensures (passed_follows f _ _ _ _ _ is.0 is.1 c.requires.whole passed told.1) in
    err_told c.from_residual-in_err-stage.result c.in_err-stage.field-0.0 _ (IsFaultOfDirectories f) c.from_residual-in_err-stage.ensures.1
    (c.in_err-stage.ensures.agrees f follows)

pub returns-clause-next : goal.returns-clause-next
returns-clause-next c = record {
  kept = kept_less c.in_ok-stage.stage _ _ (omega arith) c.in_ok-stage.ensures.kept;
  some = λ h. inl (c.in_ok-check_directory.ensures.first c.if-branch.false);
  first = λ past. inl (lt-ltb 0 c.args.index (c.in_ok-check_directory.ensures.first c.if-branch.false));
}

pub returns-clause-agrees : goal.returns-clause-agrees
returns-clause-agrees c = λ f is before.
    let told = c.in_ok-check_directory.ensures.told f is in
    let passed : is_level f c.args.index ≡ false = told.0 ∙ c.if-branch.false in
    let follows : Follows f c.args.order (c.args.index + 1) c.next.result =
    rw c.next.ensures (passed_follows f _ _ _ _ _ is.0 is.1 c.requires.whole passed told.1) in
    passed_on f c.args.order c.args.index c.args.at c.args.entries c.in_ok-stage.stage passed c.in_ok-stage.ensures.index (c.in_ok-stage.ensures.agrees f follows)
