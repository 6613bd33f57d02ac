use Rattle.std.proofs.Common.{◌∙◌, sym}
use Rattle.tiff_dir.specs.Table.{entries_of}
use Rattle.tiff_dir.specs.Fault.{IsFaultOfDirectory}
use Rattle.tiff_dir.specs.Stage.{HasTable}
use Rattle.tiff_dir.proofs.Fields.{has_table}
use Rattle.tiff_dir.proofs.Outside.{err_told}
use Rattle.tiff_dir.proofs.Directories.{tags_fault, subfile_fault, shape_fault, is_level_told, directory_clean}
use Rattle.tiff_dir.proofs.level_steps.check_directory.Goals as goal

pub returns-then-not-ascends-clause-told : goal.returns-then-not-ascends-clause-told
returns-then-not-ascends-clause-told c = λ f is.
    tags_fault f c.args.index _ (has_table f _ _ _ _ _ is c.args.table.now.whole) (sym c.ascends.ensures ∙ c.if-not-ascends.true)

pub returns-in_err-check_rule-clause-told : goal.returns-in_err-check_rule-clause-told
returns-in_err-check_rule-clause-told c = λ f is.
    let has : HasTable f c.args.index (entries_of c.args.table.now) =
    has_table f _ _ _ _ _ is c.args.table.now.whole in
    err_told c.from_residual.result c.in_err-check_rule.field-0.0 _ (IsFaultOfDirectory f c.args.index) c.from_residual.ensures.1
    (subfile_fault f c.args.index _ c.in_err-check_rule.field-0.0 has c.in_err-check_rule.ensures)

pub returns-then-is_reduced_first-clause-told : goal.returns-then-is_reduced_first-clause-told
returns-then-is_reduced_first-clause-told c = λ f is.
    let has : HasTable f c.args.index (entries_of c.args.table.now) =
    has_table f _ _ _ _ _ is c.args.table.now.whole in
    shape_fault f c.args.index _ has c.in_ok-check_rule.ensures (rw (← c.single-subfile.ensures) (sym c.is_reduced_first.ensures ∙ c.if-is_reduced_first.true))

pub returns-clause-told : goal.returns-clause-told
returns-clause-told c = λ f is.
    let has : HasTable f c.args.index (entries_of c.args.table.now) =
    has_table f _ _ _ _ _ is c.args.table.now.whole in
    let level = is_level_told f c.args.index _ has c.in_ok-check_rule.ensures in (
      rw (c.counts_as_level.ensures, c.single-subfile.ensures) level,
      directory_clean f _ _ _ _ _ is.0 has (sym c.ascends.ensures ∙ c.if-not-ascends.false) c.in_ok-check_rule.ensures
          (rw (← c.single-subfile.ensures) (sym c.is_reduced_first.ensures ∙ c.if-is_reduced_first.false)),
    )
