use Rattle.std.proofs.Common.{refl}
use Rattle.tiff_dir.specs.Fault.{IsFaultOfDirectories}
use Rattle.tiff_dir.proofs.Outside.{err_told, level_fault}
use Rattle.tiff_dir.proofs.Ends.{depth_told, shape_fault, level_follows, level_ends}
use Rattle.tiff_dir.proofs.level_steps.finish.Goals as goal

pub returns-in_err-check_shape-clause-agrees : goal.returns-in_err-check_shape-clause-agrees
returns-in_err-check_shape-clause-agrees c = λ f is bits ok258 ok339 before.
    let fault = c.in_err-check_shape.field-0.0 in
    err_told c.from_residual.result fault _ (IsFaultOfDirectories f) c.from_residual.ensures.1
    (level_fault f c.args.pending.index fault c.requires.few is.there is.level
    (shape_fault f c.args.pending.index c.args.pending.draft c.args.bits c.args.previous fault is.drafted (depth_told f c.args.pending.index c.args.bits bits c.requires.depth) before c.in_err-check_shape.ensures))

pub returns-in_err-stage-clause-agrees : goal.returns-in_err-stage-clause-agrees
returns-in_err-stage-clause-agrees c = λ f is bits ok258 ok339 before.
    let follows = level_follows f c.args.pending c.args.bits c.args.previous (record { pending = is; told = depth_told f c.args.pending.index c.args.bits bits c.requires.depth; depths = ok258; formats = ok339; before = before; shaped = c.in_ok-check_shape.ensures }) in
    err_told c.from_residual-in_err-stage.result c.in_err-stage.field-0.0 _ (IsFaultOfDirectories f) c.from_residual-in_err-stage.ensures.1
    (c.in_err-stage.ensures.agrees f follows)

pub returns-clause-end : goal.returns-clause-end
returns-clause-end c = record { kept = c.in_ok-stage.ensures.kept; some = refl }

pub returns-clause-agrees : goal.returns-clause-agrees
returns-clause-agrees c = λ f is bits ok258 ok339 before.
    let told = depth_told f c.args.pending.index c.args.bits bits c.requires.depth in
    let follows = level_follows f c.args.pending c.args.bits c.args.previous (record { pending = is; told = told; depths = ok258; formats = ok339; before = before; shaped = c.in_ok-check_shape.ensures }) in
    level_ends f c.args.pending c.args.bits c.in_ok-stage.stage c.level_of.result is told c.level_of.ensures c.in_ok-stage.ensures.index (c.in_ok-stage.ensures.agrees f follows)
