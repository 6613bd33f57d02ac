use Rattle.std.proofs.Common.{arith, subst}
use Rattle.extents.specs.Extent.{extent_of_span}
use Rattle.tiff_dir.specs.Walk.{Wants}
use Rattle.cog_reader.specs.declared.state.State.TheVariants.{Directories}
use Rattle.cog_reader.proofs.FirstLemmas.{directories_wanted}
use Rattle.cog_reader.proofs.StepLemmas.{becomes_done, becomes_same, directory_fault}
use Rattle.cog_reader.proofs.state.directories.next.Goals as goal

pub returns-in-Ok-Some-clause-step : goal.returns-in-Ok-Some-clause-step
returns-in-Ok-Some-clause-step c =
    let s = c.in-Ok-Some.span in
    let wants = subst (Wants c.args.file.now.walk.now c.args.file.now.file_length) c.in-Ok-Some.field-0-is c.in-Ok-Some.ensures.wanted in
    let up = s.ascending in
    let inside = wants.1 in
    let few = wants.2 in (
      becomes_same c.args.file.now.file_length c.args.file.now.walk.now c.args.file.now.kept.now c.args.query Directories tt,
      directories_wanted c.args.file.now.file_length c.args.file.now.walk.now c.args.file.now.kept.now (extent_of_span s) wants.0 (record { some = omega (arith, up); inside = omega (arith, inside, up); few = omega (arith, few, up) }) c.in-Ok-Some.ensures.first,
    )

pub returns-in-Err-clause-step : goal.returns-in-Err-clause-step
returns-in-Err-clause-step c =
    becomes_done c.args.file.now.file_length c.args.file.now.walk.now c.args.file.now.kept.now c.args.query _ _ (λ f base state. directory_fault f c.args.query c.in-Err.fault (c.in-Err.ensures.fault f base.size base.walked))
