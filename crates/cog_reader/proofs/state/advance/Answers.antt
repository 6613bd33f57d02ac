use Rattle.std.proofs.Common.{sym, subst}
use Rattle.cog_reader.specs.declared.kept_arrays.KeptArrays.{KeptArrays}
use Rattle.cog_reader.specs.declared.state.State.{State}
use Rattle.cog_reader.specs.declared.state.State.TheVariants.{Tiles}
use Rattle.tile_plan.specs.WindowBuilder.{IsPlan}
use Rattle.cog_reader.specs.Reader.{IsState}
use Rattle.cog_reader.specs.ReaderStep.{IsStep}
use Rattle.cog_reader.proofs.StepLemmas.{both_at}
use Rattle.cog_reader.proofs.state.advance.Goals as goal

pub returns-in-Ok-next-clause-step : goal.returns-in-Ok-next-clause-step
returns-in-Ok-next-clause-step c =
    subst (λ (s : State). IsStep c.args.file.now.file_length c.args.file.now.walk.now c.args.file.now.kept.now c.args.query s c.in-Ok-next.step) (sym c.in-Arrays.is) (c.in-Ok-next.ensures.step c.args.query)

pub returns-in-Tiles-clause-step : goal.returns-in-Tiles-clause-step
returns-in-Tiles-clause-step c =
    let file_length = c.args.file.now.file_length in
    let w = c.args.file.now.walk.now in
    let k = c.args.file.now.kept.now in
    let here = subst (IsState file_length w k) c.in-Tiles.is c.requires.state in
    let plan = both_at k c.both.ensures.0 c.both.result.now (λ a. IsPlan file_length a c.in-Tiles.builder) c.both.ensures.1 here.1 in
    subst (λ (s : State). IsStep file_length w k c.args.query s c.next-in-Tiles.result) (sym c.in-Tiles.is)
    (subst (λ (k : KeptArrays). IsStep file_length w k c.args.query (Tiles c.in-Tiles.builder) c.next-in-Tiles.result) (sym c.both.ensures.1)
    (c.next-in-Tiles.ensures.step file_length c.both.ensures.0 w c.args.query here.0 plan))

pub returns-in-Ok-next-2-clause-step : goal.returns-in-Ok-next-2-clause-step
returns-in-Ok-next-2-clause-step c =
    subst (λ (s : State). IsStep c.args.file.now.file_length c.args.file.now.walk.now c.args.file.now.kept.now c.args.query s c.in-Ok-next-2.step) (sym c.in-GeoFields.is) (c.in-Ok-next-2.ensures.step c.args.file.now.kept.now c.args.query)
