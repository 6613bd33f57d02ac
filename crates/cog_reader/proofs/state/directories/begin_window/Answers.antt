use Rattle.std.proofs.Common.{inl, inr}
use Rattle.tiff_dir.specs.declared.query.Query.{Query}
use Rattle.cog_reader.specs.declared.state.State.TheVariants.{Directories, Arrays}
use Rattle.cog_reader.specs.declared.state.ReaderStep.{ReaderStep}
use Rattle.cog_reader.specs.ReaderStep.{IsStep}
use Rattle.cog_reader.proofs.StepLemmas.{becomes_done, becomes_window, if_ok, own_fault, step_more}
use Rattle.cog_reader.proofs.state.directories.begin_window.Goals as goal

pub returns-in-Ok-clause-step : goal.returns-in-Ok-clause-step
returns-in-Ok-clause-step c =
    let w = c.args.file.now.walk.now in
    let k = c.args.file.now.kept.now in
    let begun = becomes_window c.args.file.now.file_length w k c.args.query c.levels.result.now c.in-Ok.rect c.requires.ended c.levels.ensures.held c.in-Ok.ensures.asked
    (λ f told. record { levels = c.levels.ensures.levels f told; each = λ n l. c.law_levels_are_described.ensures.described f _ n l (c.levels.ensures.levels f told) }) (λ f told. c.law_what_comes.ensures.over w f told c.requires.ended) in
    if_ok c.next.result (λ (step : ReaderStep). (q : Query) → IsStep c.args.file.now.file_length w k q (Arrays c.in-Ok.rect) step) (λ (step : ReaderStep). IsStep c.args.file.now.file_length w k c.args.query Directories step) c.next.ensures.step
    (λ step more. step_more c.args.file.now.file_length w k c.args.query Directories (Arrays c.in-Ok.rect) step begun (more c.args.query))

pub returns-in-Err-clause-step : goal.returns-in-Err-clause-step
returns-in-Err-clause-step c =
    becomes_done c.args.file.now.file_length c.args.file.now.walk.now c.args.file.now.kept.now c.args.query _ _
    (λ f base state. own_fault f c.args.query c.in-Err.fault c.requires.window (elim c.in-Err.ensures.refused [
      | inl info ↦ absurd (c.requires.window info)
      | inr refused ↦ refused f (record { levels = c.levels.ensures.levels f base.walked; each = λ n l. c.law_levels_are_described.ensures.described f _ n l (c.levels.ensures.levels f base.walked) })
    ]))
