use Rattle.std.proofs.Common.{◌≡◌, ◌+◌, ◌<◌, arith, sym, subst}
use Rattle.cog_reader.specs.declared.kept_arrays.KeptArrays.{KeptArrays}
use Rattle.cog_reader.specs.declared.state.State.TheVariants.{Arrays, Tiles}
use Rattle.tile_plan.specs.Levels.{rectangle_of}
use Rattle.tile_plan.specs.Plan.{IsErrorOf}
use Rattle.cog_reader.specs.KeptArrays.{IsKeptOf}
use Rattle.cog_reader.specs.ReaderStep.{IsStep}
use Rattle.cog_reader.proofs.FirstLemmas.{array_wanted}
use Rattle.cog_reader.proofs.StepLemmas.{becomes_done, becomes_same, becomes_tiles, fair_array, level_told, past_array, planned, some_array, step_more, window_fault}
use Rattle.cog_reader.proofs.state.arrays.next.Goals as goal

pub span_of-requires : goal.span_of-requires
span_of-requires c = some_array c.args.file.now.kept.now c.args.rect.level c.index-levels-rect.result c.in-Read.place c.in-Read.ensures

pub returns-in-None-clause-step : goal.returns-in-None-clause-step
returns-in-None-clause-step c q =
    let l = c.index-levels-rect.result in
    let here = level_told c.args.file.now.walk.now c.levels.result.now c.args.rect.level l c.args.rect c.levels.ensures.held c.requires.small c.index-levels-rect.is c.levels.ensures.levels c.law_levels_are_described.ensures.described (λ f told. c.law_what_comes.ensures.clean _ f told c.requires.ended) in
    becomes_done c.args.file.now.file_length c.args.file.now.walk.now c.args.file.now.kept.now q _ _
    (λ f base state. past_array f q c.args.rect l c.args.file.now.kept.now c.in-Read.place state.0 state.1 (here.layout f base.walked) c.in-Read.ensures (subst (λ n. n < c.in-Read.place.first + c.in-Read.place.len) (sym base.size) c.in-None.ensures))

pub returns-in-Some-clause-step : goal.returns-in-Some-clause-step
returns-in-Some-clause-step c q =
    let l = c.index-levels-rect.result in
    let w = c.args.file.now.walk.now in
    let k = c.args.file.now.kept.now in
    let p = c.in-Read.place in
    let here = level_told w c.levels.result.now c.args.rect.level l c.args.rect c.levels.ensures.held c.requires.small c.index-levels-rect.is c.levels.ensures.levels c.law_levels_are_described.ensures.described (λ f told. c.law_what_comes.ensures.clean _ f told c.requires.ended) in
    let within = c.in-Some.ensures.1 in (
      becomes_same c.args.file.now.file_length w k q (Arrays c.args.rect) (c.requires.ended, c.requires.small),
      array_wanted c.args.file.now.file_length w k c.args.rect l p c.in-Some.span here c.in-Read.ensures c.in-Some.ensures.0 (fair_array c.args.file.now.file_length k c.args.rect.level l p c.in-Read.ensures (λ past. omega (arith, past, within))),
    )

pub returns-in-Ok-clause-step : goal.returns-in-Ok-clause-step
returns-in-Ok-clause-step c q =
    let l = c.index-levels-rect.result in
    let w = c.args.file.now.walk.now in
    let a = c.in-Both.arrays.now in
    let here = level_told w c.levels.result.now c.args.rect.level l c.args.rect c.levels.ensures.held c.requires.small c.index-levels-rect.is c.levels.ensures.levels c.law_levels_are_described.ensures.described (λ f told. c.law_what_comes.ensures.clean _ f told c.requires.ended) in
    let held = subst (IsKeptOf w) c.in-Both.ensures c.requires.kept in
    let same : l ≡ a.level = cc (here.there, held.1) in
    let begun = becomes_tiles c.args.file.now.file_length w c.args.file.now.kept.now q c.args.rect l a c.in-Ok.builder c.requires.ended here c.in-Both.ensures same c.in-Ok.ensures.plan c.in-Ok.ensures.none.0 (λ f size p. c.in-Ok.ensures.underway f q size p) in
    step_more c.args.file.now.file_length w c.args.file.now.kept.now q (Arrays c.args.rect) (Tiles c.in-Ok.builder) c.next-in-Ok.result begun
    (subst (λ (k : KeptArrays). IsStep c.args.file.now.file_length w k q (Tiles c.in-Ok.builder) c.next-in-Ok.result) (sym c.in-Both.ensures)
    (c.next-in-Ok.ensures.step c.args.file.now.file_length c.args.rect.level w q c.requires.ended c.in-Ok.ensures.plan))

pub returns-in-Err-File-clause-step : goal.returns-in-Err-File-clause-step
returns-in-Err-File-clause-step c q =
    let l = c.index-levels-rect.result in
    let w = c.args.file.now.walk.now in
    let a = c.in-Both.arrays.now in
    let here = level_told w c.levels.result.now c.args.rect.level l c.args.rect c.levels.ensures.held c.requires.small c.index-levels-rect.is c.levels.ensures.levels c.law_levels_are_described.ensures.described (λ f told. c.law_what_comes.ensures.clean _ f told c.requires.ended) in
    let held = subst (IsKeptOf w) c.in-Both.ensures c.requires.kept in
    let same : l ≡ a.level = cc (here.there, held.1) in
    becomes_done c.args.file.now.file_length w c.args.file.now.kept.now q _ _
    (λ f base state. rw c.in-Err-File.field-0-is (window_fault f q (rectangle_of c.args.rect) c.in-Err-File.fault state.0 (subst (IsErrorOf f q) c.in-Err-File.field-0-is
    (c.in-Err-File.ensures.refused f q base.size (planned f q c.args.file.now.file_length w c.args.file.now.kept.now c.args.rect l a base state here c.in-Both.ensures same)))))
