use Rattle.std.proofs.Common.{sym}
use Rattle.cog_reader.proofs.StepLemmas.{level_told}
use Rattle.cog_reader.proofs.UpcomingLemmas.{later_array, some_later}
use Rattle.cog_reader.proofs.state.arrays.upcoming.Goals as goal

pub span_of-requires : goal.span_of-requires
span_of-requires c = some_later c.args.file.now.kept.now c.args.rect.level c.index-levels-rect.result c.in_ok-place.place (sym c.in_ok-place.ensures)

pub returns : goal.returns
returns c =
    let w = c.args.file.now.walk.now in
    let l = c.index-levels-rect.result in
    let here = level_told w c.levels.result.now c.args.rect.level l c.args.rect c.levels.ensures.held c.requires.small c.index-levels-rect.is c.levels.ensures.levels c.law_levels_are_described.ensures.described (λ f told. c.law_what_comes.ensures.clean _ f told c.requires.ended) in
    later_array c.args.file.now.file_length w c.args.file.now.kept.now c.args.rect l c.in_ok-place.place c.span_of.result here (sym c.in_ok-place.ensures) c.span_of.ensures
