use Rattle.cog_reader.proofs.StepLemmas.{level_told, some_array}
use Rattle.cog_reader.proofs.UpcomingLemmas.{next_array_comes, no_next_array}
use Rattle.cog_reader.proofs.state.arrays.wanted.Goals as goal

pub span_of-requires : goal.span_of-requires
span_of-requires c = some_array c.args.file.now.kept.now c.args.rect.level c.index-levels-rect.result c.in-Read.place c.in-Read.ensures

pub returns-in-Read : goal.returns-in-Read
returns-in-Read c =
    let w = c.args.file.now.walk.now in
    let l = c.index-levels-rect.result in
    let here = level_told w c.levels.result.now c.args.rect.level l c.args.rect c.levels.ensures.held c.requires.small c.index-levels-rect.is c.levels.ensures.levels c.law_levels_are_described.ensures.described (λ f told. c.law_what_comes.ensures.clean _ f told c.requires.ended) in
    next_array_comes c.args.file.now.file_length w c.args.file.now.kept.now c.args.rect l c.in-Read.place c.span_of.result here c.in-Read.ensures c.span_of.ensures

pub returns-in-Both : goal.returns-in-Both
returns-in-Both c =
    let w = c.args.file.now.walk.now in
    let l = c.index-levels-rect.result in
    let here = level_told w c.levels.result.now c.args.rect.level l c.args.rect c.levels.ensures.held c.requires.small c.index-levels-rect.is c.levels.ensures.levels c.law_levels_are_described.ensures.described (λ f told. c.law_what_comes.ensures.clean _ f told c.requires.ended) in
    no_next_array c.args.file.now.file_length w c.args.file.now.kept.now c.args.rect l _ here c.in-Both.ensures
