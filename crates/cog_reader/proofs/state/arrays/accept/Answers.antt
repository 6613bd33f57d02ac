use Rattle.cog_reader.proofs.StepLemmas.{level_told}
use Rattle.cog_reader.proofs.GiveLemmas.{accepts_array}
use Rattle.cog_reader.proofs.state.arrays.accept.Goals as goal

pub returns-clause-on : goal.returns-clause-on
returns-clause-on c file_length tiles =
    let l = c.index-levels-rect.result in
    let w = c.args.walk.now in
    let here = level_told w c.levels-levels.result.now c.args.rect.level l c.args.rect c.levels-levels.ensures.held c.requires.state.1 c.index-levels-rect.is c.levels-levels.ensures.levels c.law_levels_are_described.ensures.described (λ f told. c.law_what_comes.ensures.clean _ f told c.requires.state.0) in
    accepts_array file_length c.args.bytes.now w c.args.kept.now c.add.new.self tiles c.args.rect l c.order.result c.requires.state.0 c.requires.state.1 here c.requires.wanted
    (c.in_ok-add.ensures.sound w c.requires.state.0 here.there) c.in_ok-add.ensures.more c.order.ensures.order c.in_ok-add.ensures.same
    (λ f told. c.law_what_comes.ensures.over w f told c.requires.state.0)
