use Rattle.tile_plan.specs.WindowBuilder.{HasPlan, IsPlan}
use Rattle.cog_reader.proofs.StepLemmas.{both_at}
use Rattle.cog_reader.proofs.GiveLemmas.{accepts_group, tells_group}
use Rattle.cog_reader.proofs.state.tiles.accept.Goals as goal

pub give-requires-clause-plan : goal.give-requires-clause-plan
give-requires-clause-plan c = both_at c.args.kept.now c.both.ensures.0 c.both.result.now (λ a. HasPlan a c.args.builder.now) c.both.ensures.1 c.requires.plan

pub returns-in-Ok : goal.returns-in-Ok
returns-in-Ok c file_length w ended plan keeps =
    let old = both_at c.args.kept.now c.both.ensures.0 c.both.result.now (λ a. IsPlan file_length a c.args.builder.now) c.both.ensures.1 plan in
    accepts_group file_length c.args.bytes.now w c.args.kept.now c.args.tile_cache.now c.give.new.tile_cache c.both.ensures.0 c.both.result.now c.args.builder.now c.give.new.self ended keeps c.both.ensures.1 (c.in-Ok.ensures.plan file_length old) c.in-Ok.ensures.given.0 c.in-Ok.ensures.given.1
    c.requires.wanted c.give.ensures.most (λ f q u next of. (c.in-Ok.ensures.underway f q u next of, c.give.ensures.kept f q u next of))

pub returns-in-Err : goal.returns-in-Err
returns-in-Err c file_length w ended plan keeps =
    tells_group file_length c.args.bytes.now w c.args.kept.now c.args.tile_cache.now c.give.new.tile_cache c.both.ensures.0 c.both.result.now c.args.builder.now c.give.new.self c.in-Err.fault c.both.ensures.1 (λ f q u next. c.in-Err.ensures.damaged f q u next) (λ f q u next of. c.give.ensures.kept f q u next of) c.give.ensures.most
