use Rattle.std.proofs.Common.{◌≡◌, refl}
use Rattle.tiff_dir.specs.declared.level.Compression.TheVariants.{Plain}
use Rattle.tile_plan.specs.WindowBuilder.{HasPlan, IsPlan}
use Rattle.cog_reader.proofs.StepLemmas.{both_at}
use Rattle.cog_reader.proofs.GiveLemmas.{accepts_group}
use Rattle.cog_reader.proofs.state.tiles.paint.Goals as goal

pub paint-requires-clause-plan : goal.paint-requires-clause-plan
paint-requires-clause-plan g c =
    (both_at c.args.kept.now c.both.ensures.0 c.both.result.now (λ a. (a.level.compression ≡ Plain) × HasPlan a c.args.builder.now) c.both.ensures.1 c.requires.plan).1

pub paint-requires-clause-plain : goal.paint-requires-clause-plain
paint-requires-clause-plain g c =
    (both_at c.args.kept.now c.both.ensures.0 c.both.result.now (λ a. (a.level.compression ≡ Plain) × HasPlan a c.args.builder.now) c.both.ensures.1 c.requires.plan).0

pub returns : goal.returns
returns g c file_length w tiles ended plan keeps =
    let old = both_at c.args.kept.now c.both.ensures.0 c.both.result.now (λ a. IsPlan file_length a c.args.builder.now) c.both.ensures.1 plan in
    accepts_group file_length (g.B.Bytes.bytes c.args.bytes.now) w c.args.kept.now tiles tiles c.both.ensures.0 c.both.result.now c.args.builder.now c.paint.new.self ended keeps c.both.ensures.1 (c.paint.ensures.plan file_length old) c.paint.ensures.given.0 c.paint.ensures.given.1
    c.requires.wanted refl (λ f q u next of. (c.paint.ensures.underway f q u next, of))
