use Rattle.tiff_dir.specs.declared.query.Query.TheVariants.{Info}
use Rattle.cog_reader.specs.declared.state.State.TheVariants.{Directories, GeoFields}
use Rattle.cog_reader.proofs.StepLemmas.{becomes_done, becomes_fields, geo_fault, step_more}
use Rattle.cog_reader.proofs.state.directories.begin_info.Goals as goal

pub returns-in-Err : goal.returns-in-Err
returns-in-Err c k = becomes_done c.args.file.now.file_length c.args.file.now.walk.now k _ _ _ (λ f base state. geo_fault f c.in-Err.fault (c.in-Err.ensures.fault f base.walked))

pub returns-in-Ok-next : goal.returns-in-Ok-next
returns-in-Ok-next c k =
    let w = c.args.file.now.walk.now in
    let begun = becomes_fields c.args.file.now.file_length w k c.in-Ok.places c.new-fields.result c.requires c.new-fields.ensures c.in-Ok.ensures.places (λ f told. c.law_what_comes.ensures.over w f told c.requires) in
    step_more c.args.file.now.file_length w k Info Directories (GeoFields c.new-fields.result) c.in-Ok-next.step begun (c.in-Ok-next.ensures.step k Info)
