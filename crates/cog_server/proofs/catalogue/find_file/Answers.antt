use Rattle.cog_server.proofs.CatalogueLemmas.{found_in}
use Rattle.cog_server.proofs.catalogue.find_file.Goals as goal

pub returns : goal.returns
returns c = found_in c.args.name.now c.args.files.now c.first_named.result c.first_named.ensures
