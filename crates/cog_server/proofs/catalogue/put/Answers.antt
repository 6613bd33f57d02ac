use Rattle.std.proofs.Common.{map, sym, ap, ◌∙◌}
use Rattle.cog_server.specs.Catalogue.{publication, put_at}
use Rattle.cog_server.proofs.CatalogueLemmas.{map-set}
use Rattle.cog_server.proofs.catalogue.put.Goals as goal

pub returns-in-Some-clause-ok : goal.returns-in-Some-clause-ok
returns-in-Some-clause-ok c =
    map-set publication c.args.files.now.items c.in-Some.i c.args.file
    ∙ ap (λ o. put_at o (publication c.args.file) (map publication c.args.files.now.items)) (sym c.in-Some.is)
