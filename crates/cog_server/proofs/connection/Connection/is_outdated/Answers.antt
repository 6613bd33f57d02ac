use Rattle.std.proofs.Common.{Some, sym, ap, ◌∙◌}
use Rattle.cog_server.specs.Status.{Status}
use Rattle.cog_server.proofs.CatalogueLemmas.{outdated_by}
use Rattle.cog_server.proofs.connection.Connection.is_outdated.Goals as goal

pub returns-in-Some : goal.returns-in-Some
returns-in-Some c =
    outdated_by c.in-Some.tag c.files.result.now c.args.server.now.catalogue c.args.self.now c.has_tag.result
    (ap (λ (s : Status). s.tag) (sym c.self.view_is) ∙ c.in-Some.is) c.has_tag.ensures c.files.ensures
