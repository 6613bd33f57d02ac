use Rattle.server_connections.proofs.YieldingLemmas.{finds_outdated}
use Rattle.server_connections.proofs.table.Connections.first_outdated.Goals as goal

pub returns : goal.returns
returns c = finds_outdated c.args.server c.args.self.now.table.entries c.longest.result c.longest.ensures
