use Rattle.std.proofs.Common.{◌≡◌, true}
use Rattle.server_connections.specs.declared.candidate.Candidate.TheVariants.{Overdue}
use Rattle.server_connections.specs.declared.timed.Timed.{Timed}
use Rattle.server_connections.specs.Yielding.{is_overdue}
use Rattle.server_connections.proofs.YieldingLemmas.{longest_there}
use Rattle.server_connections.proofs.table.Connections.overdue.Goals as goal

pub returns-clause-found : goal.returns-clause-found
returns-clause-found c =
    let own = c.args.self.now in
    longest_there (λ (p : Timed). is_overdue c.args.server.now.catalogue c.args.now c.args.patience p ≡ true)
    (Overdue c.args.server c.args.now c.args.patience) own.table.entries c.in_ok-number.number c.in_ok-number._moment own.next (λ p is. is) own.fresh
    c.in_ok-number.ensures
