use Rattle.std.proofs.Common.{inl, inr}
use Rattle.server_connections.specs.declared.candidate.Candidate.TheVariants.{Draining, Idle, Stuck}
use Rattle.server_connections.specs.Yielding.{MayYield}
use Rattle.server_connections.proofs.YieldingLemmas.{longest_there}
use Rattle.server_connections.proofs.table.Connections.yields.Goals as goal

pub returns-in-Some-clause-found : goal.returns-in-Some-clause-found
returns-in-Some-clause-found c =
    let own = c.args.self.now in
    longest_there (MayYield c.args.now c.args.patience) Draining own.table.entries c.in-Some.number c.in-Some._moment own.next (λ p is. inl is) own.fresh c.in-Some.ensures

pub returns-in-Some-longest-clause-found : goal.returns-in-Some-longest-clause-found
returns-in-Some-longest-clause-found c =
    let own = c.args.self.now in
    longest_there (MayYield c.args.now c.args.patience) Idle own.table.entries c.in-Some-longest.number c.in-Some-longest._moment own.next (λ p is. inr (inl is)) own.fresh c.in-Some-longest.ensures

pub returns-in-Some-longest-2-clause-found : goal.returns-in-Some-longest-2-clause-found
returns-in-Some-longest-2-clause-found c =
    let own = c.args.self.now in
    longest_there (MayYield c.args.now c.args.patience) (Stuck c.args.now c.args.patience) own.table.entries c.in-Some-longest-2.number c.in-Some-longest-2._moment own.next (λ p is. inr (inr is)) own.fresh c.in-Some-longest-2.ensures
