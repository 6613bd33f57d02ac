use Rattle.std.proofs.Common.{ap}
use Rattle.server_connections.proofs.TableLemmas.{falling_removed, fewer, gone, others_still}
use Rattle.server_connections.proofs.table.Connections.close.Goals as goal

pub invariant_of-self : goal.invariant_of-self
invariant_of-self c =
    record { fresh = falling_removed c.args.number c.args.self.now.next c.args.self.now.table.entries _ (ap (λ x. x.entries) c.pop.ensures.entries) c.args.self.now.fresh }

pub returns-clause-others : goal.returns-clause-others
returns-clause-others c = others_still c.args.number c.args.self.now.table.entries _ (ap (λ x. x.entries) c.pop.ensures.entries)

pub returns-clause-gone : goal.returns-clause-gone
returns-clause-gone c = gone c.args.number c.args.self.now.next c.args.self.now.table.entries _ (ap (λ x. x.entries) c.pop.ensures.entries) c.args.self.now.fresh

pub returns-clause-fewer : goal.returns-clause-fewer
returns-clause-fewer c = fewer c.args.number c.args.self.now.table.entries _ (ap (λ x. x.entries) c.pop.ensures.entries)
