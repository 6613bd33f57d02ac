use Rattle.std.proofs.Common.{sym}
use Rattle.server_connections.specs.Table.{timed_after_write}
use Rattle.server_connections.proofs.TableLemmas.{changes, falling_set}
use Rattle.server_connections.proofs.table.Connections.wrote.Goals as goal

pub invariant_of-self-2 : goal.invariant_of-self-2
invariant_of-self-2 c =
    record { fresh = falling_set c.args.number c.args.self.now.next c.args.self.now.table.entries c.wrote.new.self c.args.self.now.fresh }

pub returns-clause-table : goal.returns-clause-table
returns-clause-table c =
    changes c.args.number (timed_after_write c.args.n c.args.now) c.args.self.now.table.entries c.in-Some.timed.now c.wrote.new.self
    (sym c.in-Some.ensures.value) (λ i. record { connection = c.wrote.ensures.connection i; progress = c.wrote.ensures.progress i; tried = c.wrote.ensures.tried i })
