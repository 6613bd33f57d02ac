use Rattle.std.proofs.Common.{sym}
use Rattle.cog_server.specs.Status.{after_end}
use Rattle.server_connections.specs.declared.timed.Timed.{Timed}
use Rattle.server_connections.proofs.TableLemmas.{changes, falling_set}
use Rattle.server_connections.proofs.table.Connections.came_to_end.Goals as goal

pub invariant_of-self-2 : goal.invariant_of-self-2
invariant_of-self-2 c =
    record { fresh = falling_set c.args.number c.args.self.now.next c.args.self.now.table.entries c.came_to_end.new.self c.args.self.now.fresh }

pub returns-clause-table : goal.returns-clause-table
returns-clause-table c =
    changes c.args.number (λ (p : Timed). record { connection = after_end p.connection; progress = p.progress; tried = p.tried }) c.args.self.now.table.entries
    c.in-Some.timed.now c.came_to_end.new.self (sym c.in-Some.ensures.value) c.came_to_end.ensures
