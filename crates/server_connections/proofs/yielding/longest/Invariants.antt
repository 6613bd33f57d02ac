use Rattle.std.proofs.Common.{◌≡◌, ◌++◌}
use Rattle.server_connections.specs.Table.{Table}
use Rattle.server_connections.specs.Yielding.{Finds}
use Rattle.server_connections.proofs.yielding.longest.Given as goal

abbrev pub invariant-loop-entry : goal.invariant-loop-entry
invariant-loop-entry l = record {
  seen : Table;
  all : seen ++ l.entry-iterator ≡ l.table.entries;
  finds : Finds l.candidate seen l.found;
}
