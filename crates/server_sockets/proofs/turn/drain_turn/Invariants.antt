use Rattle.std.specs.Prelude.{◌≡◌, ◌⊎◌, ℕ}
use Rattle.cog_server.specs.Additions.{ServiceState}
use Rattle.server_sockets.specs.Going.{AllWentOn}
use Rattle.server_sockets.specs.Turns.{IsDrainedAt, KeepsSlots}
use Rattle.server_sockets.proofs.turn.drain_turn.Given as goal

abbrev pub invariant-loop : goal.invariant-loop
invariant-loop l = record {
  kept : KeepsSlots l.socket.number l.fn.connections l.connections;
  comes : ((l.counter ≡ 0) × (l.connections ≡ l.fn.connections)) ⊎ (¬ IsDrainedAt l.socket.number l.fn.connections.table.entries);
  went : (service : ServiceState) (now : ℕ) → AllWentOn service now l.fn.connections.table.entries l.connections.table.entries;
}
