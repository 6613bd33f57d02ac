use Rattle.std.proofs.Common.{◌≡◌, ◌<◌, ◌⊎◌}
use Rattle.cog_server.specs.Service.{service_of}
use Rattle.server_sockets.specs.Going.{AllWentOn}
use Rattle.server_sockets.specs.Turns.{IsOpenAt, KeepsSlots}
use Rattle.server_sockets.proofs.turn.serve_turn.Given as goal

abbrev pub invariant-loop : goal.invariant-loop
invariant-loop g l = record {
  some : 0 < l.most;
  kept : KeepsSlots l.socket.number l.fn.connections l.connections;
  went : AllWentOn (service_of l.service) l.now l.fn.connections.table.entries l.connections.table.entries;
  unended : ((l.counter ≡ 0) × (l.connections ≡ l.fn.connections)) ⊎ IsOpenAt l.socket.number l.fn.connections.table.entries;
  unanswered : l.log.unanswered.ghost_name ≡ l.fn.log.unanswered.ghost_name;
}
