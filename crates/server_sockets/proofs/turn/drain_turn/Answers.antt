use Rattle.server_sockets.proofs.GoingLemmas.{all_on, none_on, read_or_not}
use Rattle.std.proofs.Common.{inr}
use Rattle.server_connections.specs.declared.table.Connections.{Connections}
use Rattle.server_sockets.specs.Turns.{IsDrainedAt}
use Rattle.server_sockets.proofs.TurnLemmas.{first_tells, keeps_on, not_so}
use Rattle.server_sockets.proofs.turn.drain_turn.Goals as goal

pub returns-in-loop-clause-went : goal.returns-in-loop-clause-went
returns-in-loop-clause-went c = λ service now.
    all_on service now c.args.connections.now.table.entries c.loop.connections.table.entries c.read_some.new.connections.table.entries
    (c.loop.invariant.went service now)
    (none_on service now c.args.socket.now.number c.loop.connections.table.entries c.read_some.new.connections.table.entries c.in-Err.ensures.err)

pub loop-preserved : goal.loop-preserved
loop-preserved c = record {
  kept = keeps_on c.args.socket.now.number c.args.connections.now c.loop.connections c.read_some.new.connections
      c.loop.invariant.kept c.read_some.ensures.kept;
  comes = inr (first_tells (λ (x : Connections). ¬ IsDrainedAt c.args.socket.now.number x.table.entries) c.loop.counter
      c.args.connections.now c.loop.connections c.loop.invariant.comes
      (not_so c.is_drained.result c.if-is_drained.false c.is_drained.ensures));
  went = λ service now.
      all_on service now c.args.connections.now.table.entries c.loop.connections.table.entries c.read_some.new.connections.table.entries
      (c.loop.invariant.went service now)
      (read_or_not service now c.args.socket.now.number c.read_some.result c.read_some.new.buffer
      c.loop.connections.table.entries c.read_some.new.connections.table.entries
      c.read_some.ensures.within c.read_some.ensures.room c.read_some.ensures.came c.read_some.ensures.err);
}
