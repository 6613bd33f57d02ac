use Rattle.std.proofs.Common.{take, []}
use Rattle.world.specs.World.{start, after_all}
use Rattle.world.specs.State.{IsState, RunsKeeping}
use Rattle.world.proofs.world.run_with.Given as goal

-- what is logged so far is a run of the events so far, and the code's state is its world's
abbrev pub invariant-loop-event : goal.invariant-loop-event
invariant-loop-event l = record {
  runs : RunsKeeping start [] (take l.event-index l.events) l.log.entries.items l.log.clients.items;
  state : IsState (after_all start (take l.event-index l.events) l.log.entries.items) l.server l.log.entries.items l.places.items;
}
