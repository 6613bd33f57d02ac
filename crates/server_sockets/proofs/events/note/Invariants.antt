use Rattle.std.specs.Prelude.{◌≡◌, ◌≢◌, ◌↔◌, ◌≤◌, ◌++◌, ℕ, Contains, IsTrue, None, Some}
use Rattle.std.specs.Slice.Iter.{iter_rest}
use Rattle.mio.specs.Events.{items}
use Rattle.server_connections.specs.Table.{timed_at}
use Rattle.server_connections.specs.declared.timed.Timed.{Timed}
use Rattle.server_sockets.specs.declared.events.TheConstants.{LISTENER}
use Rattle.server_sockets.specs.Closings.{BeginsWith}
use Rattle.server_sockets.specs.Draining.{IsReadyAt}
use Rattle.server_sockets.specs.Waits.{IsQueued, sockets_of}
use Rattle.server_sockets.proofs.EventLemmas.{seen}
use Rattle.server_sockets.proofs.events.note.Given as goal

abbrev pub invariant-loop-event : goal.invariant-loop-event
invariant-loop-event l = record {
  all : seen l.yielded ++ iter_rest l.event-iterator ≡ items l.fn.events;
  heard : IsTrue l.accept_pending ↔ Contains (sockets_of (seen l.yielded)) LISTENER.0;
  queued : (k : ℕ) → Contains (sockets_of (seen l.yielded)) k → k ≢ LISTENER.0
      → IsQueued k l.ready.items l.fn.open_connections l.open_connections;
  marked : (k : ℕ) → IsReadyAt k l.open_connections → IsQueued k l.ready.items l.fn.open_connections l.open_connections;
  begins : BeginsWith l.ready.items l.fn.ready.items;
  slots : (k : ℕ) → timed_at k l.fn.open_connections.connections.table.entries ≡ None → timed_at k l.open_connections.connections.table.entries ≡ None;
  same : (k : ℕ) (p : Timed) → timed_at k l.open_connections.connections.table.entries ≡ Some p → timed_at k l.fn.open_connections.connections.table.entries ≡ Some p;
  ended : l.fn.open_connections.ended ≤ l.open_connections.ended;
  cap : l.open_connections.connections.table.cap ≡ l.fn.open_connections.connections.table.cap;
}
