-- What a wait for events reports (epoll(7)).
use Rattle.std.specs.Prelude.{◌≡◌, ◌⊎◌, ℕ, List, map, Contains, None}
use Rattle.mio.specs.declared.event.event.Event.{Event}
use Rattle.mio.specs.Event.{event_token}
use Rattle.server_connections.specs.Table.{timed_at}
use Rattle.server_sockets.specs.Draining.{IsReadyAt}
use Rattle.server_sockets.specs.declared.open_connections.OpenConnections.{OpenConnections}

-- the numbers of the sockets that are ready
abbrev pub sockets_of : List Event → List ℕ
sockets_of events = map (λ event. (event_token event).0) events

-- Connection `k` is in the queue, was marked as queued before, or has no slot.
abbrev pub IsQueued : ℕ → List ℕ → OpenConnections → OpenConnections → Type 0
IsQueued k queue old new = Contains queue k ⊎ (IsReadyAt k old ⊎ (timed_at k new.connections.table.entries ≡ None))
