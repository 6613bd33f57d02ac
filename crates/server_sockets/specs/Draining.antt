-- Connections whose answers are written.
use Rattle.std.specs.Prelude.{◌≡◌, ◌+◌, ◌-◌, ◌^◌, ℕ, min, nat_eq, false, true, IsSomeAnd}
use Rattle.std.specs.HashMap.{get}
use Rattle.std.specs.declared.net.socket_addr.SocketAddr.{SocketAddr}
use Rattle.server_sockets.specs.declared.drain.Drain.{Drain}
use Rattle.server_sockets.specs.declared.open_connections.OpenConnections.{OpenConnections}

-- connection `k` has a socket and is marked as one that drains
abbrev pub DrainsAt : ℕ → OpenConnections → Type 0
DrainsAt k o = IsSomeAnd (get nat_eq o.peers k) (λ p. p.is_draining ≡ true)

-- connection `k` has a socket, and its turn is noted and hasn't come yet
abbrev pub IsReadyAt : ℕ → OpenConnections → Type 0
IsReadyAt k o = IsSomeAnd (get nat_eq o.peers k) (λ p. p.is_ready ≡ true)

-- a new connection of this client: it has a socket, doesn't drain, and no turn of it is noted
abbrev pub IsFresh : SocketAddr → ℕ → OpenConnections → Type 0
IsFresh client k o = IsSomeAnd (get nat_eq o.peers k) (λ p. (p.socket.client ≡ client) × (p.is_draining ≡ false) × (p.is_ready ≡ false))

-- the drain of a connection whose last answer is written at this moment; it ends two seconds later
abbrev pub drain_of : ℕ → ℕ → Drain
drain_of now number = record { ends = min (now + 2000) (2 ^ 64 - 1); number = number }
