use Rattle.std.specs.Prelude.{◌≡◌, IsSome}
use Rattle.client_sockets.specs.Sockets.{connection_of, exchanges_of, handed_of, keeps, server_of, unread_of}
use Rattle.client_sockets.proofs.socket.Socket.reach_body.Given as goal

-- It keeps its server, its count, whether it keeps its connections, and how much was handed on; an answer whose head is whole stays as it
-- is, and so does what was read after it.
abbrev pub invariant-loop : goal.invariant-loop
invariant-loop g l =
    (server_of l.self ≡ server_of l.fn.self) × (exchanges_of l.self ≡ exchanges_of l.fn.self) × (keeps l.self ≡ keeps l.fn.self)
    × (handed_of l.self ≡ handed_of l.fn.self)
    × (IsSome (connection_of l.fn.self).left → (connection_of l.self ≡ connection_of l.fn.self) × (unread_of l.self ≡ unread_of l.fn.self))
