use Rattle.std.proofs.Common.{◌≡◌}
use Rattle.client_sockets.specs.Sockets.{exchanges_of, keeps, server_of}
use Rattle.client_sockets.proofs.socket.Socket.send_early.Given as goal

-- It keeps its server, its count, and whether it keeps its connections.
abbrev pub invariant-loop-request : goal.invariant-loop-request
invariant-loop-request g l =
    (server_of l.self ≡ server_of l.fn.self) × (exchanges_of l.self ≡ exchanges_of l.fn.self) × (keeps l.self ≡ keeps l.fn.self)
