-- The error of a server when no connection can be accepted any more.
use Rattle.std.specs.Prelude.{⊤}
use Rattle.server_sockets.specs.declared.refusal.AcceptError.{AcceptError}
use Rattle.server_sockets.specs.declared.refusal.AcceptError.TheVariants.{Accept, Ask}
use Rattle.server_files.specs.declared.error.ServeFilesError.{ServeFilesError}
use Rattle.server_files.specs.declared.error.ServeFilesError.TheVariants.{CantAccept, CantListen, CantWait}

-- no connection is accepted, or no wait for one is possible
abbrev pub error_of : AcceptError → ServeFilesError
error_of (Accept error) = CantAccept error
error_of (Ask error) = CantWait error

-- the error is of sockets: none listens, no connection is accepted, or no wait for one is possible
abbrev pub IsOfSockets : ServeFilesError → Type 0
IsOfSockets (CantListen error) = ⊤
IsOfSockets (CantAccept error) = ⊤
IsOfSockets (CantWait error) = ⊤
IsOfSockets why = ⊥
