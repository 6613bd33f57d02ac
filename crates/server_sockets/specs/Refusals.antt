-- What the errors of accept(2) say of a new connection ("Error handling" there, and POSIX, accept). The numbers are those of Linux on
-- x86-64 and on aarch64.
use Rattle.std.specs.Prelude.{◌≡◌, ◌⊎◌, ℤ, pos, List, [], ◌∷◌, Contains, IsSomeAnd}
use Rattle.std.specs.IoError.{error_kind, raw_os_error}
use Rattle.std.specs.declared.io.Error.{Error}
use Rattle.std.specs.declared.io.ErrorKind.TheVariants.{PermissionDenied, WouldBlock}
use Rattle.server_sockets.specs.declared.refusal.AcceptError.{AcceptError}
use Rattle.server_sockets.specs.declared.refusal.AcceptError.TheVariants.{Accept, Ask}

-- there is no room: no descriptor is left to the process (EMFILE) or to the system (ENFILE), or no memory (ENOMEM, ENOBUFS)
abbrev pub no_room : List ℤ
no_room = pos 24 ∷ pos 23 ∷ pos 12 ∷ pos 105 ∷ []

-- The connection is lost before it is accepted: ECONNABORTED, EPERM (a firewall), and reports of the network (EPROTO, ENOPROTOOPT,
-- EOPNOTSUPP, ENONET, ENETDOWN, ENETUNREACH, EHOSTDOWN, EHOSTUNREACH, ETIMEDOUT). Or a signal came (EINTR).
abbrev pub lost : List ℤ
lost = pos 103 ∷ pos 1 ∷ pos 71 ∷ pos 92 ∷ pos 95 ∷ pos 64 ∷ pos 100 ∷ pos 101 ∷ pos 112 ∷ pos 113 ∷ pos 110 ∷ pos 4 ∷ []

-- the error says that there is no room
abbrev pub HasNoRoom : Error → Type 0
HasNoRoom error = IsSomeAnd (raw_os_error error) (Contains no_room)

-- a rule of the system forbids to accept it, as of a firewall or a filter of system calls; it may still wait (EPERM, of those above)
abbrev pub IsBarred : Error → Type 0
IsBarred error = (error_kind error ≡ PermissionDenied) × IsSomeAnd (raw_os_error error) (Contains lost)

-- connections can be accepted later: none waits now, there is no room for one, or it is lost
abbrev pub IsPassing : Error → Type 0
IsPassing error = (error_kind error ≡ WouldBlock) ⊎ (HasNoRoom error ⊎ IsSomeAnd (raw_os_error error) (Contains lost))

-- the system can't be asked whether a connection waits
abbrev pub IsOfAsking : AcceptError → Type 0
IsOfAsking told = (error : Error) × (told ≡ Ask error)

-- the system can't be asked, or it accepts no connection, for a reason that doesn't pass
abbrev pub IsLasting : AcceptError → Type 0
IsLasting told = IsOfAsking told ⊎ ((error : Error) × (told ≡ Accept error) × ¬ IsPassing error)
