-- What a connection's turn does, and when it comes to an end.
use Rattle.std.specs.Prelude.{◌≡◌, ◌≢◌, ◌⊎◌, ℕ, [], nat_eq, IfSome, IsSomeAnd, IsTrue, Option, None, Some, is_some}
use Rattle.std.specs.HashMap.{HashMap, get}
use Rattle.std.specs.declared.io.ErrorKind.{ErrorKind}
use Rattle.std.specs.declared.io.ErrorKind.TheVariants.{Interrupted, WouldBlock}
use Rattle.std.specs.Map.{remove_entry}
use Rattle.http_range.specs.Stream.{IsUnfinished}
use Rattle.cog_server.specs.Status.{EndsBy, is_drained, start}
use Rattle.cog_server.specs.declared.served.Ended.{Ended}
use Rattle.server_connections.specs.declared.table.Connections.{Connections}
use Rattle.server_connections.specs.declared.timed.Timed.{Timed}
use Rattle.server_connections.specs.Table.{Table, OthersStay, timed_at}
use Rattle.server_connections.specs.Yielding.{IsUntried, Yields}
use Rattle.server_sockets.specs.declared.turn.Turn.{Turn}
use Rattle.server_sockets.specs.declared.turn.Turn.TheVariants.{Failed}

-- Each connection except `k` is as it was, and `k` has its slot or none as before. The number of slots and the next number stay.
pub record KeepsSlots (k : ℕ) (old new : Connections) : Type 0 where
  pub here : is_some (timed_at k new.table.entries) ≡ is_some (timed_at k old.table.entries)
  pub others : OthersStay k old.table.entries new.table.entries
  pub cap : new.table.cap ≡ old.table.cap
  pub next : new.next ≡ old.next

-- connection `k` has its slot, and starts at this moment: nothing came on it, and its progress is counted from now on
abbrev pub HasStartedAt : ℕ → ℕ → Table → Type 0
HasStartedAt k now table = timed_at k table ≡ Some (record { connection = start; progress = now; tried = now })

-- all answers of connection `k` are written, and no more come; or there is no such connection
abbrev pub HasEndedAt : ℕ → Table → Type 0
HasEndedAt k table = IfSome (timed_at k table) (λ p. (ended : Ended) × EndsBy p.connection (Some ended))

-- there is a connection `k`, and not all its answers are written, or more may come
abbrev pub IsOpenAt : ℕ → Table → Type 0
IsOpenAt k table = IsSomeAnd (timed_at k table) (λ p. EndsBy p.connection None)

-- nothing more may come on connection `k`, or there is no such connection
abbrev pub IsDrainedAt : ℕ → Table → Type 0
IsDrainedAt k table = IfSome (timed_at k table) (λ p. IsTrue (is_drained p.connection))

-- at this moment a write to connection `k` was tried, if there is one
abbrev pub IsTriedAt : ℕ → ℕ → Table → Type 0
IsTriedAt now k table = IfSome (timed_at k table) (λ p. p.tried ≡ now)

-- Bytes wait to be written, and the socket was tried at this moment. Or none wait, and no whole message is left to be answered.
abbrev pub IsAtRest : ℕ → Timed → Type 0
IsAtRest now p =
    ((p.connection.waiting ≢ []) × (p.tried ≡ now)) ⊎ ((p.connection.waiting ≡ []) × IsUnfinished p.connection.held)

-- there is a connection `k`, and it is at rest
abbrev pub RestsAt : ℕ → ℕ → Table → Type 0
RestsAt now k table = IsSomeAnd (timed_at k table) (IsAtRest now)

-- an error of this kind doesn't say that the socket would block, nor that a signal came
abbrev pub IsFailure : ErrorKind → Type 0
IsFailure kind = (kind ≢ WouldBlock) × (kind ≢ Interrupted)

-- the turn failed
abbrev pub HasFailed : Turn → Type 0
HasFailed turn = (kind : ErrorKind) × (turn ≡ Failed kind)

-- if the turn failed, it was by such an error
abbrev pub FailsRightly : Turn → Type 0
FailsRightly turn = (kind : ErrorKind) → turn ≡ Failed kind → IsFailure kind

-- Of the sockets that are to be tried at this moment, one was tried the longest ago. It is tried, or its connection has lost its slot.
abbrev pub TriesOne : ℕ → ℕ → Table → Table → Type 0
TriesOne now patience old new =
    (found : Option ℕ) × IsUntried now patience old found × IfSome found (λ k. IsTriedAt now k new)

-- the connection that loses its slot to a new one at this moment is taken away, and no other
abbrev pub GivesSlot : ℕ → ℕ → Table → Table → Type 0
GivesSlot now patience old new =
    (k : ℕ) × Yields now patience old (Some k) × (new ≡ remove_entry (nat_eq k) old)

-- each connection has a socket exactly as long as it has a slot, and it is the socket of its number
pub record HaveSockets {ConnectionSocket S : Type 0} (number_of : ConnectionSocket → ℕ) (sockets : HashMap ℕ ConnectionSocket S) (table : Table) : Type 0 where
  pub paired : (k : ℕ) → is_some (get nat_eq sockets k) ≡ is_some (timed_at k table)
  pub own : (k : ℕ) (socket : ConnectionSocket) → get nat_eq sockets k ≡ Some socket → number_of socket ≡ k
