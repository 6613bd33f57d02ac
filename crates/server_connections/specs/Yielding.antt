-- Which connection loses its slot to a new one when the table is full.
use Rattle.std.specs.Prelude.{◌≡◌, ◌⊎◌, ◌≤◌, ◌+◌, ◌-◌, ◌/◌, ◌^◌, ◌==◌, ◌&&◌, ◌||◌, ℕ, nat_le, nat_lt, not, length, Bool, true, false, Option, Some, None, Contains, All}
use Rattle.http_range.specs.Book.{Catalogue}
use Rattle.cog_server.specs.Status.{is_draining, is_idle, is_outdated}
use Rattle.server_connections.specs.declared.timed.Timed.{Timed}
use Rattle.server_connections.specs.declared.candidate.Candidate.{Candidate}
use Rattle.server_connections.specs.declared.candidate.Candidate.TheVariants.{Draining, Idle, Stuck, Untried, Waiting, Any, Outdated, Overdue}
use Rattle.server_connections.specs.Table.{Table}

-- bytes wait to be written on the connection
abbrev pub has_waiting : Timed → Bool
has_waiting p = not (length p.connection.waiting == 0)

-- The connection has made no progress for as long as the patience. If bytes wait on it, its socket was tried at this very moment.
abbrev pub is_stuck : ℕ → ℕ → Timed → Bool
is_stuck now patience p = nat_le patience (now - p.progress) && (p.tried == now || not (has_waiting p))

-- half of the patience: the longest time between two tries of a socket while a new connection waits
abbrev pub half_of : ℕ → ℕ
half_of patience = patience - patience / 2

-- Bytes wait on the connection, and its socket is to be tried at this moment. Half of the patience has passed since the last try, or it has
-- made no progress for as long as the patience.
abbrev pub is_untried : ℕ → ℕ → Timed → Bool
is_untried now patience p =
    (nat_le (half_of patience) (now - p.tried) || (nat_le patience (now - p.progress) && not (p.tried == now))) && has_waiting p

-- the connection is stuck, and keeps bytes of a file that is no longer published
abbrev pub is_overdue : Catalogue → ℕ → ℕ → Timed → Bool
is_overdue catalogue now patience p = is_stuck now patience p && is_outdated catalogue p.connection

-- the connection is such a candidate
abbrev pub passes : Candidate → Timed → Bool
passes Draining p = is_draining p.connection
passes Idle p = is_idle p.connection
passes (Stuck now patience) p = is_stuck now patience p
passes (Untried now patience) p = is_untried now patience p
passes Waiting p = has_waiting p
passes Any p = true
passes (Outdated server) p = is_outdated server.now.catalogue p.connection
passes (Overdue server now patience) p = is_overdue server.now.catalogue now patience p

-- the moment from which a candidate's wait counts: the last try for `Untried` and `Waiting`, and the last progress for the others
abbrev pub since : Candidate → Timed → ℕ
since Draining p = p.progress
since Idle p = p.progress
since (Stuck now patience) p = p.progress
since (Untried now patience) p = p.tried
since Waiting p = p.tried
since Any p = p.progress
since (Outdated server) p = p.progress
since (Overdue server now patience) p = p.progress

abbrev pub HasNone : Candidate → Table → Type 0
HasNone candidate table = All (λ e. passes candidate e.1 ≡ false) table

-- connection `k` is the candidate in the table that waits longest, since this moment
pub record IsLongest (candidate : Candidate) (table : Table) (k moment : ℕ) : Type 0 where
  pub timed : Timed
  pub there : Contains table (k, timed)
  pub passing : passes candidate timed ≡ true
  pub at : since candidate timed ≡ moment
  pub longest : All (λ e. passes candidate e.1 ≡ true → moment ≤ since candidate e.1) table

-- the moment is longer ago than that of the one found so far, if there is one
abbrev pub is_longer : Option (ℕ × ℕ) → ℕ → Bool
is_longer None n = true
is_longer (Some found) n = nat_lt n found.1

-- the candidate that is found, with its moment, or none
abbrev pub Finds : Candidate → Table → Option (ℕ × ℕ) → Type 0
Finds candidate table None = HasNone candidate table
Finds candidate table (Some found) = IsLongest candidate table found.0 found.1

-- connection `k` is the candidate that waits longest
abbrev pub WaitsLongest : Candidate → Table → ℕ → Type 0
WaitsLongest candidate table k = (moment : ℕ) × IsLongest candidate table k moment

-- the connection may lose its slot to a new one at this moment
abbrev pub MayYield : ℕ → ℕ → Timed → Type 0
MayYield now patience p =
    (passes Draining p ≡ true) ⊎ ((passes Idle p ≡ true) ⊎ (passes (Stuck now patience) p ≡ true))

-- Which connection loses its slot to a new one: one that drains, or else an idle one, or else a stuck one. A stuck one has made no progress
-- within the patience, and its socket takes nothing now. Among several it is the one that waits longest. `None` means that there is none,
-- and the new connection waits.
abbrev pub Yields : ℕ → ℕ → Table → Option ℕ → Type 0
Yields now patience table (Some k) =
    WaitsLongest Draining table k
    ⊎ (HasNone Draining table × (WaitsLongest Idle table k
    ⊎ (HasNone Idle table × WaitsLongest (Stuck now patience) table k)))
Yields now patience table None = HasNone Draining table × (HasNone Idle table × HasNone (Stuck now patience) table)

-- The first moment at which a connection will have made no progress for as long as the patience. `None` means that there is no
-- connection, or that the moment isn't below 2^64.
abbrev pub WakesAt : ℕ → Table → Option ℕ → Type 0
WakesAt patience table (Some wake) =
    (k : ℕ) × (moment : ℕ) × IsLongest Any table k moment × (wake ≡ moment + patience)
WakesAt patience table None =
    HasNone Any table ⊎ ((k : ℕ) × (moment : ℕ) × IsLongest Any table k moment × (2 ^ 64 ≤ moment + patience))

-- Which socket is to be tried at this moment: of those that are to be, the one that was tried the longest ago. `None` means that none is.
abbrev pub IsUntried : ℕ → ℕ → Table → Option ℕ → Type 0
IsUntried now patience table (Some k) = WaitsLongest (Untried now patience) table k
IsUntried now patience table None = HasNone (Untried now patience) table

-- The first moment at which half of the patience will have passed since a socket was tried on which bytes wait. `None` means that no bytes
-- wait, or that the moment isn't below 2^64.
abbrev pub TriesAt : ℕ → Table → Option ℕ → Type 0
TriesAt patience table (Some try) =
    (k : ℕ) × (moment : ℕ) × IsLongest Waiting table k moment × (try ≡ moment + half_of patience)
TriesAt patience table None =
    HasNone Waiting table ⊎ ((k : ℕ) × (moment : ℕ) × IsLongest Waiting table k moment × (2 ^ 64 ≤ moment + half_of patience))

-- of the connections for which `holds` is true, `k` is the one without progress for the longest time, since this moment
pub record IsFirstOf (holds : Timed → Bool) (table : Table) (k moment : ℕ) : Type 0 where
  pub timed : Timed
  pub there : Contains table (k, timed)
  pub passing : holds timed ≡ true
  pub at : timed.progress ≡ moment
  pub longest : All (λ e. holds e.1 ≡ true → moment ≤ e.1.progress) table

-- Which connection loses its slot at this moment, whether a new one waits or not. `None` means that none does.
abbrev pub IsFirstOverdue : Catalogue → ℕ → ℕ → Table → Option ℕ → Type 0
IsFirstOverdue catalogue now patience table (Some k) = (moment : ℕ) × IsFirstOf (is_overdue catalogue now patience) table k moment
IsFirstOverdue catalogue now patience table None = All (λ e. is_overdue catalogue now patience e.1 ≡ false) table

-- which connection keeps bytes of a file that is no longer published; of several it is the one without progress for the longest time
abbrev pub IsFirstOutdated : Catalogue → Table → Option (ℕ × ℕ) → Type 0
IsFirstOutdated catalogue table (Some found) = IsFirstOf (λ p. is_outdated catalogue p.connection) table found.0 found.1
IsFirstOutdated catalogue table None = All (λ e. is_outdated catalogue e.1.connection ≡ false) table

-- A connection that keeps bytes of a file that is no longer published will have made no progress for as long as the patience. This is the
-- first such moment. `None` means that no connection keeps such bytes, or that the moment isn't below 2^64.
abbrev pub FreesAt : Catalogue → ℕ → Table → Option ℕ → Type 0
FreesAt catalogue patience table (Some free) =
    (k : ℕ) × (moment : ℕ) × IsFirstOf (λ p. is_outdated catalogue p.connection) table k moment × (free ≡ moment + patience)
FreesAt catalogue patience table None =
    All (λ e. is_outdated catalogue e.1.connection ≡ false) table
    ⊎ ((k : ℕ) × (moment : ℕ) × IsFirstOf (λ p. is_outdated catalogue p.connection) table k moment × (2 ^ 64 ≤ moment + patience))
