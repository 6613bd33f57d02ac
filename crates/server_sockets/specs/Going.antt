-- How connections go on.
use Rattle.std.specs.Prelude.{◌≡◌, ◌⊎◌, ◌==◌, ℕ, not, if◌then◌else◌, Bool, true, false, List, [], Some, IsSomeAnd}
use Rattle.std.specs.List.{list_any}
use Rattle.cog_server.specs.Additions.{ServiceState}
use Rattle.cog_server.specs.Run.{AreFrom, CanRun, Event, IsAnsweredAlone, Past, none_yet, run}
use Rattle.cog_server.specs.Run.Event.{Came, Came_to_end, Answered, Wrote}
use Rattle.cog_server.specs.Status.{Status}
use Rattle.server_connections.specs.declared.timed.Timed.{Timed}
use Rattle.server_connections.specs.Table.{Table, timed_at}
use Rattle.server_sockets.specs.Turns.{HasStartedAt}

-- nothing has happened since this status
abbrev pub since : Status → Past
since s = record { given = []; written = []; exchanges = []; status = s }

-- a message was answered, or a byte of an answer was taken
abbrev pub is_progress : Event → Bool
is_progress (Came bytes) = false
is_progress Came_to_end = false
is_progress (Answered e) = true
is_progress (Wrote n) = not (n == 0)

-- a write was tried
abbrev pub is_try : Event → Bool
is_try (Came bytes) = false
is_try Came_to_end = false
is_try (Answered e) = false
is_try (Wrote n) = true

-- The connection went on from there by events that may happen, and this service answered each message. If there was progress, or a try to
-- write, it was at this moment.
pub record WentOn (service : ServiceState) (now : ℕ) (old new : Timed) : Type 0 where
  pub events : List Event
  pub can : CanRun events (since old.connection)
  pub from : AreFrom service (run events (since old.connection)).exchanges
  pub connection : new.connection ≡ (run events (since old.connection)).status
  pub progress : new.progress ≡ (if list_any is_progress events then now else old.progress)
  pub tried : new.tried ≡ (if list_any is_try events then now else old.tried)

-- each connection with a slot had it, and went on by events of its own, with each answer by this service
pub record AllWentOn (service : ServiceState) (now : ℕ) (old new : Table) : Type 0 where
  pub each : (k : ℕ) (p : Timed) → timed_at k new ≡ Some p → IsSomeAnd (timed_at k old) (λ before. WentOn service now before p)

-- each connection with a slot went on so, or starts at this moment
pub record AllWentOnOrStart (service : ServiceState) (now : ℕ) (old new : Table) : Type 0 where
  pub each : (k : ℕ) (p : Timed) → timed_at k new ≡ Some p
      → IsSomeAnd (timed_at k old) (λ before. WentOn service now before p) ⊎ HasStartedAt k now new

-- ---- from the start

-- A connection came so far from its start by events that may happen, and by these it was answered as if it were alone.
pub record HasRun (s : Status) : Type 0 where
  pub events : List Event
  pub can : CanRun events none_yet
  pub status : s ≡ (run events none_yet).status
  pub alone : IsAnsweredAlone (run events none_yet)

-- each connection with a slot came so far in this way
abbrev pub AllHaveRun : Table → Type 0
AllHaveRun table = (k : ℕ) (p : Timed) → timed_at k table ≡ Some p → HasRun p.connection

-- this stays so when connections go on or start, by any service, at any moment
abbrev pub RunsGoOn : Type 0
RunsGoOn = (service : ServiceState) (now : ℕ) (old new : Table) → AllWentOnOrStart service now old new → AllHaveRun old → AllHaveRun new
