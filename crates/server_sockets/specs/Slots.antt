-- What callers know of a server's sockets.
use Rattle.std.specs.Prelude.{◌≡◌, ◌≢◌, ◌<◌, ◌⊎◌, ◌↔◌, ◌+◌, ◌-◌, ◌*◌, ◌^◌, ◌≤◌, ℕ, [], List, length, Contains, false, true, min, slice_get, Option, None, Some, IfSome, IsSome, IsSomeAnd}
use Rattle.std.specs.declared.time.Duration.{Duration}
use Rattle.std.specs.Duration.{as_nanos}
use Rattle.mio.specs.declared.event.event.Event.{Event}
use Rattle.mio.specs.Events.{items}
use Rattle.server_connections.specs.declared.timed.Timed.{Timed}
use Rattle.server_connections.specs.Table.{Table, timed_at}
use Rattle.server_connections.specs.Yielding.{MayYield, TriesAt, WakesAt, Yields}
use Rattle.server_sockets.specs.Draining.{DrainsAt}
use Rattle.server_sockets.specs.Turns.{HasStartedAt, RestsAt}
use Rattle.server_sockets.specs.Waits.{IsQueued, sockets_of}
use Rattle.server_sockets.specs.declared.drain.Drain.{Drain}
use Rattle.server_sockets.specs.declared.events.TheConstants.{LISTENER}
use Rattle.server_sockets.specs.declared.serving.Limits.{Limits}
use Rattle.server_sockets.specs.declared.serving.Serving.{Serving}

-- what the system reported in the last wait
abbrev pub events_of : Serving → List Event
events_of s = items s.events

-- how many connections were accepted
abbrev pub accepted_of : Serving → ℕ
accepted_of s = s.accepted

-- how many connections have ended
abbrev pub ended_of : Serving → ℕ
ended_of s = s.open_connections.ended

-- how many connections there may be, and how long one keeps its slot
abbrev pub limits_of : Serving → Limits
limits_of s = s.limits

-- the connections that have a slot
abbrev pub slots_of : Serving → Table
slots_of s = s.open_connections.connections.table.entries

-- how many slots there are
abbrev pub slot_count : Serving → ℕ
slot_count s = s.open_connections.connections.table.cap

-- the connections that are queued for their turn, the next one first
abbrev pub ready_of : Serving → List ℕ
ready_of s = s.ready.items

-- the connections that drain, each with the moment at which its drain ends
abbrev pub drains_of : Serving → List Drain
drains_of s = s.drains.items

-- connection `k` can't go on at this moment, is queued for its turn, drains, or has no slot
abbrev pub IsServedAt : ℕ → ℕ → Serving → Type 0
IsServedAt now k s =
    RestsAt now k (slots_of s) ⊎ (Contains (ready_of s) k ⊎ (DrainsAt k s.open_connections ⊎ (timed_at k (slots_of s) ≡ None)))

-- the number of the next connection that gets a slot
abbrev pub next_of : Serving → ℕ
next_of s = s.open_connections.connections.next

-- A connection that keeps bytes of a replaced file will have made no progress for as long as the patience. This is the first such
-- moment, as it was last looked for.
abbrev pub frees_of : Serving → Option ℕ
frees_of s = s.frees_at

-- how many publications there were then
abbrev pub publications_of : Serving → ℕ
publications_of s = s.publications

-- a connection kept such bytes then, or there were other publications since; `count` is how many there are
abbrev pub MayKeepOld : ℕ → Serving → Type 0
MayKeepOld count s = IsSome s.frees_at ⊎ (s.publications ≢ count)

-- no connection loses its slot to a new one at this moment: each is busy, or there is only one slot, which is never lost
abbrev pub NobodyYields : ℕ → Serving → Type 0
NobodyYields now s = (slot_count s ≡ 1) ⊎ Yields now (limits_of s).patience (slots_of s) None

-- there is no slot for a new connection at this moment: none is free, and none is lost
abbrev pub HasNoSlot : ℕ → Serving → Type 0
HasNoSlot now s = (slot_count s ≤ length (slots_of s)) × NobodyYields now s

-- No other connection is accepted at this moment, for one of these reasons. None is known to wait, all were accepted, there is no slot, the
-- system had no room, or it barred one.
abbrev pub AcceptsNoMore : ℕ → Serving → Type 0
AcceptsNoMore now s =
    (s.accept_pending ≡ false) ⊎ (((limits_of s).connections ≤ accepted_of s)
    ⊎ (HasNoSlot now s ⊎ ((s.out_of_descriptors ≡ true) ⊎ (s.is_barred ≡ true))))

-- No connection may go on, and none drains. There is no new connection that lacked room, or that wasn't let in.
abbrev pub Rests : Serving → Type 0
Rests s = (s.ready.items ≡ []) × (s.drains.items ≡ []) × (s.out_of_descriptors ≡ false) × (s.is_barred ≡ false)

-- by the moment `by` a connection is looked at: the first that will have made no progress for as long as the patience
abbrev pub WakesBy : Serving → Option ℕ → Type 0
WakesBy s by = (wake : Option ℕ)
    × WakesAt (limits_of s).patience (slots_of s) wake × IfSome wake (λ moment. IsSomeAnd by (λ first. first ≤ moment))

-- the wait is no longer than until then
abbrev pub WakesIn : ℕ → Serving → Option Duration → Type 0
WakesIn now s wait = (wake : Option ℕ)
    × WakesAt (limits_of s).patience (slots_of s) wake × IfSome wake (λ moment. IsSomeAnd wait (λ d. as_nanos d ≤ (moment - now) * 1000000))

-- If a new connection waits, a socket on which bytes wait is tried by the moment `by`: at most half of the patience after its last try.
abbrev pub TriesBy : Serving → Option ℕ → Type 0
TriesBy s by = (try : Option ℕ)
    × TriesAt (limits_of s).patience (slots_of s) try × IfSome try (λ moment. IsSomeAnd by (λ first. first ≤ moment))

-- the wait is no longer than until then
abbrev pub TriesIn : ℕ → Serving → Option Duration → Type 0
TriesIn now s wait = (try : Option ℕ)
    × TriesAt (limits_of s).patience (slots_of s) try × IfSome try (λ moment. IsSomeAnd wait (λ d. as_nanos d ≤ (moment - now) * 1000000))

-- The moment at which a new connection that waits is looked at again. With several slots it is that of `WakesAt` or of `TriesAt`. It may
-- also be a second from now, if there was no room for the connection. If it wasn't let in, it is only a second from now.
abbrev pub IsLookedAt : ℕ → Serving → ℕ → Type 0
IsLookedAt now s moment =
    (s.accept_pending ≡ true) × (accepted_of s < (limits_of s).connections)
    × (((s.is_barred ≡ false) × (slot_count s ≢ 1) × (WakesAt (limits_of s).patience (slots_of s) (Some moment)
    ⊎ TriesAt (limits_of s).patience (slots_of s) (Some moment)))
    ⊎ (((s.out_of_descriptors ≡ true) ⊎ (s.is_barred ≡ true)) × (moment ≡ min (now + 1000) (2 ^ 64 - 1))))

-- The wait ends at one of three moments. The first drain ends. Or a connection that keeps bytes of a replaced file will have made no
-- progress for as long as the patience. Or a new connection that waits is looked at again.
abbrev pub IsWaitedFor : ℕ → Serving → Duration → Type 0
IsWaitedFor now s wait =
    (moment : ℕ) × (IsSomeAnd (slice_get s.drains.items 0) (λ drain. drain.ends ≡ moment) ⊎ ((frees_of s ≡ Some moment) ⊎ IsLookedAt now s moment))
    × (as_nanos wait ≡ (moment - now) * 1000000)

-- a connection that had a slot has it as it was, unless it may lose it to a new one at this moment
abbrev pub KeepsBusy : ℕ → Serving → Serving → Type 0
KeepsBusy now old new = (k : ℕ) (p : Timed) → timed_at k (slots_of old) ≡ Some p →
    MayYield now (limits_of old).patience p ⊎ (timed_at k (slots_of new) ≡ Some p)

-- each connection has the slot that it had, as it was
abbrev pub KeepsAll : Serving → Serving → Type 0
KeepsAll old new = (k : ℕ) (p : Timed) → timed_at k (slots_of old) ≡ Some p → timed_at k (slots_of new) ≡ Some p

-- each connection with a slot had it, and is as it was
abbrev pub NoneChanges : Serving → Serving → Type 0
NoneChanges old new = (k : ℕ) (p : Timed) → timed_at k (slots_of new) ≡ Some p → timed_at k (slots_of old) ≡ Some p

-- each connection with a slot that had none starts at this moment
abbrev pub AllStart : ℕ → Serving → Serving → Type 0
AllStart now old new =
    (k : ℕ) (p : Timed) → timed_at k (slots_of old) ≡ None → timed_at k (slots_of new) ≡ Some p → HasStartedAt k now (slots_of new)

-- each connection with a slot had it and is as it was, or starts at this moment
abbrev pub StayOrStart : ℕ → Serving → Serving → Type 0
StayOrStart now old new =
    (k : ℕ) (p : Timed) → timed_at k (slots_of new) ≡ Some p → (timed_at k (slots_of old) ≡ Some p) ⊎ HasStartedAt k now (slots_of new)

-- of connections in the listen backlog the same is known as before: whether one may wait, lacks room, or is barred
pub record KeepsBacklog (old new : Serving) : Type 0 where
  pub waits : new.accept_pending ≡ old.accept_pending
  pub starved : new.out_of_descriptors ≡ old.out_of_descriptors
  pub barred : new.is_barred ≡ old.is_barred

-- the same for connections that keep bytes of a replaced file: when one is looked at, and which publications are known
pub record KeepsFreeing (old new : Serving) : Type 0 where
  pub frees : frees_of new ≡ frees_of old
  pub publications : publications_of new ≡ publications_of old

-- what is due in turns stays: who is queued, who drains until when, and what is known of replaced files
pub record KeepsTurns (old new : Serving) : Type 0 where
  pub ready : ready_of new ≡ ready_of old
  pub drains : drains_of new ≡ drains_of old
  pub freeing : KeepsFreeing old new

-- What the system reported is noted: each connection is queued for its turn, was marked as queued, or is gone. It is remembered that a
-- connection may wait in the listen backlog, also from before.
pub record IsNoted (old new : Serving) : Type 0 where
  pub heard : (new.accept_pending ≡ true) ↔ ((old.accept_pending ≡ true) ⊎ Contains (sockets_of (events_of new)) LISTENER.0)
  pub queued : (k : ℕ) → Contains (sockets_of (events_of new)) k → k ≢ LISTENER.0
      → IsQueued k new.ready.items old.open_connections new.open_connections
  pub starved : new.out_of_descriptors ≡ old.out_of_descriptors
  pub barred : new.is_barred ≡ old.is_barred

-- no connection is accepted, none gets a slot, slots and limits stay, and none that ended is forgotten
pub record NobodyComes (old new : Serving) : Type 0 where
  pub slots : (k : ℕ) → timed_at k (slots_of old) ≡ None → timed_at k (slots_of new) ≡ None
  pub accepted : accepted_of new ≡ accepted_of old
  pub room : slot_count new ≡ slot_count old
  pub limits : limits_of new ≡ limits_of old
  pub ended : ended_of old ≤ ended_of new
