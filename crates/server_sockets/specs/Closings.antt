-- Which connections change in turns or lose their slots, and why.
use Rattle.std.specs.Prelude.{◌≡◌, ◌≤◌, ◌⊎◌, ◌++◌, ℕ, true, List, Any, Contains, Option, Some, IfSome, IsSomeAnd}
use Rattle.http_range.specs.Book.{Catalogue}
use Rattle.cog_server.specs.Additions.{ServiceState}
use Rattle.server_connections.specs.Table.{Table, timed_at}
use Rattle.server_connections.specs.Yielding.{IsUntried, is_overdue}
use Rattle.server_sockets.specs.Going.{AllWentOn}
use Rattle.server_sockets.specs.Slots.{drains_of, limits_of, ready_of, slots_of}
use Rattle.server_sockets.specs.Turns.{TriesOne}
use Rattle.server_sockets.specs.declared.drain.Drain.{Drain}
use Rattle.server_sockets.specs.declared.serving.Serving.{Serving}

-- each connection for which `P` doesn't hold is as it was, with its slot or without one
abbrev pub ChangesOnly : (ℕ → Type 0) → Table → Table → Type 0
ChangesOnly P old new = (k : ℕ) → P k ⊎ (timed_at k new ≡ timed_at k old)

-- each drain was there before, or is of a connection for which `P` holds
abbrev pub DrainsOnly : (ℕ → Type 0) → List Drain → List Drain → Type 0
DrainsOnly P old new = (drain : Drain) → Contains new drain → Contains old drain ⊎ P drain.number

-- the queue begins with those that were queued before, in their order
abbrev pub BeginsWith : List ℕ → List ℕ → Type 0
BeginsWith queue before = (more : List ℕ) × (queue ≡ before ++ more)

-- one of these drains is of connection `k`, and has ended by this moment
abbrev pub HasDrained : ℕ → List Drain → ℕ → Type 0
HasDrained now drains k = Any (λ drain. (drain.number ≡ k) × (drain.ends ≤ now)) drains

-- connection `k` keeps bytes of a replaced file, has made no progress for the patience, and its socket takes none
abbrev pub IsOverdueAt : Catalogue → ℕ → ℕ → Table → ℕ → Type 0
IsOverdueAt catalogue now patience table k = IsSomeAnd (timed_at k table) (λ p. is_overdue catalogue now patience p ≡ true)

-- First each connection that was queued has its turn, and no other changes. Then a socket is tried: of those that are to be tried, the one
-- that was tried the longest ago.
pub record TriesAfterTurns (service : ServiceState) (now : ℕ) (old new : Serving) : Type 0 where
  pub turned : Table
  pub went : AllWentOn service now (slots_of old) turned
  pub queued : ChangesOnly (Contains (ready_of old)) (slots_of old) turned
  pub tries : TriesOne now (limits_of old).patience turned (slots_of new)

-- At most one socket is tried. Of those that are to be tried at this moment, it is the one that was tried the longest ago. No other
-- connection changes, and no other begins to drain.
pub record TriesAlone (now : ℕ) (old new : Serving) : Type 0 where
  pub tried : Option ℕ
  pub untried : IfSome tried (λ k. IsUntried now (limits_of old).patience (slots_of old) (Some k))
  pub changes : ChangesOnly (λ k. tried ≡ Some k) (slots_of old) (slots_of new)
  pub drains : DrainsOnly (λ k. tried ≡ Some k) (drains_of old) (drains_of new)

-- A connection may lose its slot in turns for one of these reasons. It was queued for its turn, its drain has ended, its socket was
-- tried, or it is overdue.
abbrev pub MayClose : Catalogue → ℕ → Serving → Option ℕ → ℕ → Type 0
MayClose catalogue now old tried k =
    Contains (ready_of old) k ⊎ (HasDrained now (drains_of old) k
    ⊎ ((tried ≡ Some k) ⊎ IsOverdueAt catalogue now (limits_of old).patience (slots_of old) k))

-- No connection loses its slot in turns, or changes, for another reason. First each that was queued has its turn, and no other changes.
-- Then at most one socket is tried. Of those that are to be tried then, it is the one that was tried the longest ago.
pub record ClosesOnly (service : ServiceState) (now : ℕ) (old new : Serving) : Type 0 where
  pub turned : Table
  pub went : AllWentOn service now (slots_of old) turned
  pub queued : ChangesOnly (Contains (ready_of old)) (slots_of old) turned
  pub tried : Option ℕ
  pub untried : IfSome tried (λ k. IsUntried now (limits_of old).patience turned (Some k))
  pub goes_on : AllWentOn service now turned (slots_of new)
  pub closes : ChangesOnly (MayClose service.catalogue now old tried) (slots_of old) (slots_of new)
