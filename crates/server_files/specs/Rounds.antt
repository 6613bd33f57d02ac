-- How connections are served round by round.
use Rattle.std.specs.Prelude.{◌≡◌, ◌<◌, ◌≤◌, ◌⊎◌, ℕ, [], IsErr, List, Option, Result, OnOk, ⊤}
use Rattle.std.specs.NonZero.{non_zero_usize_get}
use Rattle.cog_server.specs.Additions.{AddedState}
use Rattle.cog_server.specs.Server.{ServerState}
use Rattle.server_sockets.specs.Going.{AllWentOnOrStart}
use Rattle.server_sockets.specs.Slots.{NobodyComes, NoneChanges, accepted_of, limits_of, slots_of, slot_count}
use Rattle.server_sockets.specs.declared.serving.Limits.{Limits}
use Rattle.server_sockets.specs.declared.serving.Serving.{Serving}
use Rattle.disk_files.specs.declared.watched.Watched.{Watched}
use Rattle.server_files.specs.Publishing.{AreLookedAt, ArePublishedAnew, names}
use Rattle.server_files.specs.declared.error.ServeFilesError.{ServeFilesError}
use Rattle.server_files.specs.declared.error.ServeFilesError.TheVariants.{CantListen}

-- The number of slots and the limits stay. If no more connections were accepted before than the limits allow, no more are after.
pub record KeepsLimits (old new : Serving) : Type 0 where
  pub limits : limits_of new ≡ limits_of old
  pub room : slot_count new ≡ slot_count old
  pub few : accepted_of old ≤ (limits_of old).connections → accepted_of new ≤ (limits_of old).connections

-- In a round each connection went on, or it started. It went on by what was published before the round, with what is added. Files were
-- published anew only if a connection was accepted.
pub record IsRound {F : Type 0} (gives : F → Option (List ℕ)) (names : List (List ℕ)) (added : AddedState) (s : ServerState) (old : Serving) (t : ServerState)
    (new : Serving) : Type 0 where
  pub now : ℕ
  pub went : AllWentOnOrStart (record { catalogue = s.catalogue; added = added }) now (slots_of old) (slots_of new)
  pub anew : ArePublishedAnew gives names s t
  pub idle : accepted_of new ≡ accepted_of old → t ≡ s

-- Where a connection was accepted, the files were looked at. Where none was, each file stays as it is.
pub record LookedAsTheyCame (old new : Serving) (files after : List Watched) : Type 0 where
  pub came : accepted_of old < accepted_of new → AreLookedAt files after
  pub none : accepted_of new ≡ accepted_of old → after ≡ files

-- Rounds follow each other, with the same additions and within the same limits. In each of them the files were looked at where a connection
-- was accepted. Between two of them no connection changed, none was accepted, and no file changed.
pub data WentRound {F : Type 0} (gives : F → Option (List ℕ)) (files : List Watched) (added : AddedState) (s : ServerState) (first : Serving) :
    ServerState → Serving → List Watched → Type 0 where
  begun : WentRound gives files added s first s first files
  served : (t u : ServerState) (old new : Serving) (before after : List Watched) → WentRound gives files added s first t old before
      → IsRound gives (names files) added t old u new → LookedAsTheyCame old new before after → KeepsLimits old new
      → WentRound gives files added s first u new after
  waited : (t : ServerState) (old new : Serving) (after : List Watched) → WentRound gives files added s first t old after → NoneChanges old new
      → NobodyComes old new → WentRound gives files added s first t new after

-- Such rounds, and then one more, in which accepting failed. No file was looked at in it, also where a connection was accepted before that.
pub record BrokeOff {F : Type 0} (gives : F → Option (List ℕ)) (files : List Watched) (added : AddedState) (s : ServerState) (first : Serving)
    (u : ServerState) (new : Serving) (after : List Watched) : Type 0 where
  pub t : ServerState
  pub old : Serving
  pub went : WentRound gives files added s first t old after
  pub round : IsRound gives (names files) added t old u new
  pub limits : KeepsLimits old new

-- no connection was accepted yet, and the server has these limits, with as many slots as they say
pub record IsNewWithin (allowed : Limits) (s : Serving) : Type 0 where
  pub slots : slots_of s ≡ []
  pub accepted : accepted_of s ≡ 0
  pub limits : limits_of s ≡ allowed
  pub room : slot_count s ≡ non_zero_usize_get allowed.at_once

-- as many connections were accepted as the limits allow, and none has a slot
abbrev pub IsOver : Serving → Type 0
IsOver s = ((limits_of s).connections ≤ accepted_of s) × (slots_of s ≡ [])

-- A new server with these limits went through such rounds, and accepted no more connections than they allow. It ended well only when it
-- was over. Only where it ended with an error, the last round may have broken off.
pub record ServedWithin {F A : Type 0} (gives : F → Option (List ℕ)) (files : List Watched) (added : AddedState) (limits : Limits) (s t : ServerState)
    (after : List Watched) (result : Result A ServeFilesError) : Type 0 where
  pub first : Serving
  pub last : Serving
  pub begins : IsNewWithin limits first
  pub went : WentRound gives files added s first t last after ⊎ (IsErr result × BrokeOff gives files added s first t last after)
  pub few : accepted_of last ≤ limits.connections
  pub over : OnOk result (IsOver last)

-- the error is that the address can't be listened at
abbrev pub IsOfListening : ServeFilesError → Type 0
IsOfListening (CantListen error) = ⊤
IsOfListening why = ⊥
