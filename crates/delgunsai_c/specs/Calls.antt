-- What a call from C does to the client of its handle, and to the caller's room. `told` is the number that the call returns.
use Rattle.std.specs.Prelude.{◌≡◌, ◌⊎◌, ◌+◌, ◌<◌, ◌≤◌, ◌^◌, ℕ, ℤ, pos, List, [], ◌++◌, Option, Some, None, IsSome, length, slice_get}
use Rattle.cog_client.specs.declared.error.ClientError.{ClientError}
use Rattle.cog_client.specs.declared.error.UrlError.{UrlError}
use Rattle.http_fields.specs.declared.request_fields.FieldError.{FieldError}
use Rattle.http_fields.specs.FieldRefusal.{IsFieldRefusal, field_refusal}
use Rattle.http_fields.specs.Text.{FieldLine}
use Rattle.cog_client.specs.Calls.{Starts, StartsByUrl}
use Rattle.cog_client.specs.Check.{check_of}
use Rattle.cog_client.specs.PartialAnswer.{IsBounded}
use Rattle.cog_client.specs.Client.{ClientState, IsClientRefusal, IsUrlRefusal, client_refusal, feed_of, fields_of, query_of, report_of, tag_of}
use Rattle.cog_client.specs.FedClient.{Fed}
use Rattle.cog_client.specs.AnswerPhase.{rest_dropped}
use Rattle.cog_client.specs.Keeps.{AddsField, RequestsKeeping, StopsAsking, StopsDelivery}
use Rattle.cog_client.specs.Early.{AreAllInReach, AreEarlyRequests, AsksNothingEarly}
use Rattle.delgunsai_c.specs.declared.failure.Failure.{Failure}
use Rattle.delgunsai_c.specs.declared.failure.Failure.TheVariants.{Memory, NoClient}
use Rattle.delgunsai_c.specs.Failure.{code_of, failure_in, failure_of_field, failure_of_url}
use Rattle.delgunsai_c.specs.Laid.{Lays}

-- There was a client, and `does` says what became of it.
pub record Did (does : ClientState → ClientState → Type 0) (old new : Option ClientState) : Type 0 where
  pub before : ClientState
  pub after : ClientState
  pub was : old ≡ Some before
  pub is : new ≡ Some after
  pub done : does before after

-- There was no client and is none, and the number says so.
pub record Misses (old new : Option ClientState) (told : ℤ) : Type 0 where
  pub was : old ≡ None
  pub is : new ≡ None
  pub says : told ≡ code_of NoClient

-- A call of a client, if there is one.
abbrev pub Calls : (ClientState → ClientState → Type 0) → Option ClientState → Option ClientState → ℤ → Type 0
Calls does old new told = Did does old new ⊎ Misses old new told

-- ---- what the client does, and what is returned

-- It is done: the number is 0.
pub record Done (P : Type 0) (told : ℤ) : Type 0 where
  pub does : P
  pub says : told ≡ pos 0

-- Memory ran out, and this is what is left.
pub record Stopped (P : Type 0) (told : ℤ) : Type 0 where
  pub does : P
  pub says : told ≡ code_of Memory

-- The client stays as it was.
pub record Kept (P : Type 0) (old new : ClientState) : Type 0 where
  pub does : P
  pub stays : new ≡ old

-- ---- new

-- the first reason that holds, or memory if no other one does
pub record IsRefusal (host name : List ℕ) (blocks : ℕ) (failure : Failure) : Type 0 where
  pub error : ClientError
  pub is : failure ≡ failure_in error
  pub first : IsClientRefusal (client_refusal host name blocks) error

pub record Refused (host name : List ℕ) (blocks : ℕ) (old new : Option ClientState) (told : ℤ) : Type 0 where
  pub failure : Failure
  pub why : IsRefusal host name blocks failure
  pub says : told ≡ code_of failure
  pub same : new ≡ old

pub record Made (host name : List ℕ) (blocks : ℕ) (new : Option ClientState) (told : ℤ) : Type 0 where
  pub after : ClientState
  pub is : new ≡ Some after
  pub starts : Starts host name blocks after
  pub says : told ≡ pos 0

-- A client is made, instead of the one before. Or it is refused, and the one before stays.
abbrev pub News : List ℕ → List ℕ → ℕ → Option ClientState → Option ClientState → ℤ → Type 0
News host name blocks old new told = Made host name blocks new told ⊎ Refused host name blocks old new told

-- ---- a URL, and fields

-- the first reason that holds, or memory if no other one does
pub record IsUrlFailure (authority target : List ℕ) (blocks : ℕ) (failure : Failure) : Type 0 where
  pub error : UrlError
  pub is : failure ≡ failure_of_url error
  pub first : IsUrlRefusal authority target blocks error

pub record RefusedUrl (authority target : List ℕ) (blocks : ℕ) (old new : Option ClientState) (told : ℤ) : Type 0 where
  pub failure : Failure
  pub why : IsUrlFailure authority target blocks failure
  pub says : told ≡ code_of failure
  pub same : new ≡ old

pub record MadeByUrl (authority target : List ℕ) (blocks : ℕ) (new : Option ClientState) (told : ℤ) : Type 0 where
  pub after : ClientState
  pub is : new ≡ Some after
  pub starts : StartsByUrl authority target [] blocks after
  pub says : told ≡ pos 0

-- A client of a URL is made, instead of the one before. Or it is refused, and the one before stays.
abbrev pub NewsOfUrl : List ℕ → List ℕ → ℕ → Option ClientState → Option ClientState → ℤ → Type 0
NewsOfUrl authority target blocks old new told =
    MadeByUrl authority target blocks new told ⊎ RefusedUrl authority target blocks old new told

-- The line isn't added, for this reason, and the client stays as it was.
pub record RefusesField (l : FieldLine) (told : ℤ) (old new : ClientState) : Type 0 where
  pub error : FieldError
  pub first : IsFieldRefusal (field_refusal (fields_of old) l) error
  pub says : told ≡ code_of (failure_of_field error)
  pub stays : new ≡ old

-- The line is added, or it isn't.
abbrev pub AddsOr : FieldLine → ℤ → ClientState → ClientState → Type 0
AddsOr l told old new = Done (AddsField l old new) told ⊎ RefusesField l told old new

-- ---- request

-- A request, if there is one. If there is none, the number is 0. The number of a lack of memory is returned only if there may be a request.
abbrev pub Gives : Option (List ℕ) → List ℕ → List ℕ → ℤ → Type 0
Gives None old new told = (new ≡ old) × (told ≡ pos 0)
Gives (Some text) old new told = Lays text old new told

pub record Asks (room left : List ℕ) (told : ℤ) (old new : ClientState) : Type 0 where
  pub request : Option (List ℕ)
  pub asks : RequestsKeeping old request new
  pub gives : Gives request room left told

abbrev pub AsksOr : List ℕ → List ℕ → ℤ → ClientState → ClientState → Type 0
AsksOr room left told old new = Asks room left told old new
    ⊎ Stopped (StopsAsking old new × (left ≡ room) × IsSome (query_of old) × (report_of old ≡ None)) told

-- ---- check

-- The client stays, and its check is given, if it has a revision. A lack of memory is returned only if it has one.
pub record Checks (room left : List ℕ) (told : ℤ) (old new : ClientState) : Type 0 where
  pub gives : Gives (check_of old) room left told
  pub stays : new ≡ old

abbrev pub ChecksOr : List ℕ → List ℕ → ℤ → ClientState → ClientState → Type 0
ChecksOr room left told old new =
    Checks room left told old new ⊎ Stopped ((new ≡ old) × (left ≡ room) × IsSome (tag_of old)) told

-- ---- a later request

-- The client stays. Of its early requests the one at `index` is given, if one is known there. If none is, nothing in reach is left
-- out of them. A lack of memory is returned only if the client may make some.
pub record Foretells (index : ℕ) (room left : List ℕ) (told : ℤ) (old new : ClientState) : Type 0 where
  pub texts : List (List ℕ)
  pub early : AreEarlyRequests old texts
  pub end : index + 1 < 2 ^ 32 → length texts ≤ index → AreAllInReach old texts
  pub gives : Gives (slice_get texts index) room left told
  pub stays : new ≡ old

abbrev pub ForetellsOr : ℕ → List ℕ → List ℕ → ℤ → ClientState → ClientState → Type 0
ForetellsOr index room left told old new =
    Foretells index room left told old new ⊎ Stopped ((new ≡ old) × (left ≡ room) × ¬ AsksNothingEarly old) told

-- ---- an answer

-- These are the next bytes of whatever answer this is. No more of it is kept than a head or a block. If the rest of the answer is dropped,
-- they change nothing.
pub record Feeds (piece : List ℕ) (old new : ClientState) : Type 0 where
  pub fed : (s : ClientState) (p : List ℕ) → Fed s p old → Fed s (p ++ piece) new
  pub dropped : feed_of old ≡ rest_dropped → new ≡ old
  pub bounded : IsBounded (feed_of new)

-- Memory ran out for these bytes: the rest of the answer is dropped.
pub record StopsFeeding (piece : List ℕ) (old new : ClientState) : Type 0 where
  pub stops : (s : ClientState) (p : List ℕ) → Fed s p old → StopsDelivery s (p ++ piece) new
  pub drops : feed_of new ≡ rest_dropped
  pub fresh : feed_of old ≡ rest_dropped → ⊥

abbrev pub FeedsOr : List ℕ → ℤ → ClientState → ClientState → Type 0
FeedsOr piece told old new = Done (Feeds piece old new) told ⊎ Stopped (StopsFeeding piece old new) told
