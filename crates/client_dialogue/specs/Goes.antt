-- What a call of a dialogue does: whatever happened before, something more has happened after it.
use Rattle.std.specs.Prelude.{◌≡◌, ⊤, ◌⊎◌, ◌-◌, ◌<◌, ℕ, not, true, false, List, [], ◌∷◌, ◌++◌, length, min, None, Some, IfSome, IsSome}
use Rattle.extents.specs.declared.span.Span.{Span}
use Rattle.client_connection.specs.Run.{Event}
use Rattle.client_connection.specs.Run.Event.{SentEarly, Came}
use Rattle.client_connection.specs.Status.{Status, is_empty}
use Rattle.cog_client.specs.declared.delivered.Delivered.{Delivered}
use Rattle.cog_client.specs.declared.delivered.Delivered.TheVariants.{Ignored, Restarted, Took}
use Rattle.cog_client.specs.Calls.{IsIdle}
use Rattle.cog_client.specs.Client.{ClientState, asked_of, tag_of}
use Rattle.cog_client.specs.Early.{IsEarly, IsRequestFor}
use Rattle.client_dialogue.specs.History.{Exchange, History, IsHistory, Round, Talk}
use Rattle.client_dialogue.specs.History.Round.{LetGo, Made, Rested, Stopped, Unasked}
use Rattle.client_dialogue.specs.Useful.{IsStatusOf, IsUseful}
use Rattle.client_dialogue.specs.declared.step.Exchanged.{Exchanged}
use Rattle.client_dialogue.specs.declared.step.Step.{Step}
use Rattle.client_dialogue.specs.declared.step.Step.TheVariants.{Connect, Exchanged as AnExchange, Look, More, Over, Read, Write}

-- the bytes that came in the events
abbrev pub came_by : List Event → List ℕ
came_by [] = []
came_by (Came part bytes after ∷ es) = bytes ++ came_by es
came_by (e ∷ es) = came_by es

-- one of the requests that the client may make early
abbrev pub IsEarlyFor : ClientState → List ℕ → Type 0
IsEarlyFor c text = (span : Span) × IsEarly c span × IsRequestFor c span text

-- Each text that was sent early in the events is such a request.
abbrev pub AreEarlyFor : ClientState → List Event → Type 0
AreEarlyFor c [] = ⊤
AreEarlyFor c (SentEarly text ∷ es) = IsEarlyFor c text × AreEarlyFor c es
AreEarlyFor c (e ∷ es) = AreEarlyFor c es

-- These bytes came and were taken, or they were dropped with their connection.
abbrev pub AreTaken : List ℕ → List Event → Status → Type 0
AreTaken bytes es s = (came_by es ≡ bytes) ⊎ ((came_by es ≡ []) × (s.is_open ≡ false))

-- No round ended.
abbrev pub Stays : List Round → List Round → Type 0
Stays before after = after ≡ before

-- An exchange was made, with this result.
abbrev pub MakesOne : Delivered → List Round → List Round → Type 0
MakesOne what before after = (e : Exchange) × (e.what ≡ what) × (after ≡ Made e ∷ before)

-- No round ended, or only one without a request.
abbrev pub MakesNone : List Round → List Round → Type 0
MakesNone before after = (after ≡ before) ⊎ (after ≡ Rested ∷ before)

-- No round ended, or only one in which memory ran out.
abbrev pub Fails : List Round → List Round → Type 0
Fails before after = (after ≡ before) ⊎ (after ≡ Unasked ∷ before)
    ⊎ ((request text : List ℕ) × ((after ≡ Stopped request text ∷ before) ⊎ (after ≡ LetGo request text ∷ before)))

-- The history goes on by these bytes, and the client is `c` then. What was sent early are requests of this client.
pub record Continues (rounds : List Round → List Round → Type 0) (bytes : List ℕ) (h k : History) (s : Status) (c : ClientState) : Type 0 where
  pub more : List Event
  pub events : k.events ≡ h.events ++ more
  pub taken : AreTaken bytes more s
  pub early : AreEarlyFor c more
  pub made : rounds h.rounds k.rounds

-- Whatever happened before, the history goes on so.
abbrev pub Goes : (List Round → List Round → Type 0) → List ℕ → Talk → ClientState → Talk → ClientState → Type 0
Goes rounds bytes t c u d = (start : ClientState) (allowed : ℕ) (h : History) → IsHistory start allowed h t c
    → (k : History) × Continues rounds bytes h k u.status d × IsHistory start allowed k u d

-- the rounds that end with a step
abbrev pub rounds_of : Step → List Round → List Round → Type 0
rounds_of (AnExchange e) before after = MakesOne e.delivered before after
rounds_of step before after = MakesNone before after

-- The answer was used: it brought blocks, or the client reads another revision from now on.
abbrev pub IsUsed : Delivered → Type 0
IsUsed (Took blocks) = 0 < blocks
IsUsed Restarted = ⊤
IsUsed (Ignored why) = ⊥

-- For this step the driver gets other bytes. It hands on none of these again.
abbrev pub GetsOthers : Step → Type 0
GetsOthers Connect = ⊤
GetsOthers Look = ⊤
GetsOthers Read = ⊤
GetsOthers step = ⊥

-- After a whole answer that was used the connection stays, unless it ends with this answer.
abbrev pub KeepsUsed : Status → Step → Status → Type 0
KeepsUsed s step t = (e : Exchanged) → step ≡ AnExchange e → s.left ≡ Some 0 → s.closes ≡ false → IsUsed e.delivered → t.is_open ≡ true

-- more of the answer is to be read: its head isn't whole, or more of its body is to come and of use
abbrev pub IsWanted : Talk → Type 0
IsWanted t = IfSome t.status.left (λ left. (0 < left) × (0 < t.useful))

-- what holds after each step that a driver is given; after an exchange there is a connection only if its answer was used
abbrev pub Says : Step → Talk → ClientState → Type 0
Says Connect t c = (t.asked ≡ true) × (t.status.is_open ≡ false)
Says Look t c = (t.asked ≡ true) × (t.status.is_open ≡ true) × (t.looks ≡ true)
Says Write t c = (t.asked ≡ true) × (t.status.is_open ≡ true) × (t.looks ≡ false) × (0 < length t.status.waits)
Says Read t c = (t.asked ≡ true) × (t.status.is_open ≡ true) × (t.looks ≡ false) × (t.status.waits ≡ []) × IsWanted t
Says More t c = t.asked ≡ true
Says (AnExchange e) t c = (t.asked ≡ false) × (t.status.is_open ≡ true → IsUsed e.delivered)
Says Over t c = (t.asked ≡ false) × ((t.exchanges ≡ 0) ⊎ IsIdle c)

-- After `More` bytes were taken, or no exchange was under way. An exchange ends by bytes that came, or after a whole head.
abbrev pub Advances : Talk → ℕ → Step → Type 0
Advances t n step = (step ≡ More → (0 < n) ⊎ (t.asked ≡ false))
    × ((e : Exchanged) → step ≡ AnExchange e → IsSome t.status.left ⊎ (0 < n))

-- A request that begins on the connection was sent early if others are out there. If none is, it is written only after a look.
abbrev pub BeginsOn : Talk → Talk → Type 0
BeginsOn t u = t.asked ≡ false → u.asked ≡ true → u.status.is_open ≡ true
    → (u.looks ≡ is_empty t.status.out) × (u.early ≡ not (is_empty t.status.out))

-- While an exchange is under way it stays so: whether its request is written only after a look, and whether it was sent early.
abbrev pub KeepsPlan : Talk → Talk → Type 0
KeepsPlan t u = t.asked ≡ true → (u.looks ≡ t.looks) × (u.early ≡ t.early)

-- An exchange is under way, and its request is out and needn't wait for a look.
abbrev pub IsOut : Talk → Type 0
IsOut t = (t.asked ≡ true) × (t.looks ≡ false) × (0 < length t.status.out)

-- Once the head of an answer is whole, it is known how many bytes of the body the client can use. Of the body as many bytes are taken as
-- are there, to come, and of use. The exchange ends only once none is to come, or none of use.
pub record ReadsUseful (t : Talk) (c : ClientState) (bytes : List ℕ) (n : ℕ) (step : Step) (u : Talk) : Type 0 where
  pub begins : t.status.left ≡ None → step ≡ More → IsSome u.status.left → IsUseful u.status.head (asked_of c) (tag_of c) u.useful
  pub takes : IfSome t.status.left (λ left. step ≡ More → (n ≡ min left (min t.useful (length bytes))) × (u.useful ≡ t.useful - n))
  pub ends : IfSome t.status.left (λ left. (e : Exchanged) → step ≡ AnExchange e → (left ≡ 0) ⊎ (t.useful ≡ 0))

-- While a connection stays, what waits to be written stays. More may be added after it.
abbrev pub KeepsWaits : Status → Status → Type 0
KeepsWaits s t = t.is_open ≡ true → (s.is_open ≡ true) × ((more : List ℕ) × (t.waits ≡ s.waits ++ more))

-- If an exchange is over, its status code is that of this head.
abbrev pub HasStatusOf : List ℕ → Step → Type 0
HasStatusOf head step = (e : Exchanged) → step ≡ AnExchange e → IsStatusOf head e.status

-- The head is what had come of it, or this with the new bytes.
abbrev pub TellsStatus : List ℕ → List ℕ → Step → Type 0
TellsStatus head bytes step = HasStatusOf head step ⊎ HasStatusOf (head ++ bytes) step

-- Between exchanges a query of any client may begin, with `exchanges` exchanges allowed.
abbrev pub BeginsAnew : ℕ → Talk → Talk → Type 0
BeginsAnew exchanges t u = (start : ClientState) (allowed : ℕ) (h : History) (c d : ClientState) → IsHistory start allowed h t c
    → (k : History) × ((more : List Event) × (k.events ≡ h.events ++ more)) × (k.rounds ≡ []) × IsHistory d exchanges k u d
