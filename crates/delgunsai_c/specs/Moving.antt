-- What becomes of what a handle holds when its driver reports an event of the connection.
use Rattle.std.specs.Prelude.{◌≡◌, ◌≢◌, ◌⊎◌, ◌≤◌, ◌++◌, ℕ, ℤ, pos, true, false, List, [], length, take, drop, Option, None, Some, IsSome, Result, Ok, Err}
use Rattle.client_connection.specs.Status.{Status, after_gone, after_open, after_write, is_again, over}
use Rattle.cog_client.specs.Check.{check_of}
use Rattle.client_dialogue.specs.Checking.{IsCheckOf}
use Rattle.client_dialogue.specs.Goes.{BeginsAnew, Fails, Goes, HasStatusOf, MakesNone, Says, rounds_of}
use Rattle.client_dialogue.specs.History.{Talk}
use Rattle.client_dialogue.specs.declared.step.Step.{Step}
use Rattle.client_dialogue.specs.declared.step.Step.TheVariants.{More}
use Rattle.extents.specs.declared.memory.Memory.{Memory as NoMemory}
use Rattle.delgunsai_c.specs.declared.driving.NextStep.{NextStep}
use Rattle.delgunsai_c.specs.declared.failure.Failure.TheVariants.{Memory, Order}
use Rattle.delgunsai_c.specs.declared.held.Held.{Held}
use Rattle.delgunsai_c.specs.Driving.{TellsStep, numbers_of, plain}
use Rattle.delgunsai_c.specs.Failure.{code_of}

-- The request needn't wait for a look any more. Nothing else changes, and the number is 0.
abbrev pub EndsLook : ℤ → Held → Held → Type 0
EndsLook told h k = (told ≡ pos 0) × (k ≡ record h { dialogue = record h.dialogue { looks = false } })

-- Nothing changes, since the call doesn't fit.
abbrev pub IsOutOfOrder : ℤ → Held → Held → Type 0
IsOutOfOrder told h k = (told ≡ code_of Order) × (k ≡ h)

abbrev pub waits_by : Option Status → List ℕ → List ℕ
waits_by None waits = waits
waits_by (Some s) waits = s.waits

-- the bytes that are to be written: those of the check, if one is under way
abbrev pub waits_of : Held → List ℕ
waits_of h = waits_by h.check h.dialogue.status.waits

-- as many of the bytes as fit into the room are written into it, and the number says how many there are
abbrev pub LaysFront : (text room left : List ℕ) → ℤ → Type 0
LaysFront text room left told = (told ≡ pos (length text)) × (left ≡ take (length room) text ++ drop (length text) room)

abbrev pub LaysWaiting : Held → (room left : List ℕ) → ℤ → Type 0
LaysWaiting h room left told = LaysFront (waits_of h) room left told

-- ---- what was written

abbrev pub WritesBy : Option Status → ℕ → Held → Held → Type 0
WritesBy None count h k =
    Goes MakesNone [] h.dialogue h.client k.dialogue k.client × (k.client ≡ h.client) × (k.check ≡ None)
    × (k.dialogue ≡ record h.dialogue { status = after_write count h.dialogue.status }) × (k.exchanges ≡ h.exchanges)
WritesBy (Some s) count h k = k ≡ record h { check = Some (after_write count s) }

-- A check is under way, or an exchange on a connection that is there.
abbrev pub IsConnected : Held → Type 0
IsConnected h = h.check ≡ None → (h.dialogue.asked ≡ true) × (h.dialogue.status.is_open ≡ true)

-- The write is noted. Or the call doesn't fit: more was written than waited, or nothing is under way that could be written.
abbrev pub Writes : ℕ → ℤ → Held → Held → Type 0
Writes count told h k = ((told ≡ pos 0) × WritesBy h.check count h k)
    ⊎ (IsOutOfOrder told h k × (count ≤ length (waits_of h) → IsConnected h → ⊥))

-- ---- a new connection

-- a check has its connection, or memory ran out for it, or it had one already
abbrev pub OpensCheck : ℤ → Status → Status → Type 0
OpensCheck told s new = ((told ≡ pos 0) × (new ≡ after_open s)) ⊎ ((told ≡ code_of Memory) × (new ≡ over []))
    ⊎ ((told ≡ code_of Order) × (new ≡ s) × (s.is_open ≡ true))

-- there is a connection: a new one, or the one that was there
abbrev pub IsOpened : Talk → Talk → Type 0
IsOpened t u = (u.status.is_open ≡ true) × (t.status.is_open ≡ false → u ≡ record t { status = after_open t.status; looks = true; early = false })
    × (t.status.is_open ≡ true → u ≡ t)

abbrev pub ConnectsBy : Option Status → ℤ → Held → Held → Type 0
ConnectsBy None told h k = (k.client ≡ h.client) × (k.check ≡ None) × (k.exchanges ≡ h.exchanges)
    × (((told ≡ pos 0) × Goes MakesNone [] h.dialogue h.client k.dialogue k.client × IsOpened h.dialogue k.dialogue)
    ⊎ ((told ≡ code_of Memory) × Goes Fails [] h.dialogue h.client k.dialogue k.client))
ConnectsBy (Some s) told h k = (new : Status) × OpensCheck told s new × (k ≡ record h { check = Some new })

-- The connection is noted, or no exchange is under way.
abbrev pub Connects : ℤ → Held → Held → Type 0
Connects told h k = ConnectsBy h.check told h k
    ⊎ (IsOutOfOrder told h k × (h.check ≡ None) × (h.dialogue.asked ≡ false))

-- ---- the end of a connection

-- The request is out on a connection that was kept, and nothing came of the answer. The connection isn't late (`how` is not 3), or the
-- request was sent early.
abbrev pub IsSentAgain : ℕ → Held → Type 0
IsSentAgain how h = (is_again h.dialogue.status ≡ true) × ((¬ (how ≡ 3)) ⊎ (h.dialogue.early ≡ true))

-- The exchange went on without its connection. Its request is sent once more, or the exchange is over.
pub record GoesOnWithout (how : ℕ) (step : Step) (h k : Held) : Type 0 where
  pub goes : Goes (rounds_of step) [] h.dialogue h.client k.dialogue k.client
  pub says : Says step k.dialogue k.client
  pub over : k.dialogue.status.is_open ≡ false
  pub status : HasStatusOf h.dialogue.status.head step
  pub again : step ≡ More → is_again h.dialogue.status ≡ true
  pub kept : IsSentAgain how h → step ≡ More
  pub late : how ≡ 3 → h.dialogue.early ≡ false → step ≢ More

-- No exchange was under way. Only the connection changes: it is over.
pub record EndsIdle (out : NextStep) (h k : Held) : Type 0 where
  pub idle : h.dialogue.asked ≡ false
  pub step : out ≡ plain 8 0
  pub begins : BeginsAnew h.dialogue.exchanges h.dialogue k.dialogue
  pub over : k ≡ record h { dialogue = record h.dialogue { status = over [] } }

-- The exchange that was under way went on so.
pub record EndsBusy (how : ℕ) (out : NextStep) (h k : Held) : Type 0 where
  pub busy : h.dialogue.asked ≡ true
  pub step : Step
  pub numbers : out ≡ numbers_of 0 step
  pub goes_on : GoesOnWithout how step h k
  pub check : k.check ≡ None
  pub exchanges : k.exchanges ≡ h.exchanges

-- Of a check the end is noted. If no exchange is under way, a query may begin anew. If one is, it went on so.
abbrev pub EndsTo : Option Status → ℕ → Result NextStep NoMemory → Held → Held → Type 0
EndsTo (Some s) how result h k = (result ≡ Ok (plain 8 0)) × (k ≡ record h { check = Some (after_gone s) })
EndsTo None how (Ok out) h k = EndsIdle out h k ⊎ EndsBusy how out h k
EndsTo None how (Err e) h k = Goes Fails [] h.dialogue h.client k.dialogue k.client × (k.dialogue.status.is_open ≡ false)
    × (IsSentAgain how h → ⊥) × (k.check ≡ None) × (k.exchanges ≡ h.exchanges)

abbrev pub EndsBy : ℕ → Result NextStep NoMemory → Held → Held → Type 0
EndsBy how result h k = EndsTo h.check how result h k

abbrev pub EndsOr : (how : ℕ) (out left : NextStep) → ℤ → Held → Held → Type 0
EndsOr how out left told h k = (result : Result NextStep NoMemory) × EndsBy how result h k × TellsStep result out left told

-- ---- queries, and checks

-- A query of any client may begin, with this limit of exchanges. The client stays.
pub record SetsExchanges (exchanges : ℕ) (told : ℤ) (h k : Held) : Type 0 where
  pub says : told ≡ pos 0
  pub client : k.client ≡ h.client
  pub check : k.check ≡ None
  pub most : k.exchanges ≡ exchanges
  pub begins : BeginsAnew exchanges h.dialogue k.dialogue

-- A query begins without a connection, whatever happened before. The client stays.
pub record BeginsAlone (h k : Held) : Type 0 where
  pub client : k.client ≡ h.client
  pub begins : BeginsAnew h.exchanges h.dialogue k.dialogue
  pub idle : k.dialogue.asked ≡ false
  pub over : k.dialogue.status ≡ over []
  pub exchanges : k.exchanges ≡ h.exchanges

-- A check is under way, on a connection of its own. Or there is none: the client has no revision, or memory ran out.
abbrev pub AsksSame : ℤ → Held → Held → Type 0
AsksSame told h k = BeginsAlone h k
    × (((told ≡ code_of Memory) × (k.check ≡ None)) ⊎ ((told ≡ pos 0) × (check_of h.client ≡ None) × (k.check ≡ None))
    ⊎ ((told ≡ pos 1) × IsSome k.check × IsCheckOf (check_of h.client) k.check))
