-- What a driver's call from C does to what its handle holds, and which numbers it returns.
use Rattle.std.specs.Prelude.{◌≡◌, ◌⊎◌, ◌<◌, ◌≤◌, ℕ, ℤ, pos, Bool, if◌then◌else◌, List, [], length, take, Option, None, Some, Result, Ok, Err}
use Rattle.client_connection.specs.Status.{Status}
use Rattle.client_dialogue.specs.Checking.{AdvancesCheck, ChecksBy, GetsOthersFor}
use Rattle.client_dialogue.specs.Goes.{Advances, BeginsOn, Fails, GetsOthers, Goes, IsOut, KeepsPlan, KeepsUsed, KeepsWaits, ReadsUseful, Says, TellsStatus, rounds_of}
use Rattle.client_dialogue.specs.Useful.{IsStatusOf}
use Rattle.client_dialogue.specs.declared.check.CheckStep.{CheckStep}
use Rattle.client_dialogue.specs.declared.check.CheckStep.TheVariants as check
use Rattle.client_dialogue.specs.declared.step.Step.{Step}
use Rattle.client_dialogue.specs.declared.step.Step.TheVariants.{Connect, Exchanged, Look, More, Over, Read, Write}
use Rattle.extents.specs.declared.memory.Memory.{Memory as NoMemory}
use Rattle.delgunsai_c.specs.declared.driving.NextStep.{NextStep}
use Rattle.delgunsai_c.specs.declared.failure.Failure.TheVariants.{Memory, NoClient}
use Rattle.delgunsai_c.specs.declared.held.Held.{Held}
use Rattle.delgunsai_c.specs.Failure.{code_of}
use Rattle.delgunsai_c.specs.Said.{said_of_current, said_of_delivered}

-- ---- the numbers

abbrev pub plain : ℕ → ℕ → NextStep
plain kind taken = record { taken = taken; kind = kind; said = record { kind = 0; number = 0 }; status = 0; alone = 0 }

abbrev pub bit : Bool → ℕ
bit b = if b then 1 else 0

abbrev pub numbers_of : ℕ → Step → NextStep
numbers_of taken Connect = plain 1 taken
numbers_of taken Write = plain 2 taken
numbers_of taken Read = plain 3 taken
numbers_of taken Look = plain 4 taken
numbers_of taken (Exchanged e) =
    record { taken = taken; kind = 5; said = said_of_delivered e.delivered; status = e.status; alone = bit e.alone }
numbers_of taken Over = plain 7 taken
numbers_of taken More = plain 8 taken

abbrev pub check_numbers_of : ℕ → CheckStep → ℕ → NextStep
check_numbers_of taken check.Connect status = plain 1 taken
check_numbers_of taken check.Write status = plain 2 taken
check_numbers_of taken check.Read status = plain 3 taken
check_numbers_of taken (check.Checked current) status =
    record { taken = taken; kind = 6; said = said_of_current current; status = status; alone = 0 }
check_numbers_of taken check.More status = plain 8 taken

-- ---- a call

-- Something was held, and `does` says what became of it. Or nothing was held, nothing is held now, and the number says so.
abbrev pub Drives : (Held → Held → Type 0) → Option Held → Option Held → ℤ → Type 0
Drives does old new told = ((h : Held) × (k : Held) × (old ≡ Some h) × (new ≡ Some k) × does h k)
    ⊎ ((old ≡ None) × (new ≡ None) × (told ≡ code_of NoClient))

-- Only the client changes: its exchanges, the check and the limit of exchanges stay.
abbrev pub KeepsRest : Option Held → Option Held → ℤ → Type 0
KeepsRest old new told = Drives (λ h k. k ≡ record h { client = k.client }) old new told

-- The exchanges went on so, and no check is under way. Where the driver gets other bytes next, all bytes are taken.
pub record GoesOn (bytes : List ℕ) (n : ℕ) (step : Step) (h k : Held) : Type 0 where
  pub few : n ≤ length bytes
  pub drops : GetsOthers step → n ≡ length bytes
  pub goes : Goes (rounds_of step) (take n bytes) h.dialogue h.client k.dialogue k.client
  pub says : Says step k.dialogue k.client
  pub keeps : KeepsUsed h.dialogue.status step k.dialogue.status
  pub advances : Advances h.dialogue n step
  pub begins : BeginsOn h.dialogue k.dialogue
  pub plan : KeepsPlan h.dialogue k.dialogue
  pub useful : IsOut h.dialogue → ReadsUseful h.dialogue h.client bytes n step k.dialogue
  pub status : 0 < length h.dialogue.status.out → TellsStatus h.dialogue.status.head (take n bytes) step
  pub waits : KeepsWaits h.dialogue.status k.dialogue.status
  pub check : k.check ≡ None
  pub exchanges : k.exchanges ≡ h.exchanges

-- what is left of a check after a step: nothing if the check is over
abbrev pub check_after : CheckStep → Status → Option Status
check_after (check.Checked current) s = None
check_after step s = Some s

-- The check went on so, and this is the status code of its answer so far. Nothing else changes. Where the driver gets other bytes
-- next, all bytes are taken.
abbrev pub ChecksOn : (bytes : List ℕ) (n : ℕ) (step : CheckStep) (status : ℕ) → Status → Held → Held → Type 0
ChecksOn bytes n step status s h k = (n ≤ length bytes) × (GetsOthersFor step → n ≡ length bytes) × AdvancesCheck s n step
    × ((new : Status) × ChecksBy h.client step (take n bytes) s new × IsStatusOf new.head status × (k ≡ record h { check = check_after step new }))

abbrev pub DrivesBy : Option Status → List ℕ → NextStep → Held → Held → Type 0
DrivesBy None bytes out h k = (n : ℕ) × (step : Step) × (out ≡ numbers_of n step) × GoesOn bytes n step h k
DrivesBy (Some s) bytes out h k =
    (n : ℕ) × (step : CheckStep) × (status : ℕ) × (out ≡ check_numbers_of n step status) × ChecksOn bytes n step status s h k

-- Memory ran out. The history goes on by at most one round that says so, or the check is over.
abbrev pub FailsBy : Option Status → Held → Held → Type 0
FailsBy None h k = Goes Fails [] h.dialogue h.client k.dialogue k.client × (k.check ≡ None) × (k.exchanges ≡ h.exchanges)
FailsBy (Some s) h k = k ≡ record h { check = None }

-- the step is written into the room, and the number is 0; or the room stays, and the number says that memory ran out
abbrev pub TellsStep : Result NextStep NoMemory → NextStep → NextStep → ℤ → Type 0
TellsStep (Ok step) out left told = (left ≡ step) × (told ≡ pos 0)
TellsStep (Err e) out left told = (left ≡ out) × (told ≡ code_of Memory)

abbrev pub DrivesOr : List ℕ → NextStep → NextStep → ℤ → Held → Held → Type 0
DrivesOr bytes out left told h k =
    ((told ≡ pos 0) × DrivesBy h.check bytes left h k) ⊎ ((told ≡ code_of Memory) × (left ≡ out) × FailsBy h.check h k)
