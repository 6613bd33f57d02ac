-- What a check does, and what it says.
use Rattle.std.specs.Prelude.{◌≡◌, ⊤, ◌<◌, ◌⊎◌, ℕ, false, true, List, [], ◌∷◌, length, Option, None, Some, IsSome}
use Rattle.client_connection.specs.Status.{Status, Takes, over}
use Rattle.client_connection.specs.declared.parts.Part.{Part}
use Rattle.cog_client.specs.Check.{IsCurrent}
use Rattle.cog_client.specs.Client.{ClientState, tag_of}
use Rattle.cog_client.specs.declared.delivered.Current.{Current}
use Rattle.client_dialogue.specs.declared.check.CheckStep.{CheckStep}
use Rattle.client_dialogue.specs.declared.check.CheckStep.TheVariants.{Checked, Connect, More, Read, Write}

-- If there is a check, its request waits for a connection.
abbrev pub IsCheckOf : Option (List ℕ) → Option Status → Type 0
IsCheckOf None check = check ≡ None
IsCheckOf (Some text) check = check ≡ Some (over (text ∷ []))

-- nothing more is awaited: the head is whole, or the connection is over
abbrev pub IsAnswered : Status → Type 0
IsAnswered s = (s.out ≡ []) ⊎ IsSome s.left

-- For this step of a check the driver gets other bytes. It hands on none of these again.
abbrev pub GetsOthersFor : CheckStep → Type 0
GetsOthersFor Connect = ⊤
GetsOthersFor Read = ⊤
GetsOthersFor step = ⊥

-- A step of a check. It says what is to be done next, and nothing changes. Or it takes bytes, which are dropped while there is no
-- connection. The result of the check is what the head that came says.
abbrev pub ChecksBy : ClientState → CheckStep → List ℕ → Status → Status → Type 0
ChecksBy c Connect bytes old new = (new ≡ old) × (old.is_open ≡ false) × (0 < length old.out)
ChecksBy c Write bytes old new = (new ≡ old) × (bytes ≡ []) × (old.is_open ≡ true) × (0 < length old.waits)
ChecksBy c Read bytes old new = (new ≡ old) × (bytes ≡ []) × (old.is_open ≡ true) × (old.waits ≡ [])
ChecksBy c More bytes old new = (part : Part) × Takes part bytes old new
ChecksBy c (Checked current) bytes old new = (new ≡ old) × (bytes ≡ []) × IsAnswered old × IsCurrent (tag_of c) old.head current

-- Once the head is whole or the connection is over, the step is the result of the check. After `More` bytes were taken.
abbrev pub AdvancesCheck : Status → ℕ → CheckStep → Type 0
AdvancesCheck s n step = (IsAnswered s → (current : Current) × (step ≡ Checked current)) × (step ≡ More → 0 < n)
