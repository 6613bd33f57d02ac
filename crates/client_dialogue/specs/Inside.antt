-- What the parts of a call do to the dialogue, and to a client within an answer, a front of which was fed to it.
use Rattle.std.specs.Prelude.{◌≡◌, ◌⊎◌, ◌-◌, ℕ, Bool, false, true, List, ◌++◌, length, Some, []}
use Rattle.client_connection.specs.Status.{after_ask, after_finish, over, turn_of}
use Rattle.client_connection.specs.declared.parts.Turn.{Turn}
use Rattle.client_connection.specs.declared.parts.Turn.TheVariants.{Sends, Sent}
use Rattle.client_connection.specs.declared.parts.Part.{Part}
use Rattle.client_connection.specs.declared.parts.Part.TheVariants.{Again, Begun, Body, Head, Interim, Refused, Stray}
use Rattle.cog_client.specs.declared.delivered.Delivered.{Delivered}
use Rattle.cog_client.specs.Client.{ClientState, asked_of, tag_of}
use Rattle.cog_client.specs.FedClient.{Fed}
use Rattle.cog_client.specs.Keeps.{DeliversKeeping, StopsDelivery}
use Rattle.client_dialogue.specs.Goes.{IsUsed}
use Rattle.client_dialogue.specs.History.{Talk}
use Rattle.client_dialogue.specs.Useful.{IsUseful}
use Rattle.client_dialogue.specs.declared.step.Exchanged.{Exchanged}
use Rattle.client_dialogue.specs.declared.step.Step.{Step}
use Rattle.client_dialogue.specs.declared.step.Step.TheVariants.{Exchanged as AnExchange, More}

-- These bytes were fed after the front.
abbrev pub Feeds : List ℕ → ClientState → ClientState → Type 0
Feeds bytes c d = (s : ClientState) (p : List ℕ) → Fed s p c → Fed s (p ++ bytes) d

-- Memory ran out for these bytes, or after them.
abbrev pub Halts : List ℕ → ClientState → ClientState → Type 0
Halts bytes c d = (s : ClientState) (p : List ℕ) → Fed s p c → StopsDelivery s (p ++ bytes) d

-- These bytes end the answer, with this result.
abbrev pub Concludes : List ℕ → Delivered → ClientState → ClientState → Type 0
Concludes bytes what c d = (s : ClientState) (p : List ℕ) → Fed s p c → DeliversKeeping s (p ++ bytes) what d

-- no exchange is under way, and there is no connection
abbrev pub given_up : Talk → Talk
given_up t = record t { status = over []; asked = false }

abbrev pub is_sends : Turn → Bool
is_sends Sends = true
is_sends turn = false

abbrev pub is_sent : Turn → Bool
is_sent Sent = true
is_sent turn = false

-- This request is under way. It is written only after a look if it is sent on the connection that is kept.
abbrev pub after_put : List ℕ → Talk → Talk
after_put text t = record t {
  status = after_ask text t.status;
  asked = true;
  exchanges = t.exchanges - 1;
  looks = is_sends (turn_of text t.status);
  early = is_sent (turn_of text t.status);
}

-- The connection went on after an answer that is whole and was used. After any other it was ended.
abbrev pub HasGoneOn : Delivered → Talk → Talk → Type 0
HasGoneOn what t u = ((t.status.left ≡ Some 0) × (u ≡ record t { status = after_finish t.status }) × IsUsed what)
    ⊎ ((u ≡ record t { status = over [] }) × ¬ ((t.status.left ≡ Some 0) × IsUsed what))

-- The exchange is over with what came of the head.
abbrev pub IsConcluded : Step → Talk → ClientState → Talk → ClientState → Type 0
IsConcluded step t c u d = (exchanged : Exchanged) × (step ≡ AnExchange exchanged) × (u ≡ record t { asked = false })
    × Concludes t.status.head exchanged.delivered c d

-- as many bytes of the body are of use as the client can use of an answer with the head that came
abbrev pub FindsUseful : Talk → ClientState → Talk → Type 0
FindsUseful t c u = (count : ℕ) × IsUseful t.status.head (asked_of c) (tag_of c) count × (u ≡ record t { useful = count })

-- what is done with the bytes of a part
abbrev pub IsFedBy : Part → List ℕ → Step → Talk → ClientState → Talk → ClientState → Type 0
IsFedBy Head bytes step t c u d = (step ≡ More) × (u ≡ t) × (d ≡ c)
IsFedBy Interim bytes step t c u d = (step ≡ More) × (u ≡ t) × (d ≡ c)
IsFedBy Again bytes step t c u d = (step ≡ More) × (u ≡ t) × (d ≡ c)
IsFedBy Begun bytes step t c u d = (step ≡ More) × FindsUseful t c u × Feeds t.status.head c d
IsFedBy Body bytes step t c u d = (step ≡ More) × (u ≡ record t { useful = t.useful - length bytes }) × Feeds bytes c d
IsFedBy Refused bytes step t c u d = IsConcluded step t c u d
IsFedBy Stray bytes step t c u d = IsConcluded step t c u d

-- Memory ran out for the bytes of a part.
abbrev pub IsHaltedBy : Part → List ℕ → Talk → ClientState → Talk → ClientState → Type 0
IsHaltedBy Head bytes t c u d = ⊥
IsHaltedBy Interim bytes t c u d = ⊥
IsHaltedBy Again bytes t c u d = ⊥
IsHaltedBy Begun bytes t c u d = (u ≡ given_up t) × Halts t.status.head c d
IsHaltedBy Body bytes t c u d = (u ≡ given_up t) × Halts bytes c d
IsHaltedBy Refused bytes t c u d = (u ≡ given_up t) × Halts t.status.head c d
IsHaltedBy Stray bytes t c u d = (u ≡ given_up t) × Halts t.status.head c d
