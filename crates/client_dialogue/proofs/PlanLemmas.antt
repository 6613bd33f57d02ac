-- Whether a request is written only after a look, and whether it was sent early.
use Rattle.std.proofs.Common.{◌≡◌, ℕ, Bool, true, false, List, [], ◌∷◌, refl, ap, inl, inr, ◌∙◌}
use Rattle.std.specs.Prelude.{◌&&◌, not}
use Rattle.std.specs.Str.{bytes_eq}
use Rattle.std.proofs.lemmas.Bool.{cases_Bool}
use Rattle.client_connection.specs.declared.parts.Part.{Part}
use Rattle.client_connection.specs.declared.parts.Part.TheVariants.{Again, Begun, Body, Head, Interim, Refused, Stray}
use Rattle.client_connection.specs.Status.{Status, after_ask, is_between, is_empty, turn_after, turn_of, turned}
use Rattle.cog_client.specs.Client.{ClientState}
use Rattle.client_dialogue.specs.Goes.{BeginsOn, KeepsPlan, KeepsWaits}
use Rattle.client_dialogue.specs.History.{Talk}
use Rattle.client_dialogue.specs.Inside.{IsFedBy, after_put, is_sends, is_sent}
use Rattle.client_dialogue.specs.declared.step.Step.{Step}

turns_on : (out : List (List ℕ)) (text : List ℕ) (s : Status) → (turned (turn_after out text) text s).is_open ≡ true
    → (is_sends (turn_after out text) ≡ is_empty out) × (is_sent (turn_after out text) ≡ not (is_empty out))
turns_on [] text s opens = (refl, refl)
turns_on (o ∷ os) text s opens = elim (cases_Bool (bytes_eq o text)) [
  | inl same ↦ rw same (refl, refl)
  | inr other ↦ (let clash : false ≡ true = rw other at opens in cc)
]

-- a request that comes on the connection was sent early if others are out
asks_on : (text : List ℕ) (s : Status) → (after_ask text s).is_open ≡ true
    → (is_sends (turn_of text s) ≡ is_empty s.out) × (is_sent (turn_of text s) ≡ not (is_empty s.out))
asks_on text s opens = elim (cases_Bool (s.is_open && is_between s)) [
  | inl both ↦ rw both (turns_on s.out text s (rw both at opens))
  | inr other ↦ (let clash : false ≡ true = rw other at opens in cc)
]

pub begins_then : (text : List ℕ) (t u : Talk) → KeepsWaits (after_ask text t.status) u.status → KeepsPlan (after_put text t) u → BeginsOn t u
begins_then text t u waits plan = λ idle busy opens.
    let on = asks_on text t.status (waits opens).0 in
    let same = plan refl in
    (same.0 ∙ on.0, same.1 ∙ on.1)

pub plan_then : (t u v : Talk) → u.asked ≡ true → KeepsPlan t u → KeepsPlan u v → KeepsPlan t v
plan_then t u v busy first second = λ was.
    let a = first was in
    let b = second busy in
    (b.0 ∙ a.0, b.1 ∙ a.1)

pub plan_is : (t u : Talk) → u.looks ≡ t.looks → u.early ≡ t.early → KeepsPlan t u
plan_is t u looks early = λ busy. (looks, early)

-- bytes that are taken change neither
pub fed_plan : (part : Part) (bytes : List ℕ) (step : Step) (t u : Talk) (c d : ClientState) → IsFedBy part bytes step t c u d → KeepsPlan t u
fed_plan Head bytes step t u c d fed = plan_is t u (ap (λ (x : Talk). x.looks) fed.1) (ap (λ (x : Talk). x.early) fed.1)
fed_plan Interim bytes step t u c d fed = plan_is t u (ap (λ (x : Talk). x.looks) fed.1) (ap (λ (x : Talk). x.early) fed.1)
fed_plan Again bytes step t u c d fed = plan_is t u (ap (λ (x : Talk). x.looks) fed.1) (ap (λ (x : Talk). x.early) fed.1)
fed_plan Begun bytes step t u c d fed = plan_is t u (ap (λ (x : Talk). x.looks) fed.1.2) (ap (λ (x : Talk). x.early) fed.1.2)
fed_plan Body bytes step t u c d fed = plan_is t u (ap (λ (x : Talk). x.looks) fed.1) (ap (λ (x : Talk). x.early) fed.1)
fed_plan Refused bytes step t u c d fed = plan_is t u (ap (λ (x : Talk). x.looks) fed.2) (ap (λ (x : Talk). x.early) fed.2)
fed_plan Stray bytes step t u c d fed = plan_is t u (ap (λ (x : Talk). x.looks) fed.2) (ap (λ (x : Talk). x.early) fed.2)
