-- How much of an answer is of use, and is taken.
use Rattle.std.proofs.Common.{◌≡◌, ℕ, ◌-◌, true, false, List, length, Option, None, Some, refl, sym, ap, subst, ◌∙◌}
use Rattle.std.specs.Prelude.{◌<◌, IfSome, IsSome, max, min}
use Rattle.client_connection.specs.declared.parts.Part.{Part}
use Rattle.client_connection.specs.declared.parts.Part.TheVariants.{Again, Begun, Body, Head, Interim, Refused, Stray}
use Rattle.client_connection.specs.Status.{Status, Takes}
use Rattle.cog_client.specs.Client.{ClientState, asked_of, tag_of}
use Rattle.client_dialogue.specs.History.{Talk}
use Rattle.client_dialogue.specs.Inside.{IsFedBy}
use Rattle.client_dialogue.specs.Useful.{IsUseful}
use Rattle.client_dialogue.specs.declared.step.Exchanged.{Exchanged}
use Rattle.client_dialogue.specs.declared.step.Step.{Step}
use Rattle.client_dialogue.specs.declared.step.Step.TheVariants.{Exchanged as AnExchange, More}

-- a head that isn't whole leaves nothing to read of a body
none_left : {P : Type 0} (o : Option ℕ) → o ≡ None → IsSome o → P
none_left None none some = (let clash : false ≡ true = some in cc)
none_left (Some n) none some = (let clash : Some n ≡ None = none in cc)

not_more : {P : Type 0} (step : Step) (x : Exchanged) → step ≡ AnExchange x → step ≡ More → P
not_more step x is more = (let clash : AnExchange x ≡ More = sym is ∙ more in cc)

-- Once a head is whole, it is known how many bytes of the body are of use.
pub fed_useful : (part : Part) (bytes : List ℕ) (step : Step) (t : Talk) (s : Status) (u : Talk) (c d : ClientState) → Takes part bytes t.status s
    → IsFedBy part bytes step (record t { status = s }) c u d → t.status.left ≡ None → step ≡ More → IsSome u.status.left
    → IsUseful u.status.head (asked_of c) (tag_of c) u.useful
fed_useful Head bytes step t s u c d takes fed none more some =
    none_left u.status.left (ap (λ (x : Talk). x.status.left) fed.1 ∙ ap (λ (x : Status). x.left) takes.1.1 ∙ none) some
fed_useful Interim bytes step t s u c d takes fed none more some =
    none_left u.status.left (ap (λ (x : Talk). x.status.left) fed.1 ∙ ap (λ (x : Status). x.left) takes.1.5 ∙ none) some
fed_useful Again bytes step t s u c d takes fed none more some =
    none_left u.status.left (ap (λ (x : Talk). x.status.left) fed.1 ∙ ap (λ (x : Status). x.left) takes.1.2) some
fed_useful Begun bytes step t s u c d takes fed none more some =
    subst (λ (x : Talk). IsUseful x.status.head (asked_of c) (tag_of c) x.useful) (sym fed.1.2) fed.1.1
fed_useful Body bytes step t s u c d takes fed none more some = (let clash : None ≡ Some takes.0 = sym none ∙ takes.1 in cc)
fed_useful Refused bytes step t s u c d takes fed none more some = not_more step fed.0 fed.1 more
fed_useful Stray bytes step t s u c d takes fed none more some = not_more step fed.0 fed.1 more

-- of a body each byte that is taken is one less of use
pub fed_body : (part : Part) (bytes : List ℕ) (step : Step) (t u : Talk) (c d : ClientState) → part ≡ Body → IsFedBy part bytes step t c u d
    → (step ≡ More) × (u.useful ≡ t.useful - length bytes)
fed_body part bytes step t u c d is fed =
    let body : IsFedBy Body bytes step t c u d = subst (λ (x : Part). IsFedBy x bytes step t c u d) is fed in
    (body.0, ap (λ (x : Talk). x.useful) body.1)

-- as many bytes of a body are taken as are there, to come, and may be read
pub takes_body : (o : Option ℕ) (part : Part) (out : List (List ℕ)) (step : Step) (n most useful then : ℕ) (front taken bytes : List ℕ)
    → IfSome o (λ left. 0 < length out → (part ≡ Body) × (n ≡ min left (length front)))
    → (IsSome o → most ≡ min (max useful 1) (length bytes)) → length front ≡ most
    → (part ≡ Body → (step ≡ More) × (then ≡ useful - length taken)) → length taken ≡ n → 0 < length out
    → IfSome o (λ left. (step ≡ More) × (n ≡ min left (min (max useful 1) (length bytes))) × (then ≡ useful - n))
takes_body None part out step n most useful then front taken bytes came read whole fed all some = tt
takes_body (Some left) part out step n most useful then front taken bytes came read whole fed all some =
    let body = came some in
    let more = fed body.0 in
    (more.0, body.1 ∙ ap (min left) (whole ∙ read refl), more.1 ∙ ap (λ (k : ℕ). useful - k) all)
