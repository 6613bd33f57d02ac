-- The status of an exchange is that of its head.
use Rattle.std.proofs.Common.{◌≡◌, ◌<◌, ◌++◌, ℕ, true, false, List, length, Option, None, Some, Result, Ok, Err, arith, refl, sym, subst, ◌∙◌}
use Rattle.std.specs.Option.{is_some}
use Rattle.std.specs.Prelude.{IfOk}
use Rattle.client_connection.specs.declared.parts.Part.{Part}
use Rattle.client_connection.specs.declared.parts.Part.TheVariants.{Again, Begun, Body, Head, Interim, Refused, Stray}
use Rattle.client_connection.specs.Status.{Status, Takes, after_gone, is_again}
use Rattle.cog_client.specs.Client.{ClientState}
use Rattle.client_dialogue.specs.Goes.{HasStatusOf}
use Rattle.client_dialogue.specs.History.{Talk}
use Rattle.client_dialogue.specs.Inside.{IsFedBy}
use Rattle.client_dialogue.specs.declared.step.Step.{Step}
use Rattle.client_dialogue.specs.declared.step.Step.TheVariants.{Exchanged as AnExchange, More}

pub none_if : (o : Option ℕ) → is_some o ≡ false → o ≡ None
none_if None e = refl
none_if (Some n) e = (let clash : true ≡ false = e in cc)

-- what came of a head stays where the connection is lost
pub gone_head : (s : Status) → s.left ≡ None → is_again s ≡ false → (after_gone s).head ≡ s.head
gone_head s none other = rw other (rw none refl)

pub same_head : {E : Type 0} (r : Result Step E) (head other : List ℕ) → head ≡ other → IfOk r (HasStatusOf head) → IfOk r (HasStatusOf other)
same_head (Err e) head other same tells = tt
same_head (Ok step) head other same tells = subst (λ (xs : List ℕ). HasStatusOf xs step) same tells

-- after more there is no exchange that is over
goes_on : (step : Step) (head : List ℕ) → step ≡ More → HasStatusOf head step
goes_on step head more = λ e is. let clash : More ≡ AnExchange e = sym more ∙ is in cc

-- An exchange is over with bytes that end a head.
pub fed_status : (part : Part) (bytes : List ℕ) (step : Step) (s new : Status) (t u : Talk) (c d : ClientState) → 0 < length s.out
    → Takes part bytes s new → IsFedBy part bytes step t c u d → HasStatusOf new.head step → HasStatusOf (s.head ++ bytes) step
fed_status Head bytes step s new t u c d some takes fed tells = goes_on step _ fed.0
fed_status Interim bytes step s new t u c d some takes fed tells = goes_on step _ fed.0
fed_status Again bytes step s new t u c d some takes fed tells = goes_on step _ fed.0
fed_status Begun bytes step s new t u c d some takes fed tells = goes_on step _ fed.0
fed_status Body bytes step s new t u c d some takes fed tells = goes_on step _ fed.0
fed_status Refused bytes step s new t u c d some takes fed tells =
    subst (λ (x : Status). HasStatusOf x.head step) takes.1.1 tells
fed_status Stray bytes step s new t u c d some takes fed tells =
    let clash : length s.out ≡ 0 = rw takes.0 refl in absurd (omega (arith, clash, some))
