-- What holds of the effect of every event, where it holds of those without a client's request and without a check.
use Rattle.std.proofs.Common.{◌≡◌, ℕ, Bool, true, false, List, length, Option, Some, None, refl, sym, subst}
use Rattle.std.specs.Prelude.{nat_lt, slice_get, if◌then◌else◌}
use Rattle.cog_server.specs.declared.error.PublishError.{PublishError}
use Rattle.cog_server.specs.declared.server.Answer.{Answer}
use Rattle.cog_client.specs.declared.delivered.Delivered.{Delivered}
use Rattle.cog_client.specs.declared.error.ClientError.{ClientError}
use Rattle.cog_client.specs.Client.{ClientState, client_refusal}
use Rattle.world.specs.declared.event.Effect.{Effect}
use Rattle.world.specs.declared.event.Effect.TheVariants as effects
use Rattle.world.specs.declared.event.Entry.{Entry}
use Rattle.world.specs.declared.event.Event.{Event}
use Rattle.world.specs.declared.event.Event.TheVariants.{Publish, Epoch, NewClient, Open, Forget, Ask, AskFrom, Deliver, Exchange, Check}
use Rattle.world.specs.World.{World, host, next_of}
use Rattle.world.specs.Run.{AtClient, MakesBy, publish_effect, receiver}
use Rattle.world.specs.State.{IsDeliveryKeeping, StepKeeping, refused_at}

pub record HoldsElse (P : Effect → Type 0) : Type 0 where
  pub skipped : P effects.Skipped
  pub published : (tag : List ℕ) → P (effects.Published tag)
  pub refused : (e : PublishError) → P (effects.Refused e)
  pub epoch : (e : ℕ) → P (effects.Epoch e)
  pub made : (k : ℕ) → P (effects.Made k)
  pub opened : (i : ℕ) → P (effects.Opened i)
  pub forgot : (i : ℕ) → P (effects.Forgot i)
  pub answered : (k : ℕ) (a : Answer) → P (effects.Answered k a)
  pub delivered : (i : ℕ) (what : Delivered) → P (effects.Delivered i what)

-- where the effect is this one
pub at_effect : (P : Effect → Type 0) (effect done : Effect) → effect ≡ done → P done → P effect
at_effect P effect done is h = subst P (sym is) h

module _ (P : Effect → Type 0) (else_ : HoldsElse P) where
  of_publishing : (tag : List ℕ) (o : Option PublishError) → P (publish_effect tag o)
  of_publishing tag None = else_.published tag
  of_publishing tag (Some refusal) = else_.refused refusal

  of_restart : (b : Bool) (e : ℕ) → P (if b then effects.Epoch e else effects.Skipped)
  of_restart true e = else_.epoch e
  of_restart false e = else_.skipped

  of_making : (o : Option ClientError) (name : List ℕ) (blocks : ℕ) (n : Entry) (old new : List ClientState) → MakesBy o name blocks n old new → P n.effect
  of_making None name blocks n old new h = at_effect P n.effect _ h.2.done (else_.made (length old))
  of_making (Some refusal) name blocks n old new h = at_effect P n.effect _ h.done else_.skipped

  pub of_call : (o : Option ClientState) (R : ClientState → ClientState → Type 0) (i : ℕ) (n : Entry) (old new : List ClientState) → ((c next : ClientState) → o ≡ Some c → R c next → P n.effect) → AtClient o R i n old new → P n.effect
  of_call None R i n old new each h = at_effect P n.effect _ h.done else_.skipped
  of_call (Some c) R i n old new each h = each c h.next refl h.does

  of_delivery : (o : Option Answer) (client : Option ClientState) (cut : Option ℕ) (i : ℕ) (n : Entry) (old new : List ClientState) → IsDeliveryKeeping o client cut i n old new → P n.effect
  of_delivery None client cut i n old new h = at_effect P n.effect _ h.done else_.skipped
  of_delivery (Some a) client cut i n old new h =
      of_call (receiver (Some a) client) _ i n old new (λ c next is d. at_effect P n.effect _ d.does.seen.1 (else_.delivered i d.does.seen.0)) h

  -- an event that neither asks for a client nor checks
  pub of_step : (w : World) (cs : List ClientState) (e : Event) (n : Entry) (new : List ClientState)
      → ((i : ℕ) → e ≡ AskFrom i → StepKeeping w cs (AskFrom i) n new → P n.effect) → ((i : ℕ) → e ≡ Exchange i → StepKeeping w cs (Exchange i) n new → P n.effect)
      → ((i : ℕ) → e ≡ Check i → StepKeeping w cs (Check i) n new → P n.effect) → StepKeeping w cs e n new → P n.effect
  of_step w cs (Publish name file) n new asks exchanges checks h = at_effect P n.effect _ h.done (of_publishing (next_of w name.items file.items).tag (refused_at w name.items file.items))
  of_step w cs (Epoch e) n new asks exchanges checks h = at_effect P n.effect _ h.1.done (of_restart (nat_lt w.epoch e) e)
  of_step w cs (NewClient name blocks) n new asks exchanges checks h = of_making (client_refusal host name.items blocks) name.items blocks n cs new h
  of_step w cs (Open i q) n new asks exchanges checks h = of_call (slice_get cs i) _ i n cs new (λ c next is d. at_effect P n.effect _ d.does.done (else_.opened i)) h
  of_step w cs (Forget i) n new asks exchanges checks h = of_call (slice_get cs i) _ i n cs new (λ c next is d. at_effect P n.effect _ d.does.done (else_.forgot i)) h
  of_step w cs (Ask message) n new asks exchanges checks h = at_effect P n.effect _ h.0.done (else_.answered (length w.sent) h.0.answer)
  of_step w cs (AskFrom i) n new asks exchanges checks h = asks i refl h
  of_step w cs (Deliver i k cut) n new asks exchanges checks h = of_delivery (slice_get w.sent k) (slice_get cs i) cut i n cs new h
  of_step w cs (Exchange i) n new asks exchanges checks h = exchanges i refl h
  of_step w cs (Check i) n new asks exchanges checks h = checks i refl h
