-- What a client's calls show and keep makes up what an event does to it.
use Rattle.std.proofs.Common.{ℕ, List, Option, refl, Result, Ok, Err}
use Rattle.std.specs.Prelude.{IfOk}
use Rattle.http_range.specs.Book.{Catalogue}
use Rattle.cog_client.specs.declared.delivered.Delivered.{Delivered}
use Rattle.cog_client.specs.Client.{ClientState}
use Rattle.cog_client.specs.Keeps.{DeliversKeeping, RequestsKeeping}
use Rattle.world.specs.declared.event.AnsweredRequest.{AnsweredRequest}
use Rattle.world.specs.declared.event.Effect.{Effect}
use Rattle.world.specs.declared.event.Effect.TheVariants as effects
use Rattle.world.specs.Run.{Asks, IsExchanged, asked_effect}
use Rattle.world.specs.State.{AsksWithKeeping, DeliversWithKeeping, ExchangesWithKeeping, IsDeliveredKeeping, request_in}

pub asks_keeping : (catalogue : Catalogue) (sent i : ℕ) (o : Option AnsweredRequest) (c next : ClientState) → Asks catalogue sent i o c next → RequestsKeeping c (request_in o) next
    → AsksWithKeeping catalogue sent i (asked_effect i o) c next
asks_keeping catalogue sent i o c next asks keeps = record { seen = (o, asks, refl); requests = keeps }

pub delivers_keeping : (text : List ℕ) (i : ℕ) (c next : ClientState) (what : Delivered) → DeliversKeeping c text what next → DeliversWithKeeping text i (effects.Delivered i what) c next
delivers_keeping text i c next what d = record { seen = (what, refl, d.seen); delivers = d }

pub exchanges_keeping : {E : Type 0} (catalogue : Catalogue) (sent i : ℕ) (o : Option AnsweredRequest) (c mid next : ClientState) (r : Result Effect E) → Asks catalogue sent i o c mid → RequestsKeeping c (request_in o) mid
    → IfOk r (λ effect. IsExchanged i o effect mid next) → IfOk r (λ effect. IsDeliveredKeeping o mid next) → IfOk r (λ effect. ExchangesWithKeeping catalogue sent i effect c next)
exchanges_keeping catalogue sent i o c mid next (Err e) asks keeps seen kept = tt
exchanges_keeping catalogue sent i o c mid next (Ok effect) asks keeps seen kept =
    record { seen = (o, mid, asks, seen); requests = keeps; delivers = kept }
