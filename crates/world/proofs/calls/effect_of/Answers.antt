use Rattle.std.proofs.Common.{Option, Some, None, sym, subst}
use Rattle.std.specs.Prelude.{IfOk, OnErr}
use Rattle.cog_client.specs.Keeps.{RequestsKeeping}
use Rattle.world.specs.declared.calls.Call.{Call}
use Rattle.world.specs.declared.event.AnsweredRequest.{AnsweredRequest}
use Rattle.world.specs.declared.event.Effect.TheVariants as effects
use Rattle.world.specs.Run.{Asks}
use Rattle.world.specs.State.{CallsWith, IsGiven, StillAgrees, request_in}
use Rattle.world.proofs.Stopping.{delivery_stops, exchange_stops}
use Rattle.world.proofs.Whole.{on_err_of, then_err_of}
use Rattle.world.proofs.CallLemmas.{asks_keeping, delivers_keeping, exchanges_keeping}
use Rattle.world.proofs.calls.effect_of.Goals as goal

pub returns-in-None-clause-ok : goal.returns-in-None-clause-ok
returns-in-None-clause-ok c =
    let P : Option AnsweredRequest → Type 0 = λ o. Asks c.args.server.now.catalogue c.args.number c.args.i o c.args.client.now c.ask_from.new.client in
    let Q : Option AnsweredRequest → Type 0 = λ o. RequestsKeeping c.args.client.now (request_in o) c.ask_from.new.client in
    subst (λ (k : Call). CallsWith c.args.server.now.catalogue c.args.number c.args.i k (effects.Nothing c.args.i) c.args.client.now c.ask_from.new.client) (sym c.in-AskFrom.is)
    (asks_keeping _ _ _ None _ _ (subst P c.in-None.is c.in_ok-ask_from-in-AskFrom.ensures.seen) (subst Q c.in-None.is c.in_ok-ask_from-in-AskFrom.ensures.kept))

pub returns-in-Some-clause-ok : goal.returns-in-Some-clause-ok
returns-in-Some-clause-ok c =
    let P : Option AnsweredRequest → Type 0 = λ o. Asks c.args.server.now.catalogue c.args.number c.args.i o c.args.client.now c.ask_from.new.client in
    let Q : Option AnsweredRequest → Type 0 = λ o. RequestsKeeping c.args.client.now (request_in o) c.ask_from.new.client in
    subst (λ (k : Call). CallsWith c.args.server.now.catalogue c.args.number c.args.i k (effects.Asked c.in-Some.asked) c.args.client.now c.ask_from.new.client) (sym c.in-AskFrom.is)
    (asks_keeping _ _ _ (Some c.in-Some.asked) _ _ (subst P c.in-Some.is c.in_ok-ask_from-in-AskFrom.ensures.seen) (subst Q c.in-Some.is c.in_ok-ask_from-in-AskFrom.ensures.kept))

pub returns-in_ok-asked-in-Exchange-clause-ok : goal.returns-in_ok-asked-in-Exchange-clause-ok
returns-in_ok-asked-in-Exchange-clause-ok c =
    subst (λ (k : Call). IfOk c.deliver_whole.result (λ effect. CallsWith c.args.server.now.catalogue c.args.number c.args.i k effect c.args.client.now c.deliver_whole.new.client)) (sym c.in-Exchange.is)
    (exchanges_keeping _ _ _ c.in_ok-asked-in-Exchange.asked _ c.ask_from-in-Exchange.new.client _ c.deliver_whole.result c.in_ok-asked-in-Exchange.ensures.seen c.in_ok-asked-in-Exchange.ensures.kept
    c.deliver_whole.ensures.seen c.deliver_whole.ensures.kept)

pub returns-in_ok-delivered-in-Deliver-clause-ok : goal.returns-in_ok-delivered-in-Deliver-clause-ok
returns-in_ok-delivered-in-Deliver-clause-ok c =
    subst (λ (k : Call). CallsWith c.args.server.now.catalogue c.args.number c.args.i k (effects.Delivered c.args.i c.in_ok-delivered-in-Deliver.delivered) c.args.client.now c.hand_over.new.client) (sym c.in-Deliver.is)
    (delivers_keeping _ _ _ _ c.in_ok-delivered-in-Deliver.delivered c.in_ok-delivered-in-Deliver.ensures.ok)

pub returns-in_ok-asked-in-Exchange-clause-err : goal.returns-in_ok-asked-in-Exchange-clause-err
returns-in_ok-asked-in-Exchange-clause-err c =
    subst (λ (k : Call). OnErr c.deliver_whole.result (StillAgrees (IsGiven c.args.server.now.catalogue c.args.number c.args.i k c.args.client.now) c.args.client.now c.deliver_whole.new.client)) (sym c.in-Exchange.is)
    (then_err_of c.deliver_whole.result (exchange_stops c.args.server.now.catalogue c.args.number c.args.i c.in_ok-asked-in-Exchange.asked c.args.client.now c.ask_from-in-Exchange.new.client c.deliver_whole.new.client
    c.in_ok-asked-in-Exchange.ensures.seen c.in_ok-asked-in-Exchange.ensures.kept) c.deliver_whole.ensures.err)

pub returns-in_err-delivered-in-Deliver-clause-err : goal.returns-in_err-delivered-in-Deliver-clause-err
returns-in_err-delivered-in-Deliver-clause-err c =
    on_err_of c.from_residual-in_err-delivered-in-Deliver.result _
    (subst (λ (k : Call). StillAgrees (IsGiven c.args.server.now.catalogue c.args.number c.args.i k c.args.client.now) c.args.client.now c.hand_over.new.client) (sym c.in-Deliver.is)
    (delivery_stops c.in-Deliver.text.now c.args.client.now c.hand_over.new.client c.in_err-delivered-in-Deliver.ensures.err))
