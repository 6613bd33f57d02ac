use Rattle.std.proofs.Common.{List, length, refl, subst}
use Rattle.std.specs.Prelude.{IfOk, slice_get}
use Rattle.cog_client.specs.Client.{ClientState}
use Rattle.world.specs.declared.event.Event.TheVariants.{AskFrom, Exchange, Check}
use Rattle.world.specs.Run.{AtClient}
use Rattle.world.specs.State.{AsksWithKeeping, ExchangesWithKeeping, IsCheckBy, Keeping}
use Rattle.world.proofs.Whole.{ok_ask, ok_call, ok_deliver, ok_publish}
use Rattle.world.proofs.Stopping.{deliver_left, exchange_left}
use Rattle.world.proofs.world.step.Goals as goal

pub returns-in-Publish-clause-ok : goal.returns-in-Publish-clause-ok
returns-in-Publish-clause-ok c =
    ok_publish c.publish.result c.args.server.now c.publish.new.server c.args.entries.now c.args.places.now c.args.clients.now.items c.args.event.now c.in-Publish.name c.in-Publish.file
    c.deref.result.now c.deref-in-Publish.result.now c.in-Publish.is c.deref.ensures.value c.deref-in-Publish.ensures.value c.publish.ensures

pub returns-in-Ask-clause-ok : goal.returns-in-Ask-clause-ok
returns-in-Ask-clause-ok c =
    ok_ask c.ask.result c.args.server.now c.args.entries.now c.args.places.now (length c.args.places.now) c.args.clients.now.items c.args.event.now c.in-Ask.message
    c.deref-in-Ask.result.now c.in-Ask.is c.deref-in-Ask.ensures.value refl c.ask.ensures

pub returns-in-AskFrom-clause-ok : goal.returns-in-AskFrom-clause-ok
returns-in-AskFrom-clause-ok c =
    ok_call (λ i. AskFrom i) (λ catalogue sent i n old new. AtClient (slice_get old i) (Keeping (AsksWithKeeping catalogue sent i n.effect)) i n old new) (λ w i n old new h. (h, refl))
    c.call_at-in-AskFrom.result c.args.server.now c.args.entries.now c.args.places.now (length c.args.places.now) c.args.clients.now.items c.call_at-in-AskFrom.new.clients.items c.args.event.now c.in-AskFrom.client c.in-AskFrom.client
    c.in-AskFrom.is refl refl c.call_at-in-AskFrom.ensures.ok

pub returns-in-Deliver-clause-ok : goal.returns-in-Deliver-clause-ok
returns-in-Deliver-clause-ok c =
    ok_deliver c.deliver_at.result c.args.server.now c.args.entries.now c.args.places.now c.args.clients.now.items _ c.args.event.now c.in-Deliver.client c.in-Deliver.answer c.in-Deliver.cut _ c.in-Deliver.is c.answer_of-answer.ensures c.deliver_at.ensures.ok

pub returns-in-Exchange-clause-ok : goal.returns-in-Exchange-clause-ok
returns-in-Exchange-clause-ok c =
    ok_call (λ i. Exchange i) (λ catalogue sent i n old new. AtClient (slice_get old i) (Keeping (ExchangesWithKeeping catalogue sent i n.effect)) i n old new) (λ w i n old new h. (h, refl))
    c.call_at-in-Exchange.result c.args.server.now c.args.entries.now c.args.places.now (length c.args.places.now) c.args.clients.now.items c.call_at-in-Exchange.new.clients.items c.args.event.now c.in-Exchange.client c.in-Exchange.client
    c.in-Exchange.is refl refl c.call_at-in-Exchange.ensures.ok

pub returns-in-Check-clause-ok : goal.returns-in-Check-clause-ok
returns-in-Check-clause-ok c =
    let P : List ClientState → Type 0 = λ cs. IfOk c.check_at.result (λ n. IsCheckBy (slice_get cs c.in-Check.client) c.args.server.now.catalogue (length c.args.places.now) c.in-Check.client n cs cs) in
    ok_call (λ i. Check i) (λ catalogue sent i n old new. IsCheckBy (slice_get old i) catalogue sent i n old new) (λ w i n old new h. (h, refl))
    c.check_at.result c.args.server.now c.args.entries.now c.args.places.now (length c.args.places.now) c.args.clients.now.items c.args.clients.now.items c.args.event.now c.in-Check.client c.in-Check.client
    c.in-Check.is refl refl (subst P c.deref-in-Check.ensures.value c.check_at.ensures.ok)

pub returns-in-Deliver-clause-err : goal.returns-in-Deliver-clause-err
returns-in-Deliver-clause-err c =
    deliver_left c.deliver_at.result c.args.server.now c.args.entries.now c.args.places.now c.args.clients.now.items _ c.args.event.now c.in-Deliver.client c.in-Deliver.answer c.in-Deliver.cut _ c.in-Deliver.is c.answer_of-answer.ensures c.deliver_at.ensures.err

pub returns-in-Exchange-clause-err : goal.returns-in-Exchange-clause-err
returns-in-Exchange-clause-err c =
    exchange_left c.call_at-in-Exchange.result c.args.server.now c.args.entries.now c.args.places.now (length c.args.places.now) c.args.clients.now.items c.call_at-in-Exchange.new.clients.items c.args.event.now c.in-Exchange.client
    c.in-Exchange.is refl c.call_at-in-Exchange.ensures.err
