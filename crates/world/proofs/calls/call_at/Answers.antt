use Rattle.world.specs.State.{CallsWith, IsGiven, Keeping}
use Rattle.world.proofs.Lists.{at_client, tells_of}
use Rattle.world.proofs.Stopping.{is_inside, stops_at, survives}
use Rattle.world.proofs.Whole.{on_err_of}
use Rattle.world.proofs.calls.call_at.Goals as goal

pub returns-in_err-report-clause-err : goal.returns-in_err-report-clause-err
returns-in_err-report-clause-err c =
    let a = c.args in
    let given = IsGiven a.server.now.catalogue a.number a.i a.what in
    on_err_of c.from_residual-in_err-report.result _ (stops_at given a.clients.now.items a.i c.in-Some.client.now c.effect_of.new.client (is_inside a.i _ c.in-Some.ensures.item.0) c.in-Some.ensures.item.1
    (survives a.server.now.catalogue a.number a.i a.what c.in_ok-effect.effect c.in-Some.client.now c.effect_of.new.client c.in_ok-effect.ensures.ok))

pub returns-clause-ok : goal.returns-clause-ok
returns-clause-ok c =
    let a = c.args in
    let calls = CallsWith a.server.now.catalogue a.number a.i a.what c.in_ok-effect.effect in
    at_client (Keeping calls) a.clients.now.items a.i c.in-Some.client.now c.effect_of.new.client (record { effect = c.in_ok-effect.effect; report = c.in_ok-report.report }) (is_inside a.i _ c.in-Some.ensures.item.0) c.in-Some.ensures.item.1
    (record { does = c.in_ok-effect.ensures.ok; stands = c.in_ok-report.ensures.stands }) (tells_of c.has_report-had.result c.in-Some.client.now c.effect_of.new.client _ c.has_report-had.ensures c.in_ok-report.ensures.newly)
