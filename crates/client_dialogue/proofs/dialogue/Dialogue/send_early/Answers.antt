use Rattle.std.proofs.Common.{[], refl}
use Rattle.client_dialogue.specs.Goes.{Fails, Stays}
use Rattle.client_dialogue.proofs.EarlyLemmas.{item_early}
use Rattle.client_dialogue.proofs.HistoryLemmas.{stays_goes, then_goes}
use Rattle.client_dialogue.proofs.Results.{on_err}
use Rattle.client_dialogue.proofs.PlanLemmas.{plan_is, plan_then}
use Rattle.client_dialogue.proofs.WaitsLemmas.{waits_is, waits_then}
use Rattle.client_dialogue.proofs.dialogue.Dialogue.send_early.Goals as goal

pub loop-request-init : goal.loop-request-init
loop-request-init c = (
  stays_goes c.args.self.now c.args.client.now,
  c.requires,
  waits_is c.args.self.now.status c.args.self.now.status refl,
  plan_is c.args.self.now c.args.self.now refl refl,
)

pub add_early-requires-clause-busy : goal.add_early-requires-clause-busy
add_early-requires-clause-busy c = c.loop-request.invariant.1

pub add_early-requires-clause-own : goal.add_early-requires-clause-own
add_early-requires-clause-own c =
    item_early c.args.client.now c.in-Ok.requests.items c.deref.result.now c.unsent-request-items.result.now _ c.loop-request.request-index
    c.request-item.result c.deref-in-loop-request.result.now c.in-Ok.ensures.requests c.deref.ensures.value c.unsent-request-items.ensures.rest
    c.loop-request-test.true c.request-item.is c.deref-in-loop-request.ensures.value

pub returns-in_err-add_early-clause-err : goal.returns-in_err-add_early-clause-err
returns-in_err-add_early-clause-err c =
    let d = c.args.client.now in
    on_err c.from_residual.result _
    (then_goes Fails [] c.args.self.now d c.loop-request.self d c.add_early.new.self c.loop-request.invariant.0 c.in_err-add_early.ensures.err)

pub loop-request-preserved : goal.loop-request-preserved
loop-request-preserved c =
    let d = c.args.client.now in (
      then_goes Stays [] c.args.self.now d c.loop-request.self d c.add_early.new.self c.loop-request.invariant.0 c.in_ok-add_early.ensures.ok,
      c.in_ok-add_early.ensures.asked,
      waits_then c.args.self.now.status c.loop-request.self.status c.add_early.new.self.status c.loop-request.invariant.2 c.in_ok-add_early.ensures.waits,
      plan_then c.args.self.now c.loop-request.self c.add_early.new.self c.loop-request.invariant.1 c.loop-request.invariant.3 c.in_ok-add_early.ensures.plan,
    )

pub returns-clause-ok : goal.returns-clause-ok
returns-clause-ok c = c.loop-request.invariant.0

pub returns-clause-asked : goal.returns-clause-asked
returns-clause-asked c = c.loop-request.invariant.1

pub returns-clause-waits : goal.returns-clause-waits
returns-clause-waits c = c.loop-request.invariant.2

pub returns-clause-plan : goal.returns-clause-plan
returns-clause-plan c = c.loop-request.invariant.3
