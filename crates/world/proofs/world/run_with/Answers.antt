use Rattle.std.proofs.Common.{ℕ, [], arith, ap, inl, inr, ◌∙◌}
use Rattle.world.specs.World.{answer_in, start}
use Rattle.world.specs.State.{noted}
use Rattle.world.proofs.Lists.{get_there}
use Rattle.world.proofs.Stopping.{all_agree, beginning, event_left, made_event_left, run_agrees, seen_left, stopped}
use Rattle.world.proofs.Whole.{begun, more, runs_seen, state_at, whole, whole_truth, on_err_of}
use Rattle.world.proofs.world.run_with.Goals as goal

pub loop-event-init : goal.loop-event-init
loop-event-init c =
    let h = begun c.args.log.now.entries.items c.args.log.now.clients.items c.new-server.result c.new-places.result.items c.requires.entries c.requires.clients c.new-server.ensures c.new-places.ensures.items in
    record { runs = h.0; state = h.1 }

pub loop-event-preserved : goal.loop-event-preserved
loop-event-preserved c =
    let v = c.loop-event in
    let h = more c.args.events.now v.event-index v.log.entries.items v.log.clients.items c.step.new.clients.items c.event-item.result c.in_ok-entry.entry c.push.new.self.items v.server c.step.new.server v.places.items c.keep.new.places.items
    c.loop-event-test.true c.event-item.is c.in_ok-push.ensures.items (c.in_ok-keep.ensures ∙ ap (λ (k : ℕ). noted (answer_in c.in_ok-entry.entry.effect) k v.places.items) (omega (arith, v.log.entries.ok.0))) v.invariant.runs v.invariant.state (c.in_ok-entry.ensures.ok _ (state_at _ v.server v.log.entries.items c.deref.result.now v.places.items c.deref-in-loop-event.result.now c.deref.ensures.value c.deref-in-loop-event.ensures.value v.invariant.state)) in
    record { runs = h.0; state = h.1 }

pub returns-clause-logged : goal.returns-clause-logged
returns-clause-logged c =
    let l = c.loop-event in
    runs_seen start [] c.args.events.now l.log.entries.items l.log.clients.items
    (whole c.args.events.now l.event-index l.log.entries.items l.log.clients.items c.loop-event-test.false l.invariant.runs)

pub returns-clause-truth : goal.returns-clause-truth
returns-clause-truth c =
    whole_truth c.lower_laws.ensures c.args.events.now c.loop-event.event-index c.loop-event.log.entries.items c.loop-event.log.clients.items c.loop-event-test.false c.loop-event.invariant.runs

pub returns-clause-kept : goal.returns-clause-kept
returns-clause-kept c =
    let l = c.loop-event in
    whole c.args.events.now l.event-index l.log.entries.items l.log.clients.items c.loop-event-test.false l.invariant.runs

pub returns-clause-agree : goal.returns-clause-agree
returns-clause-agree c =
    let l = c.loop-event in
    let laws = c.lower_laws.ensures in
    all_agree laws l.log.clients.items _ (run_agrees laws c.args.events.now l.log.entries.items l.log.clients.items
    (whole c.args.events.now l.event-index l.log.entries.items l.log.clients.items c.loop-event-test.false l.invariant.runs))

pub returns-clause-left : goal.returns-clause-left
returns-clause-left c =
    let l = c.loop-event in
    (whole_truth c.lower_laws.ensures c.args.events.now l.event-index l.log.entries.items l.log.clients.items c.loop-event-test.false l.invariant.runs).clients

pub returns-in_err-entry-clause-memory : goal.returns-in_err-entry-clause-memory
returns-in_err-entry-clause-memory c =
    let v = c.loop-event in
    let laws = c.lower_laws.ensures in
    on_err_of c.from_residual.result _
    (beginning laws c.args.events.now v.event-index v.log.entries.items v.log.clients.items c.step.new.clients.items c.event-item.result
    (get_there c.args.events.now v.event-index c.event-item.result c.loop-event-test.true c.event-item.is)
    v.invariant.runs (inr (c.in_err-entry.ensures.err _ (state_at _ v.server v.log.entries.items c.deref.result.now v.places.items c.deref-in-loop-event.result.now c.deref.ensures.value c.deref-in-loop-event.ensures.value v.invariant.state))))

pub returns-in_err-entry-clause-stops : goal.returns-in_err-entry-clause-stops
returns-in_err-entry-clause-stops c =
    let v = c.loop-event in
    on_err_of c.from_residual.result _
    (stopped c.args.events.now v.event-index v.log.entries.items v.log.clients.items c.step.new.clients.items c.event-item.result
    (get_there c.args.events.now v.event-index c.event-item.result c.loop-event-test.true c.event-item.is)
    v.invariant.runs (inr (c.in_err-entry.ensures.err _ (state_at _ v.server v.log.entries.items c.deref.result.now v.places.items c.deref-in-loop-event.result.now c.deref.ensures.value c.deref-in-loop-event.ensures.value v.invariant.state))))

pub returns-in_err-entry-clause-agree : goal.returns-in_err-entry-clause-agree
returns-in_err-entry-clause-agree c =
    let v = c.loop-event in
    let laws = c.lower_laws.ensures in
    all_agree laws c.step.new.clients.items _ (event_left laws c.args.events.now v.event-index v.log.entries.items v.log.clients.items c.event-item.result c.step.new.clients.items v.invariant.runs (c.in_err-entry.ensures.err _ (state_at _ v.server v.log.entries.items c.deref.result.now v.places.items c.deref-in-loop-event.result.now c.deref.ensures.value c.deref-in-loop-event.ensures.value v.invariant.state)))

pub returns-in_err-entry-clause-left : goal.returns-in_err-entry-clause-left
returns-in_err-entry-clause-left c =
    let v = c.loop-event in
    let laws = c.lower_laws.ensures in
    seen_left laws c.step.new.clients.items _ (event_left laws c.args.events.now v.event-index v.log.entries.items v.log.clients.items c.event-item.result c.step.new.clients.items v.invariant.runs (c.in_err-entry.ensures.err _ (state_at _ v.server v.log.entries.items c.deref.result.now v.places.items c.deref-in-loop-event.result.now c.deref.ensures.value c.deref-in-loop-event.ensures.value v.invariant.state)))

pub returns-in_err-keep-clause-memory : goal.returns-in_err-keep-clause-memory
returns-in_err-keep-clause-memory c =
    let v = c.loop-event in
    let laws = c.lower_laws.ensures in
    on_err_of c.from_residual-in_err-keep.result _
    (beginning laws c.args.events.now v.event-index v.log.entries.items v.log.clients.items c.step.new.clients.items c.event-item.result
    (get_there c.args.events.now v.event-index c.event-item.result c.loop-event-test.true c.event-item.is)
    v.invariant.runs (inl (c.in_ok-entry.entry, (c.in_ok-entry.ensures.ok _ (state_at _ v.server v.log.entries.items c.deref.result.now v.places.items c.deref-in-loop-event.result.now c.deref.ensures.value c.deref-in-loop-event.ensures.value v.invariant.state)).step)))

pub returns-in_err-keep-clause-stops : goal.returns-in_err-keep-clause-stops
returns-in_err-keep-clause-stops c =
    let v = c.loop-event in
    on_err_of c.from_residual-in_err-keep.result _
    (stopped c.args.events.now v.event-index v.log.entries.items v.log.clients.items c.step.new.clients.items c.event-item.result
    (get_there c.args.events.now v.event-index c.event-item.result c.loop-event-test.true c.event-item.is)
    v.invariant.runs (inl (c.in_ok-entry.entry, (c.in_ok-entry.ensures.ok _ (state_at _ v.server v.log.entries.items c.deref.result.now v.places.items c.deref-in-loop-event.result.now c.deref.ensures.value c.deref-in-loop-event.ensures.value v.invariant.state)).step)))

pub returns-in_err-keep-clause-agree : goal.returns-in_err-keep-clause-agree
returns-in_err-keep-clause-agree c =
    let v = c.loop-event in
    let laws = c.lower_laws.ensures in
    all_agree laws c.step.new.clients.items _ (made_event_left laws c.args.events.now v.event-index v.log.entries.items v.log.clients.items c.event-item.result c.in_ok-entry.entry c.step.new.clients.items v.invariant.runs (c.in_ok-entry.ensures.ok _ (state_at _ v.server v.log.entries.items c.deref.result.now v.places.items c.deref-in-loop-event.result.now c.deref.ensures.value c.deref-in-loop-event.ensures.value v.invariant.state)).step)

pub returns-in_err-keep-clause-left : goal.returns-in_err-keep-clause-left
returns-in_err-keep-clause-left c =
    let v = c.loop-event in
    let laws = c.lower_laws.ensures in
    seen_left laws c.step.new.clients.items _ (made_event_left laws c.args.events.now v.event-index v.log.entries.items v.log.clients.items c.event-item.result c.in_ok-entry.entry c.step.new.clients.items v.invariant.runs (c.in_ok-entry.ensures.ok _ (state_at _ v.server v.log.entries.items c.deref.result.now v.places.items c.deref-in-loop-event.result.now c.deref.ensures.value c.deref-in-loop-event.ensures.value v.invariant.state)).step)

pub returns-in_err-push-clause-memory : goal.returns-in_err-push-clause-memory
returns-in_err-push-clause-memory c =
    let v = c.loop-event in
    let laws = c.lower_laws.ensures in
    on_err_of c.from_residual-in_err-push.result _
    (rw c.in_err-push.ensures.items (beginning laws c.args.events.now v.event-index v.log.entries.items v.log.clients.items c.step.new.clients.items c.event-item.result
    (get_there c.args.events.now v.event-index c.event-item.result c.loop-event-test.true c.event-item.is)
    v.invariant.runs (inl (c.in_ok-entry.entry, (c.in_ok-entry.ensures.ok _ (state_at _ v.server v.log.entries.items c.deref.result.now v.places.items c.deref-in-loop-event.result.now c.deref.ensures.value c.deref-in-loop-event.ensures.value v.invariant.state)).step))))

pub returns-in_err-push-clause-stops : goal.returns-in_err-push-clause-stops
returns-in_err-push-clause-stops c =
    let v = c.loop-event in
    on_err_of c.from_residual-in_err-push.result _
    (rw c.in_err-push.ensures.items (stopped c.args.events.now v.event-index v.log.entries.items v.log.clients.items c.step.new.clients.items c.event-item.result
    (get_there c.args.events.now v.event-index c.event-item.result c.loop-event-test.true c.event-item.is)
    v.invariant.runs (inl (c.in_ok-entry.entry, (c.in_ok-entry.ensures.ok _ (state_at _ v.server v.log.entries.items c.deref.result.now v.places.items c.deref-in-loop-event.result.now c.deref.ensures.value c.deref-in-loop-event.ensures.value v.invariant.state)).step))))

pub returns-in_err-push-clause-agree : goal.returns-in_err-push-clause-agree
returns-in_err-push-clause-agree c =
    let v = c.loop-event in
    let laws = c.lower_laws.ensures in
    rw c.in_err-push.ensures.items (all_agree laws c.step.new.clients.items _ (made_event_left laws c.args.events.now v.event-index v.log.entries.items v.log.clients.items c.event-item.result c.in_ok-entry.entry c.step.new.clients.items v.invariant.runs (c.in_ok-entry.ensures.ok _ (state_at _ v.server v.log.entries.items c.deref.result.now v.places.items c.deref-in-loop-event.result.now c.deref.ensures.value c.deref-in-loop-event.ensures.value v.invariant.state)).step))

pub returns-in_err-push-clause-left : goal.returns-in_err-push-clause-left
returns-in_err-push-clause-left c =
    let v = c.loop-event in
    let laws = c.lower_laws.ensures in
    rw c.in_err-push.ensures.items (seen_left laws c.step.new.clients.items _ (made_event_left laws c.args.events.now v.event-index v.log.entries.items v.log.clients.items c.event-item.result c.in_ok-entry.entry c.step.new.clients.items v.invariant.runs (c.in_ok-entry.ensures.ok _ (state_at _ v.server v.log.entries.items c.deref.result.now v.places.items c.deref-in-loop-event.result.now c.deref.ensures.value c.deref-in-loop-event.ensures.value v.invariant.state)).step))
