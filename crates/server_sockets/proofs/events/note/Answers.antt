use Rattle.std.proofs.Common.{◌≡◌, inl, inr, refl, sym, ap, ◌∙◌, subst, arith, eqb-true}
use Rattle.std.proofs.lemmas.Bool.{eqb-false}
use Rattle.std.specs.Prelude.{◌↔◌, Contains, IsTrue}
use Rattle.mio.specs.Event.{event_token}
use Rattle.server_sockets.specs.declared.events.TheConstants.{LISTENER}
use Rattle.server_sockets.specs.Waits.{IsQueued, sockets_of}
use Rattle.server_sockets.proofs.ClosingLemmas.{begins_on}
use Rattle.server_sockets.proofs.EventLemmas.{earlier_socket, last_socket, queued_since, seen_all, seen_more, stays_queued, which_socket}
use Rattle.server_sockets.proofs.events.note.Goals as goal

pub loop-event-preserved-then-eq : goal.loop-event-preserved-then-eq
loop-event-preserved-then-eq c =
    let is = c.loop-event.invariant in
    let events = c.loop-event.yielded in
    let e = c.in-Some.event in
    let listens : (event_token e.now).0 ≡ LISTENER.0 = sym (ap (λ t. t.0) c.token-token.ensures) ∙ eqb-true _ _ (sym c.eq.ensures ∙ c.if-eq.true) in
    record {
      all = seen_more events e _ _ _ is.all c.in-Some.ensures.steps;
      heard = (λ _. subst (Contains _) listens (last_socket events e), λ _. refl);
      queued = λ k there other. elim (which_socket events e k there) [
        | inl before ↦ is.queued k before other
        | inr this ↦ absurd (other (sym this ∙ listens))
      ];
      marked = is.marked;
      begins = is.begins;
      slots = is.slots;
      same = is.same;
      ended = is.ended;
      cap = is.cap;
    }

pub loop-event-preserved : goal.loop-event-preserved
loop-event-preserved c =
    let is = c.loop-event.invariant in
    let q = c.queue.ensures in
    let events = c.loop-event.yielded in
    let e = c.in-Some.event in
    let old = c.loop-event.ready.items in
    let new = c.queue.new.ready.items in
    let start = c.args.open_connections.now in
    let before = c.loop-event.open_connections in
    let after = c.queue.new.open_connections in
    let number : c.token-token.result.0 ≡ (event_token e.now).0 = ap (λ t. t.0) c.token-token.ensures in
    let queued : IsQueued c.token-token.result.0 new start after =
    queued_since old new start before after q.kept q.slots is.marked c.token-token.result.0 q.queued in
    record {
      all = seen_more events e _ _ _ is.all c.in-Some.ensures.steps;
      heard = (
        λ pending. earlier_socket events e LISTENER.0 (is.heard.0 pending),
        λ there. elim (which_socket events e LISTENER.0 there) [
          | inl earlier ↦ is.heard.1 earlier
          | inr this ↦ absurd (eqb-false _ _ (sym c.eq.ensures ∙ c.if-eq.false) (number ∙ this))
        ],
      );
      queued = λ k there other. elim (which_socket events e k there) [
        | inl earlier ↦ stays_queued old new start before after q.kept q.slots k (is.queued k earlier other)
        | inr this ↦ subst (λ n. IsQueued n new start after) (number ∙ this) queued
      ];
      marked = λ k ready. elim (q.marked k ready) [
        | inl same ↦ subst (λ n. IsQueued n new start after) (sym same) queued
        | inr earlier ↦ stays_queued old new start before after q.kept q.slots k (is.marked k earlier)
      ];
      begins = begins_on c.args.ready.now.items old new is.begins q.begins;
      slots = λ k none. q.slots k (is.slots k none);
      same = λ k p some. is.same k p (q.same k p some);
      ended = omega (arith, is.ended, q.ended);
      cap = q.cap ∙ is.cap;
    }

pub returns-clause-heard : goal.returns-clause-heard
returns-clause-heard c =
    let all = seen_all c.loop-event.yielded _ _ c.loop-event.invariant.all c.in-None.ensures.steps.0 in
    subst (λ events. IsTrue c.loop-event.accept_pending ↔ Contains (sockets_of events) LISTENER.0) all c.loop-event.invariant.heard
