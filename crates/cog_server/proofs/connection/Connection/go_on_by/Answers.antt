use Rattle.std.proofs.Common.{ℕ, List, take, ap, ◌∙◌, subst, arith}
use Rattle.cog_server.specs.Service.{service_of}
use Rattle.cog_server.specs.Outgoing.{IsOutgoing, waiting_of}
use Rattle.cog_server.proofs.ConnectionLemmas.{answers_now, goes_last, goes_open, nothing_waits, one_more_answer}
use Rattle.cog_server.proofs.connection.Connection.go_on_by.Goals as goal

pub invariant_of-self-then-closes-2 : goal.invariant_of-self-then-closes-2
invariant_of-self-then-closes-2 c =
    let s = c.self.inside in
    let small = c.skip.new.self.small in
    (one_more_answer s.closed s.answers c.closes.result c.closes.ensures c.if-closes.false c.self.invariant.0, omega (arith, c.len-self-inside.ensures, small), c.answer.ensures.freed)

pub invariant_of-self-else-closes-2 : goal.invariant_of-self-else-closes-2
invariant_of-self-else-closes-2 c =
    let s = c.self.inside in
    (one_more_answer s.closed s.answers c.closes.result c.closes.ensures c.if-closes.false c.self.invariant.0, c.self.invariant.1, c.answer.ensures.freed)

pub returns-then-closes-2-clause-ok : goal.returns-then-closes-2-clause-ok
returns-then-closes-2-clause-ok c =
    let s = c.self.inside in
    let held = c.whole.new.self.bytes.items in
    let view = ap (λ (h : List ℕ). record { held = h; waiting = waiting_of s.outgoing; is_closed = s.closed; answers = s.answers; is_over = s.over; dropped = s.dropped; tag = s.outgoing.tag }) c.whole.ensures.held ∙ c.self.view_is in
    let out = subst (λ (bytes : List ℕ). IsOutgoing (service_of c.args.service.now) s.answers (take c.in-Some.n bytes) c.answer.new.self c.in_ok-status.status) c.deref.ensures.value c.in_ok-status.ensures.ok in
    goes_last (service_of c.args.service.now) held (waiting_of s.outgoing) s.closed s.over s.answers s.dropped c.in-Some.n s.outgoing.tag c.args.self.now c.answer.new.self c.in_ok-status.status c.closes.result
    view c.closes.ensures c.if-closes.false (nothing_waits (waiting_of s.outgoing) c.is_waiting.result c.is_waiting.ensures c.if-is_waiting.false) c.in-Some.ensures.found.0 c.in-Some.ensures.found.1 out
    c.closes-2.result c.closes-2.ensures c.if-closes-2.true c.skip.new.self.bytes.items c.skip-then-closes-2.new.self.bytes.items c.len-self-inside.result c.skip.ensures.left (omega (arith, c.len-self-inside.ensures, c.skip.new.self.bytes.ok.0)) c.skip-then-closes-2.ensures.left

pub returns-else-closes-2-clause-ok : goal.returns-else-closes-2-clause-ok
returns-else-closes-2-clause-ok c =
    let s = c.self.inside in
    let held = c.whole.new.self.bytes.items in
    let view = ap (λ (h : List ℕ). record { held = h; waiting = waiting_of s.outgoing; is_closed = s.closed; answers = s.answers; is_over = s.over; dropped = s.dropped; tag = s.outgoing.tag }) c.whole.ensures.held ∙ c.self.view_is in
    let out = subst (λ (bytes : List ℕ). IsOutgoing (service_of c.args.service.now) s.answers (take c.in-Some.n bytes) c.answer.new.self c.in_ok-status.status) c.deref.ensures.value c.in_ok-status.ensures.ok in
    goes_open (service_of c.args.service.now) held (waiting_of s.outgoing) s.closed s.over s.answers s.dropped c.in-Some.n s.outgoing.tag c.args.self.now c.answer.new.self c.in_ok-status.status c.closes.result
    view c.closes.ensures c.if-closes.false (nothing_waits (waiting_of s.outgoing) c.is_waiting.result c.is_waiting.ensures c.if-is_waiting.false) c.in-Some.ensures.found.0 c.in-Some.ensures.found.1 out
    c.closes-2.result c.closes-2.ensures c.if-closes-2.false c.skip.new.self.bytes.items c.skip.ensures.left

pub returns-in_err-status-clause-rests : goal.returns-in_err-status-clause-rests
returns-in_err-status-clause-rests c rests =
    let s = c.self.inside in
    let held = c.whole.new.self.bytes.items in
    let view = ap (λ (h : List ℕ). record { held = h; waiting = waiting_of s.outgoing; is_closed = s.closed; answers = s.answers; is_over = s.over; dropped = s.dropped; tag = s.outgoing.tag }) c.whole.ensures.held ∙ c.self.view_is in
    absurd (answers_now held (waiting_of s.outgoing) s.closed s.over s.answers s.dropped c.in-Some.n s.outgoing.tag c.args.self.now c.closes.result
    view c.closes.ensures c.if-closes.false (nothing_waits (waiting_of s.outgoing) c.is_waiting.result c.is_waiting.ensures c.if-is_waiting.false) c.in-Some.ensures.found.0 c.in-Some.ensures.found.1 rests)
