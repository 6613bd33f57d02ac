use Rattle.std.proofs.Common.{◌≡◌, ◌<◌, Some, arith, inl, inr, length, sym, ap, subst, ◌∙◌}
use Rattle.std.specs.Prelude.{IfOk, IfSome}
use Rattle.std.specs.List.{All}
use Rattle.std.proofs.lemmas.Result.{IfOk-weaker}
use Rattle.cog_reader.specs.Going.{work}
use Rattle.cog_reader.specs.Early as reading
use Rattle.cog_client.specs.Client.{IsReadingOf}
use Rattle.cog_client.specs.Early.{AsksNothingEarly, IsEarly, LeaveNothing, LeaveNothingInReach}
use Rattle.cog_client.proofs.ClientLemmas.{known}
use Rattle.cog_client.proofs.EarlyLemmas.{asks_early, asks_none, early_spans, nothing_in_reach_left, nothing_left}
use Rattle.cog_client.proofs.client.Client.spans_early.Goals.{then-self-via-then-self, then-self-via-else-self+then-ahead-eq0}
use Rattle.cog_client.proofs.client.Client.spans_early.Goals as goal

pub returns-clause-early : goal.returns-clause-early
returns-clause-early c =
    let i = c.self.inside in
    let asked = c.in-Some-Some.asked in
    let s = c.in-Some-Some.source in
    let made = known i.partial_answer i.how i.host.items i.name.items i.query (Some asked) (Some s) i.cache i.report in
    let reads : IsReadingOf i.query i.report s = subst (λ o. IfSome o (IsReadingOf i.query i.report)) c.in-Some-Some.is-1 c.self.invariant.reading in
    let is : made ≡ c.args.self.now =
    sym (ap (λ o. known i.partial_answer i.how i.host.items i.name.items i.query o i.source i.cache i.report) c.in-Some-Some.is-0
    ∙ ap (λ o. known i.partial_answer i.how i.host.items i.name.items i.query (Some asked) o i.cache i.report) c.in-Some-Some.is-1) ∙ c.self.view_is in
    subst (λ k. IfOk c.early_spans.result (λ spans. All (IsEarly k) spans.items)) is
    (IfOk-weaker c.early_spans.result (λ spans. All (reading.IsEarly (work s.reader i.cache) i.how.ahead asked) spans.items) (λ spans. All (IsEarly made) spans.items)
    (λ spans all. early_spans i.partial_answer i.how i.host.items i.name.items i.query asked s i.cache i.report (sym reads.0) spans.items all) c.early_spans.ensures.early)

pub returns-clause-none : goal.returns-clause-none
returns-clause-none c = λ nothing.
    let i = c.self.inside in
    let some = c.if-ahead-eq0.false in
    absurd (asks_early i.partial_answer i.how i.host.items i.name.items i.query i.asked i.source i.cache i.report c.if-self.false (λ near. omega (arith, near, some))
    (subst AsksNothingEarly (sym c.self.view_is) nothing))

pub returns-clause-sure : goal.returns-clause-sure
returns-clause-sure c = λ nothing.
    let i = c.self.inside in
    let some = c.if-ahead-eq0.false in
    absurd (asks_early i.partial_answer i.how i.host.items i.name.items i.query i.asked i.source i.cache i.report c.if-self.false (λ near. omega (arith, near, some))
    (subst AsksNothingEarly (sym c.self.view_is) nothing))

pub returns-clause-order : goal.returns-clause-order
returns-clause-order c =
    let i = c.self.inside in
    let asked = c.in-Some-Some.asked in
    let s = c.in-Some-Some.source in
    let made = known i.partial_answer i.how i.host.items i.name.items i.query (Some asked) (Some s) i.cache i.report in
    let reads : IsReadingOf i.query i.report s = subst (λ o. IfSome o (IsReadingOf i.query i.report)) c.in-Some-Some.is-1 c.self.invariant.reading in
    let is : made ≡ c.args.self.now =
    sym (ap (λ o. known i.partial_answer i.how i.host.items i.name.items i.query o i.source i.cache i.report) c.in-Some-Some.is-0
    ∙ ap (λ o. known i.partial_answer i.how i.host.items i.name.items i.query (Some asked) o i.cache i.report) c.in-Some-Some.is-1) ∙ c.self.view_is in
    subst (λ k. IfOk c.early_spans.result (λ spans. LeaveNothing k spans.items)) is
    (IfOk-weaker c.early_spans.result (λ spans. All (reading.LeavesNothing (work s.reader i.cache) asked spans.items) spans.items) (λ spans. LeaveNothing made spans.items)
    (λ spans all. nothing_left i.partial_answer i.how i.host.items i.name.items i.query asked s i.cache i.report (sym reads.0) spans.items all) c.early_spans.ensures.order)

pub returns-clause-end : goal.returns-clause-end
returns-clause-end c =
    let i = c.self.inside in
    let asked = c.in-Some-Some.asked in
    let s = c.in-Some-Some.source in
    let made = known i.partial_answer i.how i.host.items i.name.items i.query (Some asked) (Some s) i.cache i.report in
    let reads : IsReadingOf i.query i.report s = subst (λ o. IfSome o (IsReadingOf i.query i.report)) c.in-Some-Some.is-1 c.self.invariant.reading in
    let is : made ≡ c.args.self.now =
    sym (ap (λ o. known i.partial_answer i.how i.host.items i.name.items i.query o i.source i.cache i.report) c.in-Some-Some.is-0
    ∙ ap (λ o. known i.partial_answer i.how i.host.items i.name.items i.query (Some asked) o i.cache i.report) c.in-Some-Some.is-1) ∙ c.self.view_is in
    subst (λ k. IfOk c.early_spans.result (λ spans. length spans.items < c.args.most → ¬ AsksNothingEarly k → LeaveNothingInReach k spans.items)) is
    (IfOk-weaker c.early_spans.result (λ spans. length spans.items < c.args.most → reading.LeavesNothingInReach (work s.reader i.cache) asked spans.items)
    (λ spans. length spans.items < c.args.most → ¬ AsksNothingEarly made → LeaveNothingInReach made spans.items)
    (λ spans all fewer early. nothing_in_reach_left i.partial_answer i.how i.host.items i.name.items i.query asked s i.cache i.report (sym reads.0) spans.items (all fewer)) c.early_spans.ensures.end)

pub returns-then-self-clause-end : goal.returns-then-self-clause-end
returns-then-self-clause-end c = λ fewer early.
    let i = c.self.inside in
    let none = asks_none i.partial_answer i.how i.host.items i.name.items i.query i.asked i.source i.cache i.report (elim c.then-self.branch [
      | then-self-via-then-self w ↦ inl w.if-self.true
      | then-self-via-else-self+then-ahead-eq0 w ↦ inr w.if-ahead-eq0.true
    ]) in
    absurd (early (subst AsksNothingEarly c.self.view_is none))
