use Rattle.std.proofs.Common.{◌≡◌, Some, None, true, false, sym, ap, subst, ◌∙◌, refl, inl, inr}
use Rattle.std.specs.Prelude.{is_some, not}
use Rattle.std.proofs.lemmas.Bool.{false≢true}
use Rattle.http_range.specs.Ask.{CanAsk}
use Rattle.cog_client.specs.Client.{ClientState, ahead_of, asked_of, feed_of, fields_of, host_of, name_of, query_of, report_of, revision_of, tag_of}
use Rattle.cog_client.specs.Calls.{IsIdle, request_for}
use Rattle.cog_client.specs.Keeps.{AsksFor, GoesOnKeeping, Misses, StopsAsking}
use Rattle.cog_client.proofs.GoingLemmas.{refused}
use Rattle.cog_client.proofs.ClientLemmas.{goes_trans, known}
use Rattle.cog_client.proofs.LengthLemmas.{short_by, within_by}
use Rattle.cog_client.proofs.RequestLemmas.{asking_sound, busy, none_asked, none_of, plain_as, requested, requests_none, unasked}
use Rattle.cog_client.proofs.client.Client.request.Goals.{then-is_none-via-then-is_none, then-is_none-via-else-is_none+then-is_some}
use Rattle.cog_client.proofs.client.Client.request.Goals as goal

pub returns-in_err-text-clause-err : goal.returns-in_err-text-clause-err
unfolding asked_of query_of report_of feed_of
returns-in_err-text-clause-err c =
    let i = c.self.inside in
    let e = c.in_ok-span.ensures in
    let before = known c.clear.new.self i.how i.host.items i.name.items i.query None i.source i.cache i.report in
    let old : GoesOnKeeping c.args.self.now before = subst (λ k. GoesOnKeeping k before) c.self.view_is (unasked i.partial_answer c.clear.new.self c.clear.ensures i.how i.host.items i.name.items i.query i.asked i.source i.cache i.report c.self.invariant) in
    refused c.from_residual-in_err-text.result (StopsAsking c.args.self.now c.missing.new.self) (record {
      busy = busy c.args.self.now (ap (λ (k : ClientState). is_some (query_of k)) (sym c.self.view_is) ∙ c.is_none.ensures ∙ ap not c.if-is_none.false)
          (ap (λ (k : ClientState). is_some (report_of k)) (sym c.self.view_is) ∙ sym c.is_some.ensures ∙ c.if-is_some.false);
      goes = goes_trans c.args.self.now before c.missing.new.self old e.goes;
      asked = none_asked (report_of c.missing.new.self) (asked_of c.missing.new.self) (asked_of before) e.asked refl;
      report = e.silent (ap is_some c.in-Some.is);
      feed = e.feed ∙ c.clear.ensures;
    })

pub invariant_of-self-3 : goal.invariant_of-self-3
invariant_of-self-3 c =
    let j = c.self-2.inside in
    let e = c.in_ok-span.ensures in
    let m : known j.partial_answer j.how j.host.items j.name.items j.query j.asked j.source j.cache j.report ≡ c.missing.new.self = c.self-2.view_is in
    asking_sound j.partial_answer j.how j.host.items j.name.items j.query j.asked j.source j.cache j.report c.in-Some.span c.self-2.invariant
    (ap report_of m ∙ e.silent (ap is_some c.in-Some.is))
    (subst (λ k. AsksFor k (revision_of k) (ahead_of k) c.in-Some.span) (sym m) (subst (Misses c.missing.new.self) c.in-Some.is e.ok))

pub returns-clause-ok : goal.returns-clause-ok
unfolding query_of report_of feed_of
returns-clause-ok c =
    let i = c.self.inside in
    let j = c.self-2.inside in
    let e = c.in_ok-span.ensures in
    let before = known c.clear.new.self i.how i.host.items i.name.items i.query None i.source i.cache i.report in
    let old : GoesOnKeeping c.args.self.now before = subst (λ k. GoesOnKeeping k before) c.self.view_is (unasked i.partial_answer c.clear.new.self c.clear.ensures i.how i.host.items i.name.items i.query i.asked i.source i.cache i.report c.self.invariant) in
    let m : known j.partial_answer j.how j.host.items j.name.items j.query j.asked j.source j.cache j.report ≡ c.missing.new.self = c.self-2.view_is in
    let silent = ap report_of m ∙ e.silent (ap is_some c.in-Some.is) in
    let asks = subst (λ k. AsksFor k (revision_of k) (ahead_of k) c.in-Some.span) (sym m) (subst (Misses c.missing.new.self) c.in-Some.is e.ok) in
    let some : is_some i.query ≡ true = c.is_none.ensures ∙ ap not c.if-is_none.false in
    let quiet : is_some i.report ≡ false = sym c.is_some.ensures ∙ c.if-is_some.false in
    requested j.partial_answer j.how j.host.items j.name.items j.query j.asked j.source j.cache j.report c.in-Some.span c.args.self.now c.in_ok-text.text.items
    (subst (GoesOnKeeping c.args.self.now) (sym m) (goes_trans c.args.self.now before c.missing.new.self old e.goes)) c.self-2.invariant
    (asking_sound j.partial_answer j.how j.host.items j.name.items j.query j.asked j.source j.cache j.report c.in-Some.span c.self-2.invariant silent asks)
    (ap (λ (k : ClientState). is_some (query_of k)) (sym c.self.view_is) ∙ some) (ap (λ (k : ClientState). is_some (report_of k)) (sym c.self.view_is) ∙ quiet) silent (ap feed_of m ∙ e.feed ∙ c.clear.ensures)
    (c.in_ok-text.ensures.text ∙ ap (λ k. request_for k (Some c.in-Some.span)) (sym m))
    (subst (λ k. CanAsk (host_of k) (name_of k) (fields_of k) c.in-Some.span.first c.in-Some.span.last (tag_of k)) (sym m) c.request_for.ensures.lawful) asks

pub returns-then-is_none-clause-ok : goal.returns-then-is_none-clause-ok
unfolding asked_of query_of report_of feed_of
returns-then-is_none-clause-ok c =
    let i = c.self.inside in
    let new = known c.clear.new.self i.how i.host.items i.name.items i.query None i.source i.cache i.report in
    let goes : GoesOnKeeping c.args.self.now new = subst (λ k. GoesOnKeeping k new) c.self.view_is (unasked i.partial_answer c.clear.new.self c.clear.ensures i.how i.host.items i.name.items i.query i.asked i.source i.cache i.report c.self.invariant) in
    let idle : IsIdle new = elim c.then-is_none.branch [
      | then-is_none-via-then-is_none w ↦ inl (none_of i.query (c.is_none.ensures ∙ ap not w.if-is_none.true))
      | then-is_none-via-else-is_none+then-is_some w ↦ inr (sym w.is_some.ensures ∙ w.if-is_some.true)
    ] in
    requests_none c.args.self.now new goes refl idle (λ _. ap (λ (k : ClientState). report_of k) c.self.view_is) c.clear.ensures

pub returns-in_err-span-clause-err : goal.returns-in_err-span-clause-err
unfolding asked_of query_of report_of feed_of
returns-in_err-span-clause-err c =
    let i = c.self.inside in
    let e = c.in_err-span.ensures in
    let before = known c.clear.new.self i.how i.host.items i.name.items i.query None i.source i.cache i.report in
    let old : GoesOnKeeping c.args.self.now before = subst (λ k. GoesOnKeeping k before) c.self.view_is (unasked i.partial_answer c.clear.new.self c.clear.ensures i.how i.host.items i.name.items i.query i.asked i.source i.cache i.report c.self.invariant) in
    refused c.from_residual.result (StopsAsking c.args.self.now c.missing.new.self) (record {
      busy = busy c.args.self.now (ap (λ (k : ClientState). is_some (query_of k)) (sym c.self.view_is) ∙ c.is_none.ensures ∙ ap not c.if-is_none.false)
          (ap (λ (k : ClientState). is_some (report_of k)) (sym c.self.view_is) ∙ sym c.is_some.ensures ∙ c.if-is_some.false);
      goes = goes_trans c.args.self.now before c.missing.new.self old e.goes;
      asked = none_asked (report_of c.missing.new.self) (asked_of c.missing.new.self) (asked_of before) e.asked refl;
      report = e.err;
      feed = e.feed ∙ c.clear.ensures;
    })

pub returns-in_default-clause-ok : goal.returns-in_default-clause-ok
unfolding asked_of report_of feed_of
returns-in_default-clause-ok c =
    let i = c.self.inside in
    let e = c.in_ok-span.ensures in
    let before = known c.clear.new.self i.how i.host.items i.name.items i.query None i.source i.cache i.report in
    let old : GoesOnKeeping c.args.self.now before = subst (λ k. GoesOnKeeping k before) c.self.view_is (unasked i.partial_answer c.clear.new.self c.clear.ensures i.how i.host.items i.name.items i.query i.asked i.source i.cache i.report c.self.invariant) in
    let quiet : is_some i.report ≡ false = sym c.is_some.ensures ∙ c.if-is_some.false in
    let quiet_before : is_some (report_of c.args.self.now) ≡ false = ap (λ (k : ClientState). is_some (report_of k)) (sym c.self.view_is) ∙ quiet in
    requests_none c.args.self.now c.missing.new.self (goes_trans c.args.self.now before c.missing.new.self old e.goes)
    (none_asked (report_of c.missing.new.self) (asked_of c.missing.new.self) (asked_of before) e.asked refl)
    (subst (Misses c.missing.new.self) c.in_default.is e.ok) (λ some. absurd (false≢true (sym quiet_before ∙ some))) (e.feed ∙ c.clear.ensures)

pub returns-clause-short : goal.returns-clause-short
returns-clause-short c = λ plain.
    let i = c.self.inside in
    let before = known c.clear.new.self i.how i.host.items i.name.items i.query None i.source i.cache i.report in
    let old : GoesOnKeeping c.args.self.now before = subst (λ k. GoesOnKeeping k before) c.self.view_is (unasked i.partial_answer c.clear.new.self c.clear.ensures i.how i.host.items i.name.items i.query i.asked i.source i.cache i.report c.self.invariant) in
    let goes = goes_trans c.args.self.now before c.missing.new.self old c.in_ok-span.ensures.goes in
    short_by c.law_requests_are_short.ensures c.missing.new.self c.in-Some.span c.in_ok-text.text c.in_ok-text.ensures.text c.request_for.ensures.lawful
    (plain_as c.args.self.now c.missing.new.self goes.seen.same plain)

pub returns-clause-long : goal.returns-clause-long
returns-clause-long c =
    within_by c.law_requests_are_short.ensures c.missing.new.self c.in-Some.span c.in_ok-text.text c.in_ok-text.ensures.text c.request_for.ensures.lawful
