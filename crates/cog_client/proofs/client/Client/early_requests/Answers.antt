use Rattle.std.proofs.Common.{[], ◌∷◌, ◌≤◌, List, arith, length, length-append, take, sym, ap, subst, ◌∙◌}
use Rattle.std.specs.List.{All, AllZip}
use Rattle.std.proofs.lemmas.List.Elements.{All-push}
use Rattle.extents.specs.declared.span.Span.{Span}
use Rattle.cog_client.specs.Early.{IsRequestFor}
use Rattle.cog_client.proofs.EarlyLemmas.{all_asked, one_more, texts_of}
use Rattle.cog_client.proofs.LengthLemmas.{IsShort, IsWithin, short_by, within_by}
use Rattle.cog_client.proofs.client.Client.early_requests.Goals as goal

pub loop-span-preserved : goal.loop-span-preserved
loop-span-preserved c =
    let pushed = c.in_ok-push.ensures.items in
    let before = c.loop-span.texts.items in
    let text = c.in_ok-request_for.field-0 in
    let at = c.loop-span.span-index in
    let few = c.loop-span.invariant.few in
    let asks = c.in_ok-request_for.ensures in
    record {
      asks =
          one_more c.args.self.now c.deref-span-items.result.now before c.push.new.self.items at c.span-item.result text pushed c.loop-span-test.true c.span-item.is c.loop-span.invariant.asks
          (record { asks = asks.text; lawful = asks.lawful });
      few = ap length pushed ∙ omega (arith, few, length-append before (text ∷ []));
      short = subst (All (IsShort c.args.self.now)) (sym pushed)
          (All-push (IsShort c.args.self.now) before text c.loop-span.invariant.short (short_by c.law_requests_are_short.ensures c.args.self.now c.span-item.result text asks.text asks.lawful));
      long = subst (All IsWithin) (sym pushed)
          (All-push IsWithin before text c.loop-span.invariant.long (within_by c.law_requests_are_short.ensures c.args.self.now c.span-item.result text asks.text asks.lawful));
    }

pub returns-clause-end : goal.returns-clause-end
returns-clause-end c = λ fewer.
    let from = c.in_ok-spans.ensures in
    let spans = c.in_ok-spans.spans.items in
    let at = c.loop-span.span-index in
    let few = c.loop-span.invariant.few in
    let is = c.deref-span-items.ensures.value in
    let all : length spans ≤ at = subst (λ (xs : List Span). length xs ≤ at) is c.loop-span-test.false in
    let asks = subst (λ (xs : List Span). AllZip (IsRequestFor c.args.self.now) (take at xs) (texts_of c.loop-span.texts.items)) is c.loop-span.invariant.asks in
    all_asked c.args.self.now spans c.loop-span.texts.items at all (record { each = from.early; apart = from.apart; order = from.order; none = from.none })
    asks (from.end (omega (arith, all, few, fewer)))
