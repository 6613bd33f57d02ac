use Rattle.std.proofs.Common.{◌-◌, ◌*◌, ◌≤◌, [], ◌∷◌, ◌++◌, inl, inr, arith, length, length-append, sym, ap, ◌∙◌, subst}
use Rattle.std.specs.List.{All}
use Rattle.std.proofs.lemmas.List.Elements.{All-push, All-weaker}
use Rattle.std.proofs.lemmas.List.Quantifiers.{Any-push}
use Rattle.std.proofs.lemmas.Bool.{cases_lt}
use Rattle.extents.specs.declared.span.Span.{Span}
use Rattle.extents.specs.declared.limits.TheConstants.{BLOCK_SIZE}
use Rattle.extents.specs.Block.{end_of}
use Rattle.cog_reader.specs.Going.{work}
use Rattle.cog_reader.specs.Early.{AreApart, IsEarly, LeavesNothing}
use Rattle.cog_reader.proofs.EarlyLemmas.{AreBefore, ArePassedBy, AreSeenTo, last_leaves, leaves_more, nothing_more, one_apart, one_before, seen_more}
use Rattle.cog_reader.proofs.early.early_spans.Goals.{else-loop-test, then-loop-test+in_default-next_run}
use Rattle.cog_reader.proofs.early.early_spans.Goals as goal

pub loop-preserved : goal.loop-preserved
loop-preserved c =
    let l = c.loop in
    let spans = l.spans.items in
    let run = c.in-Some-next_run.run' in
    let span = c.span_of_blocks.result in
    let first = c.span_of_blocks.ensures.first in
    let last = c.span_of_blocks.ensures.last in
    let blocks = c.in-Some-next_run.ensures.needed in
    let some = blocks.some in
    let inside = blocks.inside in
    let later = c.in-Some-next_run.ensures.behind in
    let file_length = c.file_length.ensures in
    let behind = l.invariant.behind in
    let few = l.invariant.few in
    let pushed = c.in_ok-push.ensures.items in
    let w = work c.args.reader.now c.args.cache.now in
    let asked = c.args.asked in
    let e = c.in-Some-next_run.ensures in
    let more = spans ++ span ∷ [] in
    let seen : AreSeenTo w asked more run.least run.to = λ k low high past. elim (cases_lt k l.last.to) [
      | inl old ↦ seen_more w spans span k (l.invariant.seen k (omega (arith, low, e.least)) old past)
      | inr far ↦ elim (cases_lt k run.from) [
        | inl before ↦ inl (e.before k low far before)
        | inr own ↦ inr (Any-push (λ (s : Span). (s.first ≤ k * BLOCK_SIZE) × (k * BLOCK_SIZE ≤ s.last)) spans span
            (omega (arith, first, own), omega (arith, last, high, inside, file_length)))
      ]
    ] in
    let passed : ArePassedBy w asked more run.index = λ i r k low is touches past. elim (cases_lt i l.last.index) [
      | inl old ↦ seen_more w spans span k (l.invariant.passed i r k old is touches past)
      | inr new ↦
          let at = e.passed i r k new low is touches in
          elim (cases_lt k l.last.to) [
            | inl near ↦ seen_more w spans span k (l.invariant.seen k at.0 near past)
            | inr far ↦ inl (at.1 far)
          ]
    ] in
    let order : All (LeavesNothing w asked more) more =
    All-push (LeavesNothing w asked more) spans span
    (All-weaker (LeavesNothing w asked spans) (LeavesNothing w asked more) (λ s. leaves_more w asked spans span s) spans l.invariant.order)
    (last_leaves w asked span more run.index run.least run.from run.to e.range first some passed seen) in
    let IsOne = IsEarly (work c.args.reader.now c.args.cache.now) c.args.ahead c.args.asked in
    let one : IsOne span = record {
      from = run.from;
      to = run.to;
      blocks = blocks;
      first = first;
      last = last ∙ ap (λ n. end_of n (run.to - 1)) file_length;
      behind = omega (arith, behind, later, first);
    } in
    record {
      early = subst (All IsOne) (sym pushed) (All-push IsOne spans span l.invariant.early one);
      apart = subst AreApart (sym pushed) (one_apart spans span (l.last.to * BLOCK_SIZE) l.invariant.before (omega (arith, later, first)) l.invariant.apart);
      before = subst (AreBefore (run.to * BLOCK_SIZE)) (sym pushed)
          (one_before spans span (l.last.to * BLOCK_SIZE) (run.to * BLOCK_SIZE) l.invariant.before (omega (arith, later, some)) (omega (arith, some, last)));
      few = ap length pushed ∙ omega (arith, few, length-append spans (span ∷ []));
      behind = omega (arith, behind, later, some);
      order = subst (λ xs. All (LeavesNothing w asked xs) xs) (sym pushed) order;
      passed = subst (λ xs. ArePassedBy w asked xs run.index) (sym pushed) passed;
      seen = subst (λ xs. AreSeenTo w asked xs run.least run.to) (sym pushed) seen;
      begins = (e.range.0, e.range.1, e.range.2);
      small = omega (arith, inside, file_length);
    }

pub returns-clause-end : goal.returns-clause-end
returns-clause-end c = λ fewer.
    let l = c.loop in
    elim c.loop-test.branch [
      | else-loop-test w ↦ let same = l.invariant.few in absurd (omega (arith, w.loop-test.false, same, fewer))
      | then-loop-test+in_default-next_run w ↦
          nothing_more (work c.args.reader.now c.args.cache.now) c.args.asked l.spans.items l.last.index l.last.least l.last.to l.invariant.begins l.invariant.passed l.invariant.seen
          w.in_default-next_run.ensures.end
    ]
