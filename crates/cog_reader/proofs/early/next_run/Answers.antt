use Rattle.std.proofs.Common.{◌≡◌, ◌<◌, false, arith, inl, inr, sym, subst}
use Rattle.std.proofs.lemmas.Bool.{cases_lt}
use Rattle.std.proofs.lemmas.Option.{IfSome_then}
use Rattle.extents.specs.Extent.{extent_of_span}
use Rattle.extents.specs.Block.{blocks}
use Rattle.range_cache.specs.Cache.{numbers}
use Rattle.range_cache.specs.Numbers.{has}
use Rattle.cog_reader.specs.Going.{work}
use Rattle.cog_reader.specs.Early.{ArePassed, AreThereInReach}
use Rattle.cog_reader.proofs.EarlyLemmas.{back_ends, ended, full_ends, if_none, last_ends, place_blocks, unknown_ends}
use Rattle.cog_reader.proofs.early.next_run.Goals as goal

pub returns-in-Some-first_gap-clause-passed : goal.returns-in-Some-first_gap-clause-passed
returns-in-Some-first_gap-clause-passed c =
    let last = c.args.last in
    IfSome_then c.run_in.result c.run_in.ensures.index
    (λ run is. subst (λ n. ArePassed (work c.args.reader.now c.args.cache.now) last.index n last.least last.to) (sym is) c.loop-index.invariant.passed)

pub loop-index-preserved : goal.loop-index-preserved
loop-index-preserved c =
    let index = c.loop-index.index in
    let range = c.in-Some.range in
    record {
      passed = λ i r k low high is touches. elim (cases_lt i index) [
        | inl old ↦ c.loop-index.invariant.passed i r k low old is touches
        | inr new ↦
            let at = place_blocks (work c.args.reader.now c.args.cache.now) i index r range k (omega (arith, high, new)) c.in-Some.ensures.known.0 is touches in
            (omega (arith, at.0, c.if-first-last.false), λ behind. c.in_default-first_gap.ensures.before k (omega (arith, at.0, behind)) at.1)
      ];
    }

pub returns-in_default-clause-end : goal.returns-in_default-clause-end
returns-in_default-clause-end c =
    let w = work c.args.reader.now c.args.cache.now in
    ended w c.args.last.index c.loop-index.index c.args.last.least c.args.last.to c.loop-index.invariant.passed
    (λ first begins low. unknown_ends w c.loop-index.index c.in_default.ensures.known)

pub returns-then-first-last-clause-end : goal.returns-then-first-last-clause-end
returns-then-first-last-clause-end c =
    let w = work c.args.reader.now c.args.cache.now in
    let last = c.args.last in
    let index = c.loop-index.index in
    ended w last.index index last.least last.to c.loop-index.invariant.passed
    (λ first begins low. back_ends w last.index index first (extent_of_span c.in-Some.range) begins (omega arith) c.in-Some.ensures.known.0 (omega (arith, low, c.if-first-last.true)))

pub returns-in-Some-first_gap-clause-end : goal.returns-in-Some-first_gap-clause-end
returns-in-Some-first_gap-clause-end c =
    let w = work c.args.reader.now c.args.cache.now in
    let last = c.args.last in
    let index = c.loop-index.index in
    let r = extent_of_span c.in-Some.range in
    if_none c.run_in.result (has c.in-Some-first_gap.gap (numbers w.cache.entries) ≡ false → w.cache.capacity < blocks r.first r.len) (AreThereInReach w last.index last.least last.to) c.run_in.ensures.full
    (λ full. ended w last.index index last.least last.to c.loop-index.invariant.passed
    (λ first begins low. full_ends w index r c.in-Some.ensures.known.0 (full c.in-Some-first_gap.ensures.gone)))

pub returns-clause-end : goal.returns-clause-end
returns-clause-end c =
    let w = work c.args.reader.now c.args.cache.now in
    let last = c.args.last in
    let index = c.loop-index.index in
    ended w last.index index last.least last.to c.loop-index.invariant.passed
    (λ first begins low. last_ends w index (λ i far. c.few_are_known.ensures i (omega (arith, far, c.loop-index-test.false))))
