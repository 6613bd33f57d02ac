use Rattle.std.proofs.Common.{◌≡◌, ℕ, ◌+◌, ◌-◌, ◌<◌, ◌≤◌, Some, true, sym, ap, ◌∙◌, arith, subst}
use Rattle.tiff_dir.specs.File.{has_directory}
use Rattle.known_fields.proofs.DirectoryLemmas.{broken, counted, counted_all, has_first, has_next, has_no_next, unordered}
use Rattle.known_fields.proofs.directories.known_directories.Goals as goal

pub returns-in_err-order-clause-whole : goal.returns-in_err-order-clause-whole
returns-in_err-order-clause-whole g c = λ f of all whole.
    absurd (broken f 0 1 (omega arith) (omega arith) (has_first f) (unordered f (sym (c.in_err-order.ensures.whole f of all))) whole)

pub loop-index-init : goal.loop-index-init
loop-index-init g c = record { some = omega arith; here = λ f of. has_first f }

pub returns-then-branch-eq0-clause-known : goal.returns-then-branch-eq0-clause-known
returns-then-branch-eq0-clause-known g c = λ f of.
    let index = c.loop-index.index in
    let is : index ≡ index - 1 + 1 = omega (arith, c.loop-index.invariant.some) in
    let here = c.loop-index.invariant.here f of in
    counted f (index - 1) index is (omega (arith, c.loop-index-test.true)) here
    (has_no_next f (index - 1) index is here (c.in_ok-directory_at.ensures.directory.known f of ∙ ap Some c.if-branch-eq0.true))

pub loop-index-preserved : goal.loop-index-preserved
loop-index-preserved g c = record {
  some = omega arith;
  here = λ f of.
      let index = c.loop-index.index in
      let is : index ≡ index - 1 + 1 = omega (arith, c.loop-index.invariant.some) in
      let same : index ≡ index + 1 - 1 = omega arith in
      let some = c.if-branch-eq0.false in
      subst (λ i. has_directory f i ≡ true) same
      (has_next f (index - 1) index c.in_ok-directory_at.field-0 is (c.loop-index.invariant.here f of) (c.in_ok-directory_at.ensures.directory.known f of)
      (omega (arith, some)));
}

pub returns-clause-known : goal.returns-clause-known
returns-clause-known g c = λ f of.
    let last : c.loop-index.index - 1 ≡ 15 = omega (arith, c.loop-index-test.false, c.loop-index.auto.index-end) in
    counted_all f (subst (λ i. has_directory f i ≡ true) last (c.loop-index.invariant.here f of))
