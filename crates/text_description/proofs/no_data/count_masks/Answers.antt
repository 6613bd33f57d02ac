use Rattle.std.proofs.Common.{◌+◌, arith, refl, sym, ◌∙◌}
use Rattle.text_description.proofs.NoDataLemmas.{no_more_mask, one_more_mask, type_missing}
use Rattle.text_description.proofs.no_data.count_masks.Goals as goal
use Rattle.text_description.proofs.no_data.count_masks.Goals.{then-branch-eq1, else-branch-eq1}

pub loop-directory-preserved : goal.loop-directory-preserved
loop-directory-preserved g c = record {
  few = elim c.if-branch-eq1.branch [
    | then-branch-eq1 w ↦ omega (arith, w.count-is, c.loop-directory.invariant.few)
    | else-branch-eq1 w ↦ omega (arith, w.count-is, c.loop-directory.invariant.few)
  ];
  counted = λ f of.
      let k = c.loop-directory.directory in
      let before = c.loop-directory.invariant.counted f of in
      let told = c.in_ok-known_value.ensures.known f of in
      elim c.if-branch-eq1.branch [
        | then-branch-eq1 w ↦ w.count-is ∙ one_more_mask f k (k + 1) c.loop-directory.count c.in_ok-known_value.field-0 refl before told w.if-branch-eq1.true
        | else-branch-eq1 w ↦ w.count-is ∙ no_more_mask f k (k + 1) c.loop-directory.count c.in_ok-known_value.field-0 refl before told w.if-branch-eq1.false
      ];
}

pub returns-in_err-known_value-clause-whole : goal.returns-in_err-known_value-clause-whole
returns-in_err-known_value-clause-whole g c = λ f of all chain types.
    absurd (type_missing f c.in_ok-directory-end.directory-end c.loop-directory.directory (c.in_ok-directory-end.ensures.known f of) types c.loop-directory-test.true
    (sym (c.in_err-known_value.ensures.whole f of all)))
