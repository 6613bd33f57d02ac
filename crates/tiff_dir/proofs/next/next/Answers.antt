use Rattle.std.proofs.Common.{◌≡◌, ◌<◌, ◌⊎◌, inl, inr, refl, sym, arith}
use Rattle.std.proofs.lemmas.Bool.Decides.{nat_tests}
use Rattle.tiff_dir.proofs.Chain.{over_is, ranges_over, too_many, bad_place, good_place}
use Rattle.tiff_dir.proofs.next.next.Goals as goal
use Rattle.tiff_dir.proofs.next.next.Goals.{else-index-gt0-via-then-index-gt0+else-at-eq0, else-index-gt0-via-else-index-gt0, then-at-lt8-via-then-at-lt8, then-at-lt8-via-else-at-lt8+then-at-ne0}

pub returns-then-index-ge-MAX_DIRECTORIES-clause-agrees : goal.returns-then-index-ge-MAX_DIRECTORIES-clause-agrees
returns-then-index-ge-MAX_DIRECTORIES-clause-agrees c = λ f follows.
    elim c.else-index-gt0.branch [
      | else-index-gt0-via-then-index-gt0+else-at-eq0 w ↦ too_many f _ _ _ follows (omega arith) (omega arith)
      | else-index-gt0-via-else-index-gt0 w ↦ absurd (omega arith)
    ]

pub returns-then-at-lt8-clause-agrees : goal.returns-then-at-lt8-clause-agrees
returns-then-at-lt8-clause-agrees c = λ f follows.
    let some : (c.args.index ≡ 0) ⊎ (0 < c.args.at) = elim c.else-index-gt0.branch [
      | else-index-gt0-via-then-index-gt0+else-at-eq0 w ↦ inr (omega arith)
      | else-index-gt0-via-else-index-gt0 w ↦ inl (omega arith)
    ] in
    elim c.then-at-lt8.branch [
      | then-at-lt8-via-then-at-lt8 w ↦ bad_place f _ _ _ follows (omega arith) some (grind (arith, nat_tests))
      | then-at-lt8-via-else-at-lt8+then-at-ne0 w ↦ bad_place f _ _ _ follows (omega arith) some (grind (arith, nat_tests))
    ]

pub returns-clause-agrees : goal.returns-clause-agrees
returns-clause-agrees c = λ f follows.
    let some : (c.args.index ≡ 0) ⊎ (0 < c.args.at) = elim c.else-index-gt0.branch [
      | else-index-gt0-via-then-index-gt0+else-at-eq0 w ↦ inr (omega arith)
      | else-index-gt0-via-else-index-gt0 w ↦ inl (omega arith)
    ] in
    (good_place f _ _ _ follows (omega arith) some (grind (arith, nat_tests)), refl)

pub returns-then-at-eq0-clause-agrees : goal.returns-then-at-eq0-clause-agrees
returns-then-at-eq0-clause-agrees c = λ f follows.
    let over = over_is f c.args.order c.args.index c.args.at follows (omega arith) (omega arith) in
    (over, sym (ranges_over f c.args.order c.args.index over))
