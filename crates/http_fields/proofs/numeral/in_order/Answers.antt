use Rattle.std.proofs.Common.{◌≤◌, length, inl, inr, arith}
use Rattle.http_fields.proofs.NumeralLemmas.{compares_more}
use Rattle.http_fields.proofs.numeral.in_order.Goals as goal
use Rattle.http_fields.proofs.numeral.in_order.Goals.{then-not-below+then-not-above, else-not-below, else-not-below-via-then-not-below+else-not-above, else-not-below-via-else-not-below}

pub loop-i-preserved : goal.loop-i-preserved
loop-i-preserved c =
    let ra : length c.args.a.now ≤ c.max-n.result = omega (arith, c.max-n.ensures) in
    let rb : length c.args.b.now ≤ c.max-n.result = omega (arith, c.max-n.ensures) in
    compares_more c.args.a.now c.args.b.now c.max-n.result c.loop-i.i c.padded_digit-x.result c.padded_digit-y.result
    c.loop-i.below c.loop-i.above c.if-not-below.below c.if-not-below.above ra rb c.loop-i-test.true
    c.padded_digit-x.ensures.value c.padded_digit-y.ensures.value c.padded_digit-x.ensures.small c.padded_digit-y.ensures.small c.loop-i.invariant
    (elim c.if-not-below.branch [
      | then-not-below+then-not-above w ↦ inl (w.if-not-below.true, w.if-not-above.true, w.below-is, w.above-is)
      | else-not-below w ↦ inr (
        elim w.else-not-below.branch [
          | else-not-below-via-then-not-below+else-not-above w' ↦ inr w'.if-not-above.false
          | else-not-below-via-else-not-below w' ↦ inl w'.if-not-below.false
        ],
        w.below-is,
        w.above-is,
      )
    ])
