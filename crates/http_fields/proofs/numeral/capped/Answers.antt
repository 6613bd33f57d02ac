use Rattle.std.proofs.Common.{take}
use Rattle.std.specs.Str.Parse.{digits_value}
use Rattle.std.proofs.lemmas.Int.Digits.{digits_value_more}
use Rattle.http_fields.proofs.NumeralLemmas.{digit_here, capped_step, capped_more}
use Rattle.http_fields.proofs.numeral.capped.Goals as goal
use Rattle.http_fields.proofs.numeral.capped.Goals.{then-n-digit, else-n-digit}

pub digit_of-digit-requires : goal.digit_of-digit-requires
digit_of-digit-requires c = digit_here c.args.text.now c.loop-b.b-index c.requires c.loop-b-test.true

pub loop-b-preserved : goal.loop-b-preserved
loop-b-preserved c =
    let i = c.loop-b.b-index in
    let v = digits_value 10 (take i c.args.text.now) in
    rw (digits_value_more 10 c.args.text.now i c.loop-b-test.true, ← c.digit_of-digit.ensures.value)
    (elim c.if-n-digit.branch [
      | then-n-digit w ↦ rw w.n-is (capped_step c.loop-b.n v _ c.loop-b.invariant c.digit_of-digit.ensures.small w.if-n-digit.true)
      | else-n-digit w ↦ rw w.n-is (capped_more c.loop-b.n v _ c.loop-b.invariant c.digit_of-digit.ensures.small w.if-n-digit.false)
    ])
