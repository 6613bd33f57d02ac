use Rattle.std.proofs.Common.{◌≡◌, true, get_or, sym, ◌∙◌, arith}
use Rattle.std.proofs.lemmas.Bool.{eqb-true}
use Rattle.std.specs.Char.{is_ascii_digit}
use Rattle.http_fields.proofs.DigitsLemmas.{number_none, number_start, number_end, number_over}
use Rattle.http_fields.proofs.digits.number_64.Goals as goal

pub returns-then-is_empty : goal.returns-then-is_empty
returns-then-is_empty c = sym (number_none _ (eqb-true _ 0 (sym c.is_empty.ensures ∙ c.if-is_empty.true)))

pub loop-b-init : goal.loop-b-init
loop-b-init c = number_start _ _ c.is_empty.ensures c.if-is_empty.false

pub returns-then-n-digit : goal.returns-then-n-digit
returns-then-n-digit c =
    let text = c.args.text.now in
    let i = c.loop-b.b-index in
    let cases = c.if-not-is_ascii_digit.ensures.cases in
    let digit : is_ascii_digit (get_or text i 0) ≡ true = cc in
    sym (c.loop-b.invariant ∙ number_over text c.loop-b.n i c.loop-b-test.true digit (omega arith) (omega arith) (omega arith))

pub returns : goal.returns
returns c = sym (c.loop-b.invariant ∙ number_end _ _ _ c.loop-b-test.false (omega arith))
