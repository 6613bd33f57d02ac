use Rattle.http_fields.proofs.NumeralLemmas.{Compares, padded}
use Rattle.http_fields.proofs.numeral.in_order.Given as goal

abbrev pub invariant-loop-i : goal.invariant-loop-i
invariant-loop-i l = Compares (padded l.a l.n l.i) (padded l.b l.n l.i) l.below l.above
