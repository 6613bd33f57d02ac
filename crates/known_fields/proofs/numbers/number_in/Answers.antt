use Rattle.std.proofs.Common.{◌∙◌, arith}
use Rattle.byteorder.specs.Numbers.{big_from-lt, little_from-lt}
use Rattle.known_fields.proofs.NumberLemmas.{in_big, in_little}
use Rattle.known_fields.proofs.numbers.number_in.Goals as goal

pub returns-in-Little-clause-number : goal.returns-in-Little-clause-number
returns-in-Little-clause-number c = rw c.in-Little.is (c.read_uint.ensures ∙ in_little _ c.args.text.now)

pub returns-in-Little-clause-fits : goal.returns-in-Little-clause-fits
returns-in-Little-clause-fits c = rw c.read_uint.ensures (little_from-lt 0 _ c.args.text.now (λ k. omega (arith, c.type_inv.text k)))

pub returns-in-Big-clause-number : goal.returns-in-Big-clause-number
returns-in-Big-clause-number c = rw c.in-Big.is (c.read_uint-in-Big.ensures ∙ in_big _ c.args.text.now)

pub returns-in-Big-clause-fits : goal.returns-in-Big-clause-fits
returns-in-Big-clause-fits c = rw c.read_uint-in-Big.ensures (big_from-lt 0 _ c.args.text.now (λ k. omega (arith, c.type_inv.text k)))
