use Rattle.std.proofs.Common.{refl, from_bits}
use Rattle.std.specs.Float.Ieee.{div, neg, of_int}
use Rattle.text_description.proofs.placement.law_halves_are.Goals as goal

-- src/placement.rt:22:1
pub returns-clause-nothing : goal.returns-clause-nothing
unfolding of_int lib.Ieee.of_bits
returns-clause-nothing c = refl

-- src/placement.rt:22:1
pub returns-clause-two : goal.returns-clause-two
unfolding of_int lib.Ieee.of_bits
returns-clause-two c = refl

-- src/placement.rt:22:1
pub returns-clause-half : goal.returns-clause-half
unfolding neg lib.Ieee.of_bits div of_int
returns-clause-half c = refl
