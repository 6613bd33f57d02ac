use Rattle.std.proofs.Common.{refl}
use Rattle.std.specs.Float.Ieee.{div, of_int}
use Rattle.text_description.proofs.world.law_half_is.Goals as goal

pub returns : goal.returns
unfolding lib.Ieee.of_bits div of_int
returns c = refl
