use Rattle.std.proofs.Common.{refl}
use Rattle.std.specs.Float.Ieee.{div, of_int}
use Rattle.text_description.proofs.covering.law_snap_is.Goals as goal

pub returns-clause-one : goal.returns-clause-one
unfolding of_int lib.Ieee.of_bits
returns-clause-one c = refl

pub returns-clause-snap : goal.returns-clause-snap
unfolding lib.Ieee.of_bits div of_int
returns-clause-snap c = refl
