use Rattle.std.proofs.Common.{Some, refl}
use Rattle.world.proofs.exchange.check_one.Goals as goal

pub returns : goal.returns
returns c = (Some c.in_ok-check-2.check, (refl, c.in_ok-check-2.ensures))
