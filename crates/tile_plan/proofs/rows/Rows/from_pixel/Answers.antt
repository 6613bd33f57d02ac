use Rattle.std.proofs.Common.{◌+◌, ◌*◌, arith}
use Rattle.std.proofs.Math.Nat.{mul-le-mul_left}
use Rattle.tile_plan.proofs.rows.Rows.from_pixel.Goals as goal

pub overflow_mul-result : goal.overflow_mul-result
overflow_mul-result c = omega (arith, c.requires.fits, mul-le-mul_left (c.args.top * c.args.columns + c.args.columns) c.requires.some)

pub overflow_add-result : goal.overflow_add-result
overflow_add-result c = omega (arith, c.requires.fits, mul-le-mul_left (c.args.top * c.args.columns + c.args.columns) c.requires.some)
