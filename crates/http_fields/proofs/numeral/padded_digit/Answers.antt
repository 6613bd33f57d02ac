use Rattle.std.proofs.Common.{◌-◌, length, arith}
use Rattle.http_fields.proofs.NumeralLemmas.{digit_here}
use Rattle.http_fields.proofs.numeral.padded_digit.Goals as goal

pub digit_of-requires : goal.digit_of-requires
digit_of-requires c = digit_here c.args.text.now (c.args.i - (c.args.n - length c.args.text.now)) c.requires.digits (omega arith)
