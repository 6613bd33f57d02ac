use Rattle.std.proofs.Common.{◌∙◌}
use Rattle.std.proofs.lemmas.List.{take_rest}
use Rattle.reference_support.proofs.NumberLemmas.{number-little, number-big}
use Rattle.reference_support.proofs.numbers.short_in.Goals as goal

pub returns-in-Little : goal.returns-in-Little
returns-in-Little c = rw c.in-Little.is (c.read_u16.ensures ∙ (rw take_rest (number-little c.args.at 2 c.args.bytes.now)))

pub returns-in-Big : goal.returns-in-Big
returns-in-Big c = rw c.in-Big.is (c.read_u16-in-Big.ensures ∙ (rw take_rest (number-big c.args.at 2 c.args.bytes.now)))
