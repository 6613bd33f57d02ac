use Rattle.http_range.proofs.RangeLemmas.{written_read}
use Rattle.http_range.proofs.RangeForms.{range_forms}
use Rattle.http_range.proofs.range.read_range.Goals as goal

pub returns-clause-written : goal.returns-clause-written
returns-clause-written c first last ordered small is =
    written_read c.law_parts_are_read.ensures first last ordered small c.args.value.now is c.read.result c.read.ensures

pub returns-clause-forms : goal.returns-clause-forms
returns-clause-forms c spec = range_forms c.args.value.now spec
