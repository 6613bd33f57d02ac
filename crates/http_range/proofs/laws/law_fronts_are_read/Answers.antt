use Rattle.http_range.proofs.HonestLemmas.{law_fronts_are_read, checks_are_read}
use Rattle.http_range.proofs.laws.law_fronts_are_read.Goals as goal

pub returns-clause-answers : goal.returns-clause-answers
returns-clause-answers c = law_fronts_are_read c.law_parts_are_read.ensures

pub returns-clause-checks : goal.returns-clause-checks
returns-clause-checks c = checks_are_read c.law_parts_are_read.ensures
