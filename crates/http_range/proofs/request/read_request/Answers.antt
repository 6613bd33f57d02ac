use Rattle.http_range.proofs.RequestLemmas.{asked_read, checked_read}
use Rattle.http_range.proofs.request.read_request.Goals as goal

pub returns-clause-asked : goal.returns-clause-asked
returns-clause-asked c close host name extra first last tag more can is =
    asked_read c.law_parts_are_read.ensures close host name extra first last tag more can c.args.bytes.now is c.find.result c.find.ensures

pub returns-clause-checked : goal.returns-clause-checked
returns-clause-checked c host name extra tag more can is =
    checked_read c.law_parts_are_read.ensures host name extra tag more can c.args.bytes.now is c.find.result c.find.ensures
