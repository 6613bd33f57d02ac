use Rattle.http_range.proofs.HeadLemmas.{request_found}
use Rattle.http_range.proofs.request.find.Goals as goal

pub returns-in-Ok-Complete : goal.returns-in-Ok-Complete
returns-in-Ok-Complete c =
    let complete = rw c.in-Ok-Complete.field-0-is at c.in-Ok-Complete.ensures.complete in
    request_found c.args.bytes.now _ _ _ _ c.in-Ok-Complete.head c.new.result c.new.ensures c.up_to-front.ensures c.of.ensures
    c.of-in-Ok-Complete.ensures c.parse_request.auto.headers complete
