use Rattle.std.proofs.Common.{arith}
use Rattle.std.proofs.lemmas.List.{take_all}
use Rattle.http_range.proofs.HeadLemmas.{head_found, head_cut}
use Rattle.http_range.proofs.answer_head.head_of.Goals as goal

pub returns-in-Ok-Complete : goal.returns-in-Ok-Complete
returns-in-Ok-Complete c =
    let complete = rw c.in-Ok-Complete.field-0-is at c.in-Ok-Complete.ensures.complete in
    head_found c.args.bytes.now _ _ c.in-Ok-Complete.head c.new.result c.new.ensures c.head_front-front.ensures.front
    c.parse_response.auto.headers complete

pub returns-then-bytes-lt-HEAD_LIMIT : goal.returns-then-bytes-lt-HEAD_LIMIT
returns-then-bytes-lt-HEAD_LIMIT c =
    let none = rw c.in-Ok-Partial.field-0-is at c.in-Ok-Partial.ensures.partial in
    let open_head = rw c.in-Ok-Partial.field-0-is at c.in-Ok-Partial.ensures.unfinished in
    head_cut c.args.bytes.now _ c.head_front-front.ensures.front (take_all 4096 c.args.bytes.now (omega arith)) c.if-bytes-lt-HEAD_LIMIT.true none open_head
