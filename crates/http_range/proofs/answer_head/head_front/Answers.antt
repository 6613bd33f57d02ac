use Rattle.std.proofs.Common.{sym, arith}
use Rattle.std.proofs.lemmas.List.{take_all}
use Rattle.http_range.proofs.answer_head.head_front.Goals as goal

pub returns-then-bytes-lt-HEAD_LIMIT-clause-front : goal.returns-then-bytes-lt-HEAD_LIMIT-clause-front
returns-then-bytes-lt-HEAD_LIMIT-clause-front c = sym (take_all 4096 c.args.bytes.now (omega arith))
