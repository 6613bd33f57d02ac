-- The head of an answer, as the code keeps it.
use Rattle.std.specs.Prelude.{Result, Ok, Err}
use Rattle.http_range.specs.declared.answer_head.AnswerHead.{AnswerHead}
use Rattle.http_range.specs.declared.reading.Why.{Why}
use Rattle.http_range.specs.Head.{SeenHead}

abbrev pub head_seen : AnswerHead → SeenHead
head_seen head = record { status = head.status; minor = head.minor; fields = head.fields; size = head.size }

abbrev pub found_seen : Result AnswerHead Why → Result SeenHead Why
found_seen (Ok head) = Ok (head_seen head)
found_seen (Err why) = Err why
