use Rattle.http_range.proofs.ScanLemmas.{message_found, message_of}
use Rattle.http_range.proofs.FirstHead.{heads_are_messages}
use Rattle.http_range.proofs.MessageLemmas.{law_messages_stay, heads_stay}
use Rattle.http_range.proofs.laws.law_messages_stay.Goals as goal

pub returns-clause-messages : goal.returns-clause-messages
returns-clause-messages c = law_messages_stay

pub returns-clause-heads : goal.returns-clause-heads
returns-clause-heads c = heads_stay

pub returns-clause-printed : goal.returns-clause-printed
returns-clause-printed c = heads_are_messages

pub returns-clause-tested : goal.returns-clause-tested
returns-clause-tested c = λ front. (message_of front, message_found front)
