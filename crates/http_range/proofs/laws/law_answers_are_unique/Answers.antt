use Rattle.http_range.proofs.ResponseLemmas.{answers_unique}
use Rattle.http_range.proofs.StreamLemmas.{streams_answered_once}
use Rattle.http_range.proofs.laws.law_answers_are_unique.Goals as goal

pub returns-clause-message : goal.returns-clause-message
returns-clause-message c = answers_unique

pub returns-clause-stream : goal.returns-clause-stream
returns-clause-stream c = streams_answered_once
