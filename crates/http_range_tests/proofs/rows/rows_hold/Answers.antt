use Rattle.http_range_tests.proofs.RowLemmas.{parts_are, texts_are, heads_are, messages_are, answers_are, conditions_are, streams_are}
use Rattle.http_range_tests.proofs.rows.rows_hold.Goals as goal

pub returns-clause-parts : goal.returns-clause-parts
returns-clause-parts c = parts_are

pub returns-clause-texts : goal.returns-clause-texts
returns-clause-texts c = texts_are

pub returns-clause-heads : goal.returns-clause-heads
returns-clause-heads c = heads_are

pub returns-clause-answers : goal.returns-clause-answers
returns-clause-answers c = answers_are

pub returns-clause-messages : goal.returns-clause-messages
returns-clause-messages c = messages_are c.law_messages_stay.ensures.tested

pub returns-clause-conditions : goal.returns-clause-conditions
returns-clause-conditions c = conditions_are

pub returns-clause-streams : goal.returns-clause-streams
returns-clause-streams c = streams_are c.law_messages_stay.ensures.tested
