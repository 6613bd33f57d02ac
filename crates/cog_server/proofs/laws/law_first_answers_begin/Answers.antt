use Rattle.std.proofs.Common.{length}
use Rattle.cog_server.proofs.AnswerLemmas.{begins_all}
use Rattle.cog_server.proofs.laws.law_first_answers_begin.Goals as goal

pub returns : goal.returns
returns c = λ catalogue stream rs all first answered.
    begins_all c.law_answers_are_unique.ensures.message c.law_messages_stay.ensures.messages catalogue (length rs) 100 stream rs all
    first.few first.answers answered
