use Rattle.cog_server.proofs.RunLemmas.{all_answered, all_from_one}
use Rattle.cog_server.proofs.laws.law_runs_are_answered.Goals as goal

pub returns-clause-answered : goal.returns-clause-answered
returns-clause-answered c = all_answered c.law_messages_stay.ensures.messages

pub returns-clause-served : goal.returns-clause-served
returns-clause-served c = all_from_one c.law_messages_stay.ensures.messages
