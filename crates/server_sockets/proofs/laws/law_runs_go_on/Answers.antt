use Rattle.server_sockets.proofs.RunLemmas.{runs_on}
use Rattle.server_sockets.proofs.laws.law_runs_go_on.Goals as goal

pub returns : goal.returns
returns c = runs_on c.law_runs_are_answered.ensures.answered
