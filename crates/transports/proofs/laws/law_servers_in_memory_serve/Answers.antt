use Rattle.transports.proofs.TransportLemmas.{server_fronts_serve, server_serves}
use Rattle.transports.proofs.laws.law_servers_in_memory_serve.Goals as goal

pub returns-clause-whole : goal.returns-clause-whole
returns-clause-whole c = server_serves c.law_whole_answers_bring_on.ensures.own

pub returns-clause-fronts : goal.returns-clause-fronts
returns-clause-fronts c = server_fronts_serve c.law_whole_answers_bring_on.ensures.fronts
