use Rattle.http_range.proofs.AskedLemmas.{clients_answered, clients_served, requests_answered, open_clients_served, checks_answered, checks_served}
use Rattle.http_range.proofs.laws.law_clients_are_answered.Goals as goal

pub returns-clause-followed : goal.returns-clause-followed
returns-clause-followed c = clients_answered c.law_parts_are_read.ensures

pub returns-clause-requests : goal.returns-clause-requests
returns-clause-requests c = requests_answered c.law_parts_are_read.ensures

pub returns-clause-checks : goal.returns-clause-checks
returns-clause-checks c = checks_answered c.law_parts_are_read.ensures

pub returns-clause-served : goal.returns-clause-served
returns-clause-served c = clients_served c.law_parts_are_read.ensures

pub returns-clause-open_served : goal.returns-clause-open_served
returns-clause-open_served c = open_clients_served c.law_parts_are_read.ensures

pub returns-clause-checks_served : goal.returns-clause-checks_served
returns-clause-checks_served c = checks_served c.law_parts_are_read.ensures
