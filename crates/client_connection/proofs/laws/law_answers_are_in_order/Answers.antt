use Rattle.client_connection.proofs.RunLemmas.{answers_are_in_order, cuts_do_not_matter}
use Rattle.client_connection.proofs.laws.law_answers_are_in_order.Goals as goal

pub returns-clause-order : goal.returns-clause-order
returns-clause-order c = answers_are_in_order c.law_frames_grow.ensures

pub returns-clause-one : goal.returns-clause-one
returns-clause-one c = cuts_do_not_matter c.law_frames_grow.ensures
