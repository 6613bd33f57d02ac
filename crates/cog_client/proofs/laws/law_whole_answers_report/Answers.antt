use Rattle.cog_client.proofs.WholeLemmas.{StepLaws, own_report, served_report}
use Rattle.cog_client.proofs.laws.law_whole_answers_report.Goals as goal

step_laws : (c : goal.After-law_fronts_are_read) → StepLaws
step_laws c = record {
  own = c.law_whole_answers_bring_on.ensures.own;
  bring = c.law_whole_answers_bring_on.ensures.served;
  goes = c.law_left_never_grows.ensures.goes;
  asks = c.law_left_never_grows.ensures.asks;
  delivery = c.law_nothing_left_is_reported.ensures.delivery;
  cost_is = c.law_left_never_grows.ensures.cost;
  one = c.law_fronts_are_read.ensures.answers.one;
}

pub returns-clause-served : goal.returns-clause-served
returns-clause-served c = served_report (step_laws c)

pub returns-clause-own : goal.returns-clause-own
returns-clause-own c = own_report (step_laws c)
