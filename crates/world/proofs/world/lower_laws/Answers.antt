use Rattle.world.proofs.world.lower_laws.Goals as goal

pub returns : goal.returns
returns c = record {
  apart = c.law_tags_tell_publications.ensures.apart;
  fronts = c.law_fronts_are_read.ensures.answers;
  kept = c.law_tags_tell_publications.ensures.kept;
  answered = c.law_clients_are_answered.ensures.requests;
  checks = c.law_clients_are_answered.ensures.checks;
  read = c.law_fronts_are_read.ensures.checks;
  replaces = c.law_publications_replace.ensures.replaces;
  named = c.law_publications_replace.ensures.named;
  honest = c.law_honesty_is_kept.ensures;
  window = c.law_one_window.ensures.window;
  told = c.law_equal_reports_are_true.ensures;
  seen = c.law_agreement_is_seen.ensures;
  geo = c.law_one_geo.ensures.keys;
  cost = c.law_left_never_grows.ensures.cost;
  goes = c.law_left_never_grows.ensures.goes;
  request = c.law_nothing_left_is_reported.ensures.request;
  delivery = c.law_nothing_left_is_reported.ensures.delivery;
  one_range = c.law_needed_are_asked.ensures.one;
  served = c.law_whole_answers_bring_on.ensures.own;
  brings = c.law_whole_answers_bring_on.ensures.served;
}
