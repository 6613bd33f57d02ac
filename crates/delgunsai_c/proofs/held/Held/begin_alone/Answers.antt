use Rattle.std.proofs.Common.{ap, ◌∙◌}
use Rattle.client_dialogue.specs.History.{Talk}
use Rattle.delgunsai_c.proofs.BeginsLemmas.{begins_then}
use Rattle.delgunsai_c.proofs.held.Held.begin_alone.Goals as goal

pub returns-clause-begins : goal.returns-clause-begins
returns-clause-begins c = record {
  client = c.begin_query.ensures.client;
  begins = begins_then _ _ c.begin_query.new.self.dialogue c.end.new.self c.begin_query.ensures.begins c.begin_query.ensures.allows c.end.ensures.begins;
  idle = ap (λ (x : Talk). x.asked) c.end.ensures.over ∙ c.begin_query.ensures.idle;
  over = ap (λ (x : Talk). x.status) c.end.ensures.over;
  exchanges = c.begin_query.ensures.exchanges;
}
