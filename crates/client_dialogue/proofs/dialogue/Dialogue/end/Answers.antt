use Rattle.std.proofs.Common.{ap, sym, subst, ◌∙◌}
use Rattle.client_connection.specs.Status.{Status}
use Rattle.client_dialogue.specs.History.{Talk}
use Rattle.client_dialogue.specs.Goes.{BeginsAnew}
use Rattle.client_dialogue.proofs.ExchangeLemmas.{begins_over}
use Rattle.client_dialogue.specs.contracts.dialogue.Dialogue.{the_view}
use Rattle.client_dialogue.proofs.dialogue.Dialogue.end.Goals as goal

pub returns-clause-begins : goal.returns-clause-begins
returns-clause-begins c =
    let t : Talk = the_view c.self.inside in
    subst (λ (x : Talk). BeginsAnew x.exchanges x (record t { status = c.end.new.self })) c.self.view_is
    (subst (λ (s : Status). BeginsAnew t.exchanges t (record t { status = s })) (sym c.end.ensures)
    (begins_over t (ap (λ (x : Talk). x.asked) c.self.view_is ∙ c.requires)))
