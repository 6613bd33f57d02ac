use Rattle.std.proofs.Common.{[], false, ap, sym, subst, ◌∙◌}
use Rattle.client_connection.specs.Status.{Status}
use Rattle.client_dialogue.specs.History.{Talk}
use Rattle.client_dialogue.specs.Goes.{Fails, Goes, MakesOne}
use Rattle.client_dialogue.proofs.ExchangeLemmas.{ended_goes, stopped_goes}
use Rattle.client_dialogue.proofs.Results.{on_err}
use Rattle.client_dialogue.specs.contracts.dialogue.Dialogue.{the_view}
use Rattle.client_dialogue.proofs.dialogue.Dialogue.let_go.Goals as goal

pub returns-in_err-exchanged-clause-err : goal.returns-in_err-exchanged-clause-err
returns-in_err-exchanged-clause-err c =
    let t : Talk = the_view c.self.inside in
    on_err c.from_residual.result _
    (subst (λ (x : Talk). Goes Fails [] x c.args.client.now c.conclude.new.self c.conclude.new.client) c.self.view_is
    (subst (λ (x : Talk). Goes Fails [] t c.args.client.now x c.conclude.new.client) (sym c.in_err-exchanged.ensures.err.0)
    (stopped_goes [] t c.args.client.now c.conclude.new.client (ap (λ (x : Talk). x.asked) c.self.view_is ∙ c.requires) c.in_err-exchanged.ensures.err.1)))

pub returns-clause-goes : goal.returns-clause-goes
returns-clause-goes c =
    let t : Talk = the_view c.self.inside in
    let what = c.in_ok-exchanged.exchanged.delivered in
    let same = c.in_ok-exchanged.ensures.ok.0 ∙ ap (λ (s : Status). record t { status = s; asked = false }) c.end.ensures in
    subst (λ (x : Talk). Goes (MakesOne what) [] x c.args.client.now c.conclude.new.self c.conclude.new.client) c.self.view_is
    (subst (λ (x : Talk). Goes (MakesOne what) [] t c.args.client.now x c.conclude.new.client) (sym same)
    (ended_goes c.law_answers_are_in_order.ensures.order t c.args.client.now c.conclude.new.client what (ap (λ (x : Talk). x.asked) c.self.view_is ∙ c.requires) c.in_ok-exchanged.ensures.ok.1))
