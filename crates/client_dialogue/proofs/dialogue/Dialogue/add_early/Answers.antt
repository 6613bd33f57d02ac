use Rattle.std.proofs.Common.{[], false, ap, sym, subst, ◌∙◌}
use Rattle.client_connection.specs.Status.{Status}
use Rattle.client_dialogue.specs.History.{Talk}
use Rattle.client_dialogue.specs.Goes.{Fails, Goes, Stays}
use Rattle.client_dialogue.proofs.HistoryLemmas.{early_goes, let_go_goes}
use Rattle.client_dialogue.proofs.Results.{err_by, ok_by}
use Rattle.client_dialogue.specs.contracts.dialogue.Dialogue.{the_view}
use Rattle.client_dialogue.proofs.dialogue.Dialogue.add_early.Goals as goal

pub returns-then-is_err-clause-err : goal.returns-then-is_err-clause-err
returns-then-is_err-clause-err c =
    let t : Talk = the_view c.self.inside in
    let d = c.args.client.now in
    let over = err_by c.send_early.result _ (sym c.is_err.ensures.value ∙ c.if-is_err.true) c.send_early.ensures.err in
    subst (λ (x : Talk). Goes Fails [] x d (record t { status = c.send_early.new.self; asked = false }) d) c.self.view_is
    (subst (λ (s : Status). Goes Fails [] t d (record t { status = s; asked = false }) d) (sym over)
    (let_go_goes t d (ap (λ (x : Talk). x.asked) c.self.view_is ∙ c.requires.busy)))

pub returns-clause-ok : goal.returns-clause-ok
returns-clause-ok c =
    let t : Talk = the_view c.self.inside in
    let d = c.args.client.now in
    let sent = ok_by c.send_early.result _ (sym c.is_err.ensures.value ∙ c.if-is_err.false) c.send_early.ensures.ok in
    subst (λ (x : Talk). Goes Stays [] x d (record t { status = c.send_early.new.self }) d) c.self.view_is
    (subst (λ (s : Status). Goes Stays [] t d (record t { status = s }) d) (sym sent)
    (early_goes t d c.args.text.now (ap (λ (x : Talk). x.asked) c.self.view_is ∙ c.requires.busy) (sym c.is_open.ensures.is ∙ c.if-not-is_open.false) c.requires.own))
