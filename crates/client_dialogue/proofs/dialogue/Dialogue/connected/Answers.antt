use Rattle.std.proofs.Common.{[], true, false, ap, sym, subst, ◌∙◌}
use Rattle.client_connection.specs.Status.{Status, after_open}
use Rattle.client_dialogue.specs.History.{Talk}
use Rattle.client_dialogue.specs.Goes.{Fails, Goes, MakesNone}
use Rattle.client_dialogue.specs.Inside.{given_up}
use Rattle.client_dialogue.proofs.HistoryLemmas.{exposed, let_go_goes, none_goes, opened_goes}
use Rattle.client_dialogue.proofs.Results.{err_by, ok_by}
use Rattle.client_dialogue.specs.contracts.dialogue.Dialogue.{the_view}
use Rattle.client_dialogue.proofs.dialogue.Dialogue.connected.Goals as goal

pub returns-then-is_err-clause-err : goal.returns-then-is_err-clause-err
returns-then-is_err-clause-err c =
    let t : Talk = the_view c.self.inside in
    let d = c.args.client.now in
    let over = err_by c.opened.result _ (sym c.is_err.ensures.value ∙ c.if-is_err.true) c.opened.ensures.err in
    subst (λ (x : Talk). Goes Fails [] x d (record t { status = c.opened.new.self; asked = false; looks = true; early = false }) d) c.self.view_is
    (subst (λ (s : Status). Goes Fails [] t d (record t { status = s; asked = false; looks = true; early = false }) d) (sym over)
    (exposed Fails [] t d (given_up t) d true false t.useful (let_go_goes t d (ap (λ (x : Talk). x.asked) c.self.view_is ∙ c.requires))))

pub returns-clause-ok : goal.returns-clause-ok
returns-clause-ok c =
    let t : Talk = the_view c.self.inside in
    let d = c.args.client.now in
    let opened = ok_by c.opened.result _ (sym c.is_err.ensures.value ∙ c.if-is_err.false) c.opened.ensures.ok in
    let shut = sym c.is_open.ensures.is ∙ c.if-is_open.false in
    subst (λ (x : Talk). Goes MakesNone [] x d (record t { status = c.opened.new.self; looks = true; early = false }) d) c.self.view_is
    (subst (λ (s : Status). Goes MakesNone [] t d (record t { status = s; looks = true; early = false }) d) (sym opened)
    (exposed MakesNone [] t d (record t { status = after_open t.status }) d true false t.useful
    (none_goes [] t d (record t { status = after_open t.status }) d
    (opened_goes t d (ap (λ (x : Talk). x.asked) c.self.view_is ∙ c.requires) shut (c.is_open.ensures.none c.if-is_open.false)))))
