use Rattle.std.proofs.Common.{◌≡◌, [], false, None, ap, inl, refl, sym, subst, ◌∙◌}
use Rattle.client_connection.specs.Status.{Status, after_gone, is_again}
use Rattle.client_dialogue.specs.History.{Talk}
use Rattle.client_dialogue.specs.Goes.{Fails, Goes, MakesNone, MakesOne}
use Rattle.client_dialogue.proofs.ExchangeLemmas.{head_step, lost_goes, stopped_goes}
use Rattle.client_dialogue.proofs.HistoryLemmas.{again_goes, none_goes}
use Rattle.client_dialogue.proofs.Results.{on_err, on_err_by}
use Rattle.client_dialogue.proofs.StatusLemmas.{gone_head, none_if, same_head}
use Rattle.client_dialogue.specs.contracts.dialogue.Dialogue.{the_view}
use Rattle.client_dialogue.proofs.dialogue.Dialogue.lose.Goals as goal

pub returns-then-gone-clause-goes : goal.returns-then-gone-clause-goes
returns-then-gone-clause-goes c =
    let t : Talk = the_view c.self.inside in
    let d = c.args.client.now in
    subst (λ (x : Talk). Goes MakesNone [] x d (record t { status = c.gone.new.self }) d) c.self.view_is
    (subst (λ (s : Status). Goes MakesNone [] t d (record t { status = s }) d) (sym c.gone.ensures.after)
    (none_goes [] t d (record t { status = after_gone t.status }) d
    (again_goes t d (ap (λ (x : Talk). x.asked) c.self.view_is ∙ c.requires) (sym c.gone.ensures.again ∙ c.if-gone.true))))

pub returns-then-not-begun-clause-goes : goal.returns-then-not-begun-clause-goes
returns-then-not-begun-clause-goes c =
    let t : Talk = the_view c.self.inside in
    head_step c.law_answers_are_in_order.ensures.order c.conclude_head.result t c.args.self.now c.args.client.now c.gone.new.self c.conclude_head.new.self c.conclude_head.new.client c.self.view_is
    (ap (λ (x : Talk). x.asked) c.self.view_is ∙ c.requires) c.gone.ensures.after c.conclude_head.ensures.ok

pub returns-then-not-begun-clause-err : goal.returns-then-not-begun-clause-err
returns-then-not-begun-clause-err c =
    let t : Talk = the_view c.self.inside in
    on_err_by c.conclude_head.result _ _ (λ stops.
    subst (λ (x : Talk). Goes Fails [] x c.args.client.now c.conclude_head.new.self c.conclude_head.new.client) c.self.view_is
    (subst (λ (x : Talk). Goes Fails [] t c.args.client.now x c.conclude_head.new.client) (sym stops.0)
    (stopped_goes c.gone.new.self.head t c.args.client.now c.conclude_head.new.client (ap (λ (x : Talk). x.asked) c.self.view_is ∙ c.requires) stops.1)))
    c.conclude_head.ensures.err

pub returns-in_err-exchanged-clause-err : goal.returns-in_err-exchanged-clause-err
returns-in_err-exchanged-clause-err c =
    let t : Talk = the_view c.self.inside in
    on_err c.from_residual.result _
    (subst (λ (x : Talk). Goes Fails [] x c.args.client.now c.conclude.new.self c.conclude.new.client) c.self.view_is
    (subst (λ (x : Talk). Goes Fails [] t c.args.client.now x c.conclude.new.client) (sym c.in_err-exchanged.ensures.err.0)
    (stopped_goes [] t c.args.client.now c.conclude.new.client (ap (λ (x : Talk). x.asked) c.self.view_is ∙ c.requires) c.in_err-exchanged.ensures.err.1)))

pub returns-clause-goes : goal.returns-clause-goes
returns-clause-goes c =
    let t : Talk = the_view c.self.inside in
    let what = c.in_ok-exchanged.exchanged.delivered in
    let same = c.in_ok-exchanged.ensures.ok.0 ∙ ap (λ (s : Status). record t { status = s; asked = false }) c.gone.ensures.after in
    subst (λ (x : Talk). Goes (MakesOne what) [] x c.args.client.now c.conclude.new.self c.conclude.new.client) c.self.view_is
    (subst (λ (x : Talk). Goes (MakesOne what) [] t c.args.client.now x c.conclude.new.client) (sym same)
    (lost_goes c.law_answers_are_in_order.ensures.order [] t c.args.client.now c.conclude.new.client what (ap (λ (x : Talk). x.asked) c.self.view_is ∙ c.requires) (inl refl) c.in_ok-exchanged.ensures.ok.1))

pub returns-then-not-begun-clause-status : goal.returns-then-not-begun-clause-status
returns-then-not-begun-clause-status c =
    let s = c.self.inside.connection in
    let none : s.left ≡ None = sym c.left.ensures.is ∙ none_if c.left.result (sym c.is_some-begun.ensures ∙ c.if-not-begun.true) in
    let other : is_again s ≡ false = sym c.gone.ensures.again ∙ c.if-gone.false in
    same_head c.conclude_head.result c.gone.new.self.head c.args.self.now.status.head
    (ap (λ (x : Status). x.head) c.gone.ensures.after ∙ gone_head s none other ∙ ap (λ (x : Talk). x.status.head) c.self.view_is)
    c.conclude_head.ensures.status
