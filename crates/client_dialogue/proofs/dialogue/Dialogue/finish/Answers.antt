use Rattle.std.proofs.Common.{[], sym, subst}
use Rattle.client_dialogue.specs.History.{Talk}
use Rattle.client_dialogue.specs.Goes.{Fails, Goes}
use Rattle.client_dialogue.specs.Inside.{HasGoneOn}
use Rattle.client_dialogue.proofs.ExchangeLemmas.{finish_goes, stopped_goes, used_step}
use Rattle.client_dialogue.proofs.Results.{on_err}
use Rattle.client_dialogue.proofs.dialogue.Dialogue.finish.Goals as goal

pub returns-in_err-exchanged-clause-err : goal.returns-in_err-exchanged-clause-err
returns-in_err-exchanged-clause-err c = on_err c.from_residual.result _
    (subst (λ (x : Talk). Goes Fails [] c.args.self.now c.args.client.now x c.conclude.new.client) (sym c.in_err-exchanged.ensures.err.0)
    (stopped_goes [] c.args.self.now c.args.client.now c.conclude.new.client c.requires.busy c.in_err-exchanged.ensures.err.1))

pub returns-clause-goes : goal.returns-clause-goes
returns-clause-goes c =
    finish_goes c.law_answers_are_in_order.ensures.order c.args.self.now c.args.client.now c.conclude.new.client c.let_go_on.new.self
    c.in_ok-exchanged.exchanged.delivered c.requires.busy c.requires.opens c.in_ok-exchanged.ensures.ok.1
    (subst (λ (x : Talk). HasGoneOn c.in_ok-exchanged.exchanged.delivered x c.let_go_on.new.self) c.in_ok-exchanged.ensures.ok.0 c.let_go_on.ensures)

pub returns-clause-keeps : goal.returns-clause-keeps
returns-clause-keeps c =
    used_step c.args.self.now c.let_go_on.new.self c.in_ok-exchanged.exchanged c.requires.opens
    (subst (λ (x : Talk). HasGoneOn c.in_ok-exchanged.exchanged.delivered x c.let_go_on.new.self) c.in_ok-exchanged.ensures.ok.0 c.let_go_on.ensures)
