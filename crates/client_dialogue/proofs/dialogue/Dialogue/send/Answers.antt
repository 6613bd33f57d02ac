use Rattle.std.proofs.Common.{[], sym, subst}
use Rattle.client_dialogue.specs.History.{Talk}
use Rattle.client_dialogue.specs.Goes.{Fails, Goes, KeepsPlan, KeepsWaits, Stays}
use Rattle.client_dialogue.proofs.ExchangeLemmas.{put_fails, put_goes}
use Rattle.client_dialogue.proofs.HistoryLemmas.{then_goes}
use Rattle.client_dialogue.proofs.PlanLemmas.{begins_then}
use Rattle.client_dialogue.proofs.Results.{on_err}
use Rattle.client_dialogue.proofs.dialogue.Dialogue.send.Goals as goal

pub returns-in_err-put-clause-err : goal.returns-in_err-put-clause-err
returns-in_err-put-clause-err c = on_err c.from_residual.result _ (λ before asks.
    subst (λ (x : Talk). Goes Fails [] c.args.self.now before x c.args.client.now) (sym c.in_err-put.ensures.err)
    (put_fails c.law_answers_begin_anywhere.ensures c.args.self.now before c.args.client.now c.args.text.now c.requires.idle c.requires.some asks))

pub returns-in_err-send_early-clause-err : goal.returns-in_err-send_early-clause-err
returns-in_err-send_early-clause-err c = on_err c.from_residual-in_err-send_early.result _ (λ before asks.
    then_goes Fails [] c.args.self.now before c.put.new.self c.args.client.now c.send_early.new.self
    (subst (λ (x : Talk). Goes Stays [] c.args.self.now before x c.args.client.now) (sym c.in_ok-put.ensures.ok)
    (put_goes c.law_answers_begin_anywhere.ensures c.args.self.now before c.args.client.now c.args.text.now c.requires.idle c.requires.some asks))
    c.in_err-send_early.ensures.err)

pub returns-clause-ok : goal.returns-clause-ok
returns-clause-ok c = λ before asks.
    then_goes Stays [] c.args.self.now before c.put.new.self c.args.client.now c.send_early.new.self
    (subst (λ (x : Talk). Goes Stays [] c.args.self.now before x c.args.client.now) (sym c.in_ok-put.ensures.ok)
    (put_goes c.law_answers_begin_anywhere.ensures c.args.self.now before c.args.client.now c.args.text.now c.requires.idle c.requires.some asks))
    c.in_ok-send_early.ensures.ok

pub returns-clause-begins : goal.returns-clause-begins
returns-clause-begins c =
    begins_then c.args.text.now c.args.self.now c.send_early.new.self
    (subst (λ (x : Talk). KeepsWaits x.status c.send_early.new.self.status) c.in_ok-put.ensures.ok c.in_ok-send_early.ensures.waits)
    (subst (λ (x : Talk). KeepsPlan x c.send_early.new.self) c.in_ok-put.ensures.ok c.in_ok-send_early.ensures.plan)
