use Rattle.std.proofs.Common.{ℕ, List, Option, Some, sym, subst}
use Rattle.std.specs.Option.{option_map}
use Rattle.cog_client.specs.Keeps.{RequestsKeeping}
use Rattle.client_dialogue.proofs.ExchangeLemmas.{rests_goes, sent_step, unasked_goes}
use Rattle.client_dialogue.proofs.Results.{on_err, on_err_by}
use Rattle.client_dialogue.proofs.dialogue.Dialogue.ask.Goals as goal

pub returns-in_err-request-clause-err : goal.returns-in_err-request-clause-err
returns-in_err-request-clause-err c =
    on_err c.from_residual.result _ (unasked_goes c.args.self.now c.args.client.now c.request.new.self c.requires c.in_err-request.ensures.err)

pub returns-in-None-clause-goes : goal.returns-in-None-clause-goes
returns-in-None-clause-goes c =
    rests_goes c.args.self.now c.args.client.now c.request.new.self c.requires
    (subst (λ (o : Option _). RequestsKeeping c.args.client.now (option_map (λ v. v.items) o) c.request.new.self) c.in-None.is c.in_ok-request.ensures.ok)

pub returns-in-Some-clause-goes : goal.returns-in-Some-clause-goes
returns-in-Some-clause-goes c =
    let asks = subst (λ (xs : List ℕ). RequestsKeeping c.args.client.now (Some xs) c.request.new.self) (sym c.deref.ensures.value)
    (subst (λ (o : Option _). RequestsKeeping c.args.client.now (option_map (λ v. v.items) o) c.request.new.self) c.in-Some.is c.in_ok-request.ensures.ok) in
    sent_step c.send.result c.args.self.now c.args.client.now c.deref.result.now c.send.new.self c.request.new.self asks c.send.ensures.ok c.send.ensures.says

pub returns-in-Some-clause-err : goal.returns-in-Some-clause-err
returns-in-Some-clause-err c =
    let asks = subst (λ (xs : List ℕ). RequestsKeeping c.args.client.now (Some xs) c.request.new.self) (sym c.deref.ensures.value)
    (subst (λ (o : Option _). RequestsKeeping c.args.client.now (option_map (λ v. v.items) o) c.request.new.self) c.in-Some.is c.in_ok-request.ensures.ok) in
    on_err_by c.send.result _ _ (λ goes. goes c.args.client.now asks) c.send.ensures.err
