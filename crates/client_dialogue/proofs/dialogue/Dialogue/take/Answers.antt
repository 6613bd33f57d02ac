use Rattle.std.specs.Prelude.{◌≡◌, ◌-◌, IfSome, IsSome, max, min}
use Rattle.std.proofs.Common.{◌<◌, ◌++◌, ℕ, List, [], inr, false, length, length-take, take, ap, arith, sym, subst, ◌∙◌}
use Rattle.std.proofs.lemmas.List.{take-take}
use Rattle.client_connection.specs.Status.{Status, Takes}
use Rattle.client_dialogue.specs.History.{Talk}
use Rattle.client_dialogue.specs.Goes.{Fails, Goes, HasStatusOf, KeepsPlan, rounds_of}
use Rattle.client_dialogue.proofs.ExchangeLemmas.{fed_goes, halt_goes}
use Rattle.client_dialogue.proofs.HistoryLemmas.{let_go_goes}
use Rattle.client_dialogue.proofs.PlanLemmas.{fed_plan}
use Rattle.client_dialogue.proofs.ReadLemmas.{fed_body, fed_useful, takes_body}
use Rattle.client_dialogue.specs.declared.step.Step.TheVariants.{More}
use Rattle.client_dialogue.proofs.Results.{on_err}
use Rattle.client_dialogue.proofs.StatusLemmas.{fed_status}
use Rattle.client_dialogue.specs.contracts.dialogue.Dialogue.{the_view}
use Rattle.client_dialogue.proofs.dialogue.Dialogue.take.Goals as goal

pub returns-in_default-clause-err : goal.returns-in_default-clause-err
returns-in_default-clause-err c =
    let t : Talk = the_view c.self.inside in
    let d = c.args.client.now in
    subst (λ (x : Talk). Goes Fails [] x d (record t { status = c.came.new.self; asked = false }) d) c.self.view_is
    (subst (λ (s : Status). Goes Fails [] t d (record t { status = s; asked = false }) d) (sym c.in_default.ensures.err)
    (let_go_goes t d (ap (λ (x : Talk). x.asked) c.self.view_is ∙ c.requires.busy)))

pub returns-in_err-step-clause-err : goal.returns-in_err-step-clause-err
returns-in_err-step-clause-err c =
    let t : Talk = the_view c.self.inside in
    on_err c.from_residual.result _
    (subst (λ (x : Talk). Goes Fails [] x c.args.client.now c.feed_part.new.self c.feed_part.new.client) c.self.view_is
    (halt_goes c.in-Ok.taken.part _ t c.args.client.now c.came.new.self c.feed_part.new.self c.feed_part.new.client
    (ap (λ (x : Talk). x.asked) c.self.view_is ∙ c.requires.busy) c.in_err-step.ensures.err))

pub returns-clause-goes : goal.returns-clause-goes
returns-clause-goes c =
    let t : Talk = the_view c.self.inside in
    let n = c.in-Ok.taken.count in
    subst (λ (x : Talk). Goes (rounds_of c.in_ok-step.step) (take n c.args.bytes.now) x c.args.client.now c.feed_part.new.self c.feed_part.new.client) c.self.view_is
    (fed_goes c.law_answers_are_in_order.ensures.order c.in-Ok.taken.part (take n c.args.bytes.now) c.in_ok-step.step t c.args.client.now c.came.new.self
    c.feed_part.new.self c.feed_part.new.client
    (ap (λ (x : Talk). x.asked) c.self.view_is ∙ c.requires.busy) (ap (λ (x : Talk). x.status.is_open) c.self.view_is ∙ c.requires.opens)
    (subst (λ (xs : List ℕ). Takes c.in-Ok.taken.part xs c.self.inside.connection c.came.new.self)
    (take-take n c.most-most.result c.args.bytes.now (omega (arith, c.in-Ok.ensures.few, length-take c.most-most.result c.args.bytes.now)))
    c.in-Ok.ensures.takes)
    c.in-Ok.ensures.own c.in_ok-step.ensures.ok)

pub returns-clause-status : goal.returns-clause-status
returns-clause-status c = λ some.
    let s = c.self.inside.connection in
    let n = c.in-Ok.taken.count in
    let xs = take n c.args.bytes.now in
    inr (subst (λ (x : Talk). HasStatusOf (x.status.head ++ xs) c.in_ok-step.step) c.self.view_is
    (fed_status c.in-Ok.taken.part xs c.in_ok-step.step s c.came.new.self _ c.feed_part.new.self c.args.client.now c.feed_part.new.client
    (subst (λ (x : Talk). 0 < length x.status.out) (sym c.self.view_is) some)
    (subst (λ (ys : List ℕ). Takes c.in-Ok.taken.part ys s c.came.new.self)
    (take-take n c.most-most.result c.args.bytes.now (omega (arith, c.in-Ok.ensures.few, length-take c.most-most.result c.args.bytes.now)))
    c.in-Ok.ensures.takes)
    c.in_ok-step.ensures.ok c.in_ok-step.ensures.status))

pub returns-clause-plan : goal.returns-clause-plan
returns-clause-plan c =
    let t : Talk = the_view c.self.inside in
    subst (λ (x : Talk). KeepsPlan x c.feed_part.new.self) c.self.view_is
    (fed_plan c.in-Ok.taken.part (take c.in-Ok.taken.count c.args.bytes.now) c.in_ok-step.step (record t { status = c.came.new.self }) c.feed_part.new.self
    c.args.client.now c.feed_part.new.client c.in_ok-step.ensures.ok)

pub returns-clause-begins : goal.returns-clause-begins
returns-clause-begins c = λ none more some.
    let t : Talk = the_view c.self.inside in
    let n = c.in-Ok.taken.count in
    fed_useful c.in-Ok.taken.part (take n c.args.bytes.now) c.in_ok-step.step t c.came.new.self c.feed_part.new.self c.args.client.now
    c.feed_part.new.client
    (subst (λ (xs : List ℕ). Takes c.in-Ok.taken.part xs c.self.inside.connection c.came.new.self)
    (take-take n c.most-most.result c.args.bytes.now (omega (arith, c.in-Ok.ensures.few, length-take c.most-most.result c.args.bytes.now)))
    c.in-Ok.ensures.takes)
    c.in_ok-step.ensures.ok (ap (λ (x : Talk). x.status.left) c.self.view_is ∙ none) more some

pub returns-clause-body : goal.returns-clause-body
returns-clause-body c = λ some.
    let t : Talk = the_view c.self.inside in
    let n = c.in-Ok.taken.count in
    let bytes = c.args.bytes.now in
    let step = c.in_ok-step.step in
    let u = c.feed_part.new.self in
    let most = c.most-most.result in
    let few = c.in-Ok.ensures.few in
    subst (λ (x : Talk). IfSome x.status.left (λ left. (step ≡ More) × (n ≡ min left (min (max x.useful 1) (length bytes))) × (u.useful ≡ x.useful - n)))
    c.self.view_is
    (takes_body t.status.left c.in-Ok.taken.part t.status.out step n most t.useful u.useful (take most bytes) (take n bytes) bytes
    c.in-Ok.ensures.body
    (subst (λ (x : Talk). IsSome x.status.left → most ≡ min (max x.useful 1) (length bytes)) (sym c.self.view_is) c.most-most.ensures.body)
    (omega (arith, c.most-most.ensures.few, length-take most bytes))
    (λ body. fed_body c.in-Ok.taken.part (take n bytes) step (record t { status = c.came.new.self }) u c.args.client.now c.feed_part.new.client body
    c.in_ok-step.ensures.ok)
    (omega (arith, few, length-take n bytes, length-take most bytes))
    (subst (λ (x : Talk). 0 < length x.status.out) (sym c.self.view_is) some))
