use Rattle.std.proofs.Common.{[], ap, length, sym, ◌≤◌, ◌∙◌, subst}
use Rattle.client_dialogue.specs.History.{Talk}
use Rattle.client_dialogue.specs.Goes.{Goes, MakesNone}
use Rattle.client_dialogue.proofs.HistoryLemmas.{none_goes, wrote_goes}
use Rattle.client_dialogue.specs.contracts.dialogue.Dialogue.{the_view}
use Rattle.client_dialogue.proofs.dialogue.Dialogue.wrote.Goals as goal

pub returns-clause-goes : goal.returns-clause-goes
returns-clause-goes c =
    let t : Talk = the_view c.self.inside in
    let u : Talk = record t { status = c.wrote.new.self } in
    subst (λ (x : Talk). Goes MakesNone [] x c.args.client.now u c.args.client.now) c.self.view_is
    (subst (λ (x : Talk). Goes MakesNone [] t c.args.client.now x c.args.client.now)
    (ap (λ s. record t { status = s }) (sym c.wrote.ensures))
    (none_goes [] t c.args.client.now _ c.args.client.now
    (wrote_goes t c.args.client.now c.args.count (ap (λ (x : Talk). x.asked) c.self.view_is ∙ c.requires.busy)
    (ap (λ (x : Talk). x.status.is_open) c.self.view_is ∙ c.requires.opens)
    (subst (λ (x : Talk). c.args.count ≤ length x.status.waits) (sym c.self.view_is) c.requires.within))))
