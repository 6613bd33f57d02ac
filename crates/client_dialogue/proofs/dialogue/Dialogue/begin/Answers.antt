use Rattle.std.proofs.Common.{sym, subst}
use Rattle.client_dialogue.specs.History.{Talk}
use Rattle.client_dialogue.specs.Goes.{BeginsAnew}
use Rattle.client_dialogue.proofs.ExchangeLemmas.{begins_busy, begins_idle}
use Rattle.client_dialogue.specs.contracts.dialogue.Dialogue.{the_view}
use Rattle.client_dialogue.proofs.dialogue.Dialogue.begin.Goals as goal

pub returns-then-self-clause-begins : goal.returns-then-self-clause-begins
returns-then-self-clause-begins c =
    let t : Talk = the_view c.self.inside in
    subst (λ (x : Talk). BeginsAnew c.args.exchanges x c.give_up.new.self) c.self.view_is
    (subst (λ (x : Talk). BeginsAnew c.args.exchanges t x) (sym c.give_up.ensures) (begins_busy t c.args.exchanges))

pub returns-else-self-clause-begins : goal.returns-else-self-clause-begins
returns-else-self-clause-begins c =
    let t : Talk = the_view c.self.inside in
    subst (λ (x : Talk). BeginsAnew c.args.exchanges x (record t { exchanges = c.args.exchanges })) c.self.view_is
    (begins_idle t c.args.exchanges c.if-self.false)
