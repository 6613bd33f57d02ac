use Rattle.std.proofs.Common.{subst}
use Rattle.cog_client.specs.Transport.{IsTrueToAll}
use Rattle.transports.proofs.TransportLemmas.{shown_fate}
use Rattle.transports.proofs.scripted.ScriptedTransport.exchange.Goals as goal

pub returns-clause-shows : goal.returns-clause-shows
returns-clause-shows g c =
    let text = c.in_ok-answer.answer.items in
    let shows = subst (λ i. IsTrueToAll (g.T.Transport.speaks_for i) text) c.next_fate-fate.ensures c.in_ok-answer.ensures.shows in
    shown_fate c.arrived.result (λ x. x.items) (g.T.Transport.speaks_for c.args.self.now.inner) text c.arrived.ensures shows
