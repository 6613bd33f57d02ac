use Rattle.std.proofs.Common.{◌≡◌, Some, None, sym, ap, subst, ◌∙◌}
use Rattle.cog_client.specs.Client.{IsClient, ClientState, feed_of, report_of}
use Rattle.cog_client.specs.Keeps.{GoesOnKeeping}
use Rattle.cog_client.proofs.ClientLemmas.{concluded, known, known_is}
use Rattle.cog_client.proofs.client.Client.stand.Goals as goal

pub returns-in-Some-conclude-clause-goes : goal.returns-in-Some-conclude-clause-goes
unfolding report_of
returns-in-Some-conclude-clause-goes c =
    let i = c.self.inside in
    let q = c.in-Some.query in
    let s = c.in-Some-source.source in
    let x = c.in-Some-conclude.report in
    let silent : i.report ≡ None = subst (λ (k : ClientState). report_of k ≡ None) (sym c.self.view_is) c.requires in
    let is : known i.partial_answer i.how i.host.items i.name.items i.query i.asked i.source i.cache i.report ≡ known i.partial_answer i.how i.host.items i.name.items (Some q) i.asked (Some s) i.cache None =
    known_is i.partial_answer i.how i.host.items i.name.items i.query (Some q) i.asked i.source (Some s) i.cache i.report None c.in-Some.is c.in-Some-source.is silent in
    subst (λ k. GoesOnKeeping k (known i.partial_answer i.how i.host.items i.name.items i.query None (Some c.conclude.new.self) i.cache (Some x))) (sym is ∙ c.self.view_is)
    (subst (λ o. GoesOnKeeping (known i.partial_answer i.how i.host.items i.name.items (Some q) i.asked (Some s) i.cache None) (known i.partial_answer i.how i.host.items i.name.items o None (Some c.conclude.new.self) i.cache (Some x))) (sym c.in-Some.is)
    (concluded i.partial_answer i.how i.host.items i.name.items q i.asked s c.conclude.new.self i.cache x c.law_nothing_comes.ensures.unasked (subst IsClient is c.self.invariant) c.in-Some-conclude.ensures))

pub returns-in-Some-conclude-clause-feed : goal.returns-in-Some-conclude-clause-feed
unfolding feed_of
returns-in-Some-conclude-clause-feed c = ap (λ (k : ClientState). feed_of k) c.self.view_is
