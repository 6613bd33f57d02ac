use Rattle.std.proofs.Common.{◌≡◌, Some, refl, subst}
use Rattle.cog_client.specs.PartialAnswer.{LooksOn}
use Rattle.cog_client.specs.Client.{ClientState, feed_of}
use Rattle.cog_client.proofs.ClientLemmas.{known}
use Rattle.cog_client.proofs.FollowLemmas.{looked_found}
use Rattle.cog_client.proofs.client.Client.feed_head.Goals as goal

pub returns-in-Some-clause-before : goal.returns-in-Some-clause-before
unfolding feed_of
returns-in-Some-clause-before c s p fed =
    let i = c.self.inside in
    let now = c.args.self.now in
    let bytes = c.args.piece.now in
    let mid = known c.look.new.self i.how i.host.items i.name.items i.query i.asked i.source i.cache i.report in
    let same : mid ≡ record now { feed = c.look.new.self } = subst (λ (m : ClientState). mid ≡ record m { feed = c.look.new.self }) c.self.view_is refl in
    let looks : LooksOn (feed_of now) bytes c.look.new.self (Some c.in-Some.found) =
    subst (λ (m : ClientState). LooksOn (feed_of m) bytes c.look.new.self (Some c.in-Some.found)) c.self.view_is c.in-Some.ensures in
    looked_found c.law_heads_grow.ensures s p bytes now c.follow.new.self c.in-Some.found mid same looks c.follow.ensures.fed fed
