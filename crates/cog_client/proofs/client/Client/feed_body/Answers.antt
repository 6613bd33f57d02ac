use Rattle.std.proofs.Common.{◌≡◌, ℕ, List, refl, sym, subst}
use Rattle.cog_client.specs.PartialAnswer.{StopsInBytes, TakesBytes}
use Rattle.cog_client.specs.Client.{ClientState, blocks_of, feed_of}
use Rattle.cog_client.specs.FedClient.{FedBefore}
use Rattle.cog_client.specs.AnswerPhase.{TakesNoBody}
use Rattle.cog_client.proofs.PartialAnswerLemmas.{then_err, then_ok}
use Rattle.cog_client.proofs.ClientLemmas.{known}
use Rattle.cog_client.proofs.FollowLemmas.{fed_on}
use Rattle.cog_client.proofs.StopLemmas.{fed_stops, stopped_sound}
use Rattle.cog_client.proofs.client.Client.feed_body.Goals as goal

pub returns-then-is_err-clause-err : goal.returns-then-is_err-clause-err
unfolding blocks_of feed_of
returns-then-is_err-clause-err c =
    let i = c.self.inside in
    let now = c.args.self.now in
    let bytes = c.args.bytes.now in
    let cache = c.take-taken.new.cache in
    let new = known c.pass.new.self i.how i.host.items i.name.items i.query i.asked i.source cache i.report in
    let same : new ≡ record now { cache = cache; feed = c.pass.new.self } = subst (λ (m : ClientState). new ≡ record m { cache = cache; feed = c.pass.new.self }) c.self.view_is refl in
    then_err c.take-taken.result (λ (stops : StopsInBytes i.partial_answer i.cache bytes cache). λ (s : ClientState) (p : List ℕ) (fed : FedBefore s p bytes now).
    fed_stops c.law_fronts_are_read.ensures.answers c.law_lengths_are_known.ensures c.law_stored_are_held.ensures.front c.law_parts_bring_blocks.ensures.beside s p bytes now new same (subst TakesNoBody (sym c.pass.ensures) tt)
    (stopped_sound i.partial_answer c.pass.new.self i.how i.host.items i.name.items i.query i.asked i.source i.cache cache i.report bytes c.self.invariant c.take-taken.ensures.capacity stops)
    (subst (λ (m : ClientState). StopsInBytes (feed_of m) (blocks_of m) bytes cache) c.self.view_is stops) fed) c.take-taken.ensures.err

pub returns-else-is_err-clause-ok : goal.returns-else-is_err-clause-ok
unfolding blocks_of feed_of
returns-else-is_err-clause-ok c =
    let i = c.self.inside in
    let now = c.args.self.now in
    let bytes = c.args.bytes.now in
    let cache = c.take-taken.new.cache in
    let kept = c.take-taken.new.self in
    let new = known kept i.how i.host.items i.name.items i.query i.asked i.source cache i.report in
    let same : new ≡ record now { cache = cache; feed = kept } = subst (λ (m : ClientState). new ≡ record m { cache = cache; feed = kept }) c.self.view_is refl in
    then_ok c.take-taken.result (λ (takes : TakesBytes i.partial_answer i.cache bytes kept cache). λ (s : ClientState) (p : List ℕ) (fed : FedBefore s p bytes now).
    fed_on s p bytes now new same (subst (λ (m : ClientState). TakesBytes (feed_of m) (blocks_of m) bytes kept cache) c.self.view_is takes) fed) c.take-taken.ensures.ok
