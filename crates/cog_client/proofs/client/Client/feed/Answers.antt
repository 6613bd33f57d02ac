use Rattle.std.proofs.Common.{ℕ, ◌-◌, List, ◌++◌, length, take, drop, sym, subst}
use Rattle.cog_client.specs.Client.{ClientState}
use Rattle.cog_client.specs.FedClient.{Fed, FedBefore}
use Rattle.cog_client.specs.Keeps.{StopsDelivery}
use Rattle.cog_client.proofs.PartialAnswerLemmas.{sliced, then_err, then_ok}
use Rattle.cog_client.proofs.client.Client.feed.Goals as goal

pub returns-clause-ok : goal.returns-clause-ok
returns-clause-ok c =
    let head = c.feed_head-from in
    then_ok c.feed_body-fed.result (λ (fed : (s : ClientState) (p : List ℕ) → FedBefore s p (take (length c.args.piece.now - head.result) (drop head.result c.args.piece.now)) head.new.self → Fed s p c.feed_body-fed.new.self).
    λ (s : ClientState) (p : List ℕ) before.
    fed s (p ++ c.args.piece.now) (subst (λ (xs : List ℕ). FedBefore s (p ++ c.args.piece.now) xs head.new.self) (sym (sliced head.result c.args.piece.now)) (c.feed_head-from.ensures.before s p before))) c.feed_body-fed.ensures.ok

pub returns-clause-err : goal.returns-clause-err
returns-clause-err c =
    let head = c.feed_head-from in
    then_err c.feed_body-fed.result (λ (stops : (s : ClientState) (p : List ℕ) → FedBefore s p (take (length c.args.piece.now - head.result) (drop head.result c.args.piece.now)) head.new.self → StopsDelivery s p c.feed_body-fed.new.self).
    λ (s : ClientState) (p : List ℕ) before.
    stops s (p ++ c.args.piece.now) (subst (λ (xs : List ℕ). FedBefore s (p ++ c.args.piece.now) xs head.new.self) (sym (sliced head.result c.args.piece.now)) (c.feed_head-from.ensures.before s p before))) c.feed_body-fed.ensures.err
