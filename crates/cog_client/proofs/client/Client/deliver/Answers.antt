use Rattle.std.proofs.Common.{ℕ, List, []}
use Rattle.cog_client.specs.declared.delivered.Delivered.{Delivered}
use Rattle.cog_client.specs.Client.{ClientState}
use Rattle.cog_client.specs.FedClient.{Fed}
use Rattle.cog_client.specs.Keeps.{DeliversKeeping, StopsDelivery}
use Rattle.cog_client.proofs.PartialAnswerLemmas.{then_err, then_if_ok}
use Rattle.cog_client.proofs.GoingLemmas.{refused}
use Rattle.cog_client.proofs.client.Client.deliver.Goals as goal

pub returns-in_err-feed-clause-err : goal.returns-in_err-feed-clause-err
returns-in_err-feed-clause-err c =
    refused c.from_residual.result (StopsDelivery c.args.self.now c.args.answer.now c.feed.new.self) (c.in_err-feed.ensures.err c.args.self.now [] c.begin.ensures)

pub returns-clause-ok : goal.returns-clause-ok
returns-clause-ok c =
    then_if_ok c.end.result (λ (what : Delivered) (ends : (s : ClientState) (p : List ℕ) → Fed s p c.feed.new.self → DeliversKeeping s p what c.end.new.self).
    ends c.args.self.now c.args.answer.now (c.in_ok-feed.ensures.ok c.args.self.now [] c.begin.ensures)) c.end.ensures.ok

pub returns-clause-err : goal.returns-clause-err
returns-clause-err c =
    then_err c.end.result (λ (stops : (s : ClientState) (p : List ℕ) → Fed s p c.feed.new.self → StopsDelivery s p c.end.new.self).
    stops c.args.self.now c.args.answer.now (c.in_ok-feed.ensures.ok c.args.self.now [] c.begin.ensures)) c.end.ensures.err
