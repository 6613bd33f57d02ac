use Rattle.std.proofs.Common.{◌≡◌, ◌++◌, ℕ, List, refl, ap, sym, subst, ◌∙◌}
use Rattle.cog_client.specs.FedClient.{Fed}
use Rattle.cog_client.specs.Keeps.{StopsDelivery}
use Rattle.client_dialogue.specs.History.{Talk}
use Rattle.client_dialogue.proofs.Results.{err_by, ok_by}
use Rattle.client_dialogue.proofs.dialogue.Dialogue.feed_head.Goals as goal

pub returns-then-is_err-clause-err : goal.returns-then-is_err-clause-err
returns-then-is_err-clause-err c =
    let stops = err_by c.feed.result _ (sym c.is_err.ensures.value ∙ c.if-is_err.true) c.feed.ensures.err in
    let head : c.head.result.now ≡ c.args.self.now.status.head = c.head.ensures.head ∙ ap (λ (t : Talk). t.status.head) c.self.view_is in
    (c.give_up.ensures, λ s p fed. subst (λ (xs : List ℕ). StopsDelivery s (p ++ xs) c.feed.new.self) head (stops s p fed))

pub returns-clause-ok : goal.returns-clause-ok
returns-clause-ok c =
    let feeds = ok_by c.feed.result _ (sym c.is_err.ensures.value ∙ c.if-is_err.false) c.feed.ensures.ok in
    let head : c.head.result.now ≡ c.args.self.now.status.head = c.head.ensures.head ∙ ap (λ (t : Talk). t.status.head) c.self.view_is in
    (refl, λ s p fed. subst (λ (xs : List ℕ). Fed s (p ++ xs) c.feed.new.self) head (feeds s p fed))
