use Rattle.std.proofs.Common.{ℕ, List, ◌++◌, false, refl, ap, append-nil, ◌∙◌, subst}
use Rattle.cog_client.specs.Keeps.{DeliversKeeping, StopsDelivery}
use Rattle.client_dialogue.specs.History.{Talk}
use Rattle.client_dialogue.specs.Inside.{given_up}
use Rattle.client_dialogue.proofs.Results.{on_err}
use Rattle.client_dialogue.proofs.dialogue.Dialogue.conclude_head.Goals as goal

pub returns-in_err-feed_head-clause-err : goal.returns-in_err-feed_head-clause-err
returns-in_err-feed_head-clause-err c = on_err c.from_residual.result _ c.in_err-feed_head.ensures.err

pub returns-in_err-exchanged-clause-err : goal.returns-in_err-exchanged-clause-err
returns-in_err-exchanged-clause-err c =
    let head = c.args.self.now.status.head in
    on_err c.from_residual-in_err-exchanged.result _ (
      c.in_err-exchanged.ensures.err.0 ∙ ap given_up c.in_ok-feed_head.ensures.ok.0,
      λ s p fed.
          subst (λ (xs : List ℕ). StopsDelivery s xs c.conclude.new.client) (append-nil (p ++ head))
          (c.in_err-exchanged.ensures.err.1 s (p ++ head) (c.in_ok-feed_head.ensures.ok.1 s p fed)),
    )

pub returns-clause-ok : goal.returns-clause-ok
returns-clause-ok c =
    let head = c.args.self.now.status.head in (
      c.in_ok-exchanged.exchanged,
      refl,
      c.in_ok-exchanged.ensures.ok.0 ∙ ap (λ (x : Talk). record x { asked = false }) c.in_ok-feed_head.ensures.ok.0,
      λ s p fed.
          subst (λ (xs : List ℕ). DeliversKeeping s xs c.in_ok-exchanged.exchanged.delivered c.conclude.new.client) (append-nil (p ++ head))
          (c.in_ok-exchanged.ensures.ok.1 s (p ++ head) (c.in_ok-feed_head.ensures.ok.1 s p fed)),
    )
