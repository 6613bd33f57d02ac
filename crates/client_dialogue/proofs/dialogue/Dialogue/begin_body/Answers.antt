use Rattle.std.proofs.Common.{◌≡◌, ℕ, List, Option, refl, ap, subst, ◌∙◌}
use Rattle.cog_client.specs.Client.{asked_of, tag_of}
use Rattle.extents.specs.declared.span.Span.{Span}
use Rattle.client_dialogue.specs.History.{Talk}
use Rattle.client_dialogue.specs.Useful.{IsUseful}
use Rattle.client_dialogue.proofs.Results.{on_err}
use Rattle.client_dialogue.proofs.dialogue.Dialogue.begin_body.Goals as goal

pub returns-in_err-feed_head-clause-err : goal.returns-in_err-feed_head-clause-err
returns-in_err-feed_head-clause-err c = on_err c.from_residual.result _ c.in_err-feed_head.ensures.err

pub returns-clause-ok : goal.returns-clause-ok
returns-clause-ok c =
    let count = c.useful_length-useful.result in
    let client = c.args.client.now in
    let head : c.head.result.now ≡ c.args.self.now.status.head = c.head.ensures.head ∙ ap (λ (t : Talk). t.status.head) c.self.view_is in (
      refl,
      (
        count,
        subst (λ (xs : List ℕ). IsUseful xs (asked_of client) (tag_of client) count) head
            (subst (λ (asked : Option Span). IsUseful c.head.result.now asked (tag_of client) count) c.asked.ensures
            (subst (λ (tag : Option (List ℕ)). IsUseful c.head.result.now c.asked.result tag count) c.tag.ensures.tag c.useful_length-useful.ensures)),
        ap (λ (t : Talk). record t { useful = count }) (c.self-2.view_is ∙ c.in_ok-feed_head.ensures.ok.0),
      ),
      c.in_ok-feed_head.ensures.ok.1,
    )
