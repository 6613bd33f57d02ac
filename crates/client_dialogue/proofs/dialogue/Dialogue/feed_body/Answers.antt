use Rattle.std.proofs.Common.{ℕ, ◌-◌, length, refl, ap, sym, ◌∙◌}
use Rattle.client_dialogue.specs.History.{Talk}
use Rattle.client_dialogue.specs.contracts.dialogue.Dialogue.{the_view}
use Rattle.client_dialogue.proofs.Results.{err_by, ok_by}
use Rattle.client_dialogue.proofs.dialogue.Dialogue.feed_body.Goals as goal

pub returns-then-is_err-clause-err : goal.returns-then-is_err-clause-err
returns-then-is_err-clause-err c =
    let stops = err_by c.feed.result _ (sym c.is_err.ensures.value ∙ c.if-is_err.true) c.feed.ensures.err in
    (c.give_up.ensures, stops)

pub returns-clause-ok : goal.returns-clause-ok
returns-clause-ok c =
    let feeds = ok_by c.feed.result _ (sym c.is_err.ensures.value ∙ c.if-is_err.false) c.feed.ensures.ok in
    let left = ap (λ (n : ℕ). record (the_view c.self.inside) { useful = n }) c.saturating_sub-self-inside.ensures in
    (refl, left ∙ ap (λ (t : Talk). record t { useful = t.useful - length c.args.bytes.now }) c.self.view_is, feeds)
