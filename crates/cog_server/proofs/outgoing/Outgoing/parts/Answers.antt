use Rattle.std.proofs.Common.{ℕ, List, ◌++◌, drop, ap, ◌∙◌, arith}
use Rattle.cog_server.proofs.OutgoingLemmas.{shown_parts}
use Rattle.cog_server.proofs.outgoing.Outgoing.parts.Goals as goal

pub returns : goal.returns
returns c =
    let o = c.args.self.now in
    shown_parts c.deref.result.now c.body-body.result.now c.min.result c.min-2.result o.sent c.saturating_sub-skipped.result
    (omega arith) (omega arith) (omega arith)
    ∙ ap (λ (xs : List ℕ). drop o.sent (xs ++ c.body-body.result.now)) c.deref.ensures.value
    ∙ ap (λ (xs : List ℕ). drop o.sent (o.head.items ++ xs)) c.body-body.ensures
