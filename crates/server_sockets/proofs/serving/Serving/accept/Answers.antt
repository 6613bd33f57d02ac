use Rattle.std.proofs.Common.{◌≡◌, subst, sym, ◌∙◌}
use Rattle.server_sockets.specs.Slots.{HasNoSlot}
use Rattle.server_sockets.proofs.serving.Serving.accept.Goals as goal

pub returns-clause-waits : goal.returns-clause-waits
returns-clause-waits c none =
    let back = c.loop.invariant.waits none in
    c.accept_next.ensures.waits (subst (λ s. HasNoSlot c.args.now s) (sym back) none) ∙ back
