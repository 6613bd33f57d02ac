use Rattle.std.proofs.Common.{◌≡◌, ◌∙◌, subst, true}
use Rattle.server_connections.specs.Yielding.{is_overdue}
use Rattle.server_connections.specs.declared.timed.Timed.{Timed}
use Rattle.server_sockets.specs.Closings.{ChangesOnly, IsOverdueAt}
use Rattle.server_sockets.specs.Slots.{limits_of, slots_of}
use Rattle.server_sockets.specs.declared.serving.Limits.{Limits}
use Rattle.server_sockets.proofs.ClosingLemmas.{overdue_on}
use Rattle.server_sockets.proofs.SlotLemmas.{backlog_on, nobody_yet, same_on}
use Rattle.server_sockets.proofs.serving.Serving.free_old_files.Goals as goal

pub loop-preserved : goal.loop-preserved
loop-preserved c =
    let first = c.args.self.now in
    let before = c.loop.self in
    let after = c.free_one.new.self in
    let is = c.loop.invariant in
    let catalogue = c.args.server.now.catalogue in
    record {
      nobody = nobody_yet first before after is.nobody c.free_one.ensures.nobody;
      same = same_on first before after is.same c.free_one.ensures.same;
      backlog = backlog_on first before after is.backlog c.free_one.ensures.backlog;
      drains = c.free_one.ensures.drains ∙ is.drains;
      limits = c.free_one.ensures.limits ∙ is.limits;
      closes = overdue_on (λ (p : Timed). is_overdue catalogue c.args.now (limits_of first).patience p ≡ true)
          (slots_of first) (slots_of before) (slots_of after) is.closes
          (subst (λ (l : Limits). ChangesOnly (IsOverdueAt catalogue c.args.now l.patience (slots_of before)) (slots_of before) (slots_of after))
          is.limits c.free_one.ensures.closes);
    }
