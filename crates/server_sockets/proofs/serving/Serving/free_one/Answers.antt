use Rattle.std.proofs.Common.{◌≡◌, true}
use Rattle.server_connections.specs.Yielding.{is_overdue}
use Rattle.server_connections.specs.declared.timed.Timed.{Timed}
use Rattle.server_sockets.specs.Closings.{IsOverdueAt}
use Rattle.server_sockets.specs.Slots.{limits_of, slots_of}
use Rattle.server_sockets.proofs.ClosingLemmas.{changes_one}
use Rattle.server_sockets.proofs.YieldLemmas.{found_less}
use Rattle.server_sockets.proofs.serving.Serving.free_one.Goals as goal

pub returns-in-Some-clause-taken : goal.returns-in-Some-clause-taken
returns-in-Some-clause-taken c = λ _.
    found_less (λ (p : Timed). is_overdue c.args.server.now.catalogue c.args.now c.args.self.now.limits.patience p ≡ true) c.in-Some.number
    (slots_of c.args.self.now) c.close.new.self.connections.table.entries c.in-Some.ensures.found c.close.ensures.entries

pub returns-in-Some-clause-closes : goal.returns-in-Some-clause-closes
returns-in-Some-clause-closes c =
    changes_one (IsOverdueAt c.args.server.now.catalogue c.args.now (limits_of c.args.self.now).patience (slots_of c.args.self.now)) c.in-Some.number
    (slots_of c.args.self.now) c.close.new.self.connections.table.entries c.close.ensures.others c.in-Some.ensures.found
