use Rattle.server_sockets.specs.Slots.{slots_of}
use Rattle.server_sockets.proofs.YieldLemmas.{taken_less}
use Rattle.server_sockets.proofs.serving.Serving.free_slot.Goals as goal

pub returns-in-Some-clause-taken : goal.returns-in-Some-clause-taken
returns-in-Some-clause-taken c = λ _.
    taken_less c.args.now c.args.self.now.limits.patience c.in-Some.number (slots_of c.args.self.now) c.close.new.self.connections.table.entries
    c.in-Some.ensures.found c.close.ensures.entries
