use Rattle.server_sockets.specs.Slots.{slots_of}
use Rattle.server_sockets.proofs.ClosingLemmas.{others_on, tries_one}
use Rattle.server_sockets.proofs.GoingLemmas.{all_on, all_still}
use Rattle.server_sockets.proofs.serving.Serving.try_socket.Goals as goal

-- its socket was tried, and then it may have been closed
pub returns-else-is_err-clause-went : goal.returns-else-is_err-clause-went
returns-else-is_err-clause-went c = λ service.
    all_on service c.args.now (slots_of c.args.self.now) c.try_socket-turn.new.self.connections.table.entries (slots_of c.after.new.self)
    (c.try_socket-turn.ensures.went service)
    (all_still service c.args.now c.try_socket-turn.new.self.connections.table.entries (slots_of c.after.new.self) c.after.ensures.same)

pub returns-then-is_err-clause-alone : goal.returns-then-is_err-clause-alone
returns-then-is_err-clause-alone c =
    let n = c.in-Some.number in
    let first = slots_of c.args.self.now in
    let tried = c.try_socket-turn.new.self.connections.table.entries in
    let after = slots_of c.after.new.self in
    let others = others_on n first tried after c.try_socket-turn.ensures.kept.others c.after.ensures.others in
    tries_one c.args.now n c.args.self.now _ c.in-Some.ensures
    (others_on n first after c.close.new.self.connections.table.entries others c.close.ensures.others) c.after.ensures.drains_only

pub returns-else-is_err-clause-alone : goal.returns-else-is_err-clause-alone
returns-else-is_err-clause-alone c =
    let n = c.in-Some.number in
    let first = slots_of c.args.self.now in
    let tried = c.try_socket-turn.new.self.connections.table.entries in
    tries_one c.args.now n c.args.self.now c.after.new.self c.in-Some.ensures
    (others_on n first tried (slots_of c.after.new.self) c.try_socket-turn.ensures.kept.others c.after.ensures.others) c.after.ensures.drains_only
