use Rattle.cog_server.specs.Service.{service_of}
use Rattle.server_sockets.proofs.GoingLemmas.{all_on, answered_on, read_on}
use Rattle.server_sockets.proofs.turn.step.Goals as goal

pub returns-clause-went : goal.returns-clause-went
returns-clause-went g c =
    let before = c.args.connections.now.table.entries in
    let between = c.answer.new.connections.table.entries in
    let after = c.read_some.new.connections.table.entries in
    all_on (service_of c.args.service.now) c.args.bounds.now before between after
    (answered_on (service_of c.args.service.now) c.args.bounds.now c.args.socket.now.number before between
    c.in_ok-status.field-0 c.in_ok-status.ensures.ok)
    (read_on (service_of c.args.service.now) c.args.bounds.now c.args.socket.now.number c.in_ok-count.count c.read_some.new.buffer between after
    c.in_ok-count.ensures.came c.in_ok-count.ensures.within c.in_ok-count.ensures.room)
