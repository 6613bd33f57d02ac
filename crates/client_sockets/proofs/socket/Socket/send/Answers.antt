use Rattle.client_sockets.proofs.AskLemmas.{ask_first}
use Rattle.client_sockets.proofs.socket.Socket.send.Goals as goal

pub returns-in-Ok-Sent-clause-asked : goal.returns-in-Ok-Sent-clause-asked
returns-in-Ok-Sent-clause-asked g c = ask_first c.args.request.now c.begin.new.self.connection c.ask.new.self c.in-Ok-Sent.ensures.ok
