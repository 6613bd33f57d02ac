use Rattle.std.proofs.Common.{length, take}
use Rattle.client_dialogue.specs.Goes.{rounds_of}
use Rattle.client_dialogue.proofs.HistoryLemmas.{dropped_goes}
use Rattle.client_dialogue.proofs.dialogue.Dialogue.look.Goals as goal

pub returns-clause-goes : goal.returns-clause-goes
returns-clause-goes c =
    dropped_goes (rounds_of c.in_ok-step.step) (take (length c.args.bytes.now) c.args.bytes.now) c.args.self.now c.args.client.now c.lose.new.self c.lose.new.client
    c.lose.ensures.over c.in_ok-step.ensures.goes
