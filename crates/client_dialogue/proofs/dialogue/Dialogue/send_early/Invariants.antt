use Rattle.std.proofs.Common.{◌≡◌, true, []}
use Rattle.client_dialogue.specs.Goes.{Goes, KeepsPlan, KeepsWaits, Stays}
use Rattle.client_dialogue.proofs.dialogue.Dialogue.send_early.Given as goal

abbrev pub invariant-loop-request : goal.invariant-loop-request
invariant-loop-request l = Goes Stays [] l.fn.self l.client l.self l.client × (l.self.asked ≡ true) × KeepsWaits l.fn.self.status l.self.status
    × KeepsPlan l.fn.self l.self
