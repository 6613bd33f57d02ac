use Rattle.server_sockets.proofs.SlotLemmas.{same_on, start_fewer, start_more}
use Rattle.server_sockets.proofs.serving.Serving.accept_next.Goals as goal

pub returns-in_err-welcome-in-Ok-clause-newcomers : goal.returns-in_err-welcome-in-Ok-clause-newcomers
returns-in_err-welcome-in-Ok-clause-newcomers c =
    start_more c.args.now c.args.self.now c.has_slot.new.self c.welcome.new.self c.has_slot.ensures.same c.welcome.ensures.kept c.welcome.ensures.newcomer

pub returns-in_ok-welcome-in-Ok-clause-newcomers : goal.returns-in_ok-welcome-in-Ok-clause-newcomers
returns-in_ok-welcome-in-Ok-clause-newcomers c =
    start_more c.args.now c.args.self.now c.has_slot.new.self c.welcome.new.self c.has_slot.ensures.same c.welcome.ensures.kept c.welcome.ensures.newcomer

pub returns-in-Err-clause-newcomers : goal.returns-in-Err-clause-newcomers
returns-in-Err-clause-newcomers c =
    start_fewer c.args.now c.args.self.now c.may_try_again.new.self
    (same_on c.args.self.now c.has_slot.new.self c.may_try_again.new.self c.has_slot.ensures.same c.may_try_again.ensures.same)
