use Rattle.transports.specs.Transports.{served_name, served_state}
use Rattle.fetch_tests.proofs.tests.kept.fetch_in_memory.Goals as goal

pub returns : goal.returns
returns c = λ book p q before distinct among named agrees opens has kept enough.
    c.fetch.ensures.reports book p q before distinct among named agrees opens
    (c.law_servers_in_memory_serve.ensures.whole (served_state c.args.transport.now).catalogue (served_name c.args.transport.now) p has) kept enough
