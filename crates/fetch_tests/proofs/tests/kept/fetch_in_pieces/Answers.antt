use Rattle.std.proofs.Common.{◌≤◌, arith}
use Rattle.cog_client.specs.Progress.{answer_room}
use Rattle.cog_fetch.specs.declared.taking.TheConstants.{ANSWER_LIMIT}
use Rattle.transports.specs.Transports.{served_name, served_state, source_of}
use Rattle.fetch_tests.proofs.tests.kept.fetch_in_pieces.Goals as goal

pub returns : goal.returns
returns c = λ book p q before distinct among named agrees opens has kept enough.
    let source = source_of c.args.pieces.now in
    let limit = c.law_answer_limit_is.ensures in
    let room : answer_room ≤ ANSWER_LIMIT = omega (arith, limit) in
    c.fetch_pieces.ensures.reports book p q before distinct among named agrees (p, has, among) opens
    (c.law_servers_in_memory_serve.ensures.fronts (served_state source).catalogue (served_name source) p ANSWER_LIMIT room has) kept enough
