use Rattle.std.proofs.Common.{arith}
use Rattle.cog_client.specs.Transport.{Anything, StopsFetching}
use Rattle.read_command.proofs.FetchLemmas.{asked_once, refused, some_fetched, stopped, taken_all}
use Rattle.read_command.proofs.ServesLemmas.{reported}
use Rattle.read_command.proofs.reading.Exchanges.fetch.Goals as goal

pub returns-then-left-eq0-clause-fetches : goal.returns-then-left-eq0-clause-fetches
returns-then-left-eq0-clause-fetches g c = asked_once _ c.args.client.now c.request.new.self c.in_ok-request.ensures.ok

pub returns-clause-fetches : goal.returns-clause-fetches
returns-clause-fetches g c =
    let new = c.fetch_pieces.follows.lender-at-none in
    some_fetched _ _ _ c.args.client.now new
    (taken_all c.fetch_pieces.result _ _ _ _ _ c.args.client.now new c.in_ok-fetch_pieces.was c.fetch_pieces.follows.holds-at-none.1)

pub returns-in_err-fetch_pieces-clause-stops : goal.returns-in_err-fetch_pieces-clause-stops
returns-in_err-fetch_pieces-clause-stops g c =
    let new = c.fetch_pieces.follows.lender-at-none in
    refused c.from_residual-in_err-fetch_pieces.result (StopsFetching Anything c.args.client.now new)
    (stopped c.fetch_pieces.result _ _ c.args.client.now new c.in_err-fetch_pieces.was c.fetch_pieces.follows.holds-at-none.2)

pub returns-clause-reports : goal.returns-clause-reports
returns-clause-reports g c = λ p q before serves opens lost within.
    reported c.fetch_pieces.result _ c.fetch_pieces.follows.lender-at-none _ _ c.in_ok-fetch_pieces.was c.fetch_pieces.follows.holds-at-none.1
    (c.fetch_pieces.ensures.reports serves.book p q before serves.reads.distinct serves.among (serves.reads.named p serves.among) serves.reads.agrees serves.reads.spoken
    opens serves.serves lost (omega arith))
