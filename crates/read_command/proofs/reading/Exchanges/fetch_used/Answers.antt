use Rattle.tiff_dir.specs.Query.{cost}
use Rattle.read_command.proofs.ServesLemmas.{near, serves_on}
use Rattle.read_command.proofs.reading.Exchanges.fetch_used.Goals as goal

-- after the first exchange the source still serves the file, and enough exchanges are left
pub returns-clause-reports : goal.returns-clause-reports
returns-clause-reports g c = λ once p serves lost within.
    c.in_ok-fetch_asked.ensures.reports once p (serves_on _ _ _ _ c.args.client.now c.begin.new.client p serves c.begin.ensures.reads (c.begin.ensures.goes_on once)) lost
    (λ q for. near _ _ _ (cost p.file q) c.begin.ensures.once (within q for))
