use Rattle.std.proofs.Common.{subst}
use Rattle.std.specs.Prelude.{OnOk}
use Rattle.cog_client.specs.Transport.{IsTrueToAll}
use Rattle.read_progress.proofs.noted.NotedPieces.start.Goals as goal

pub returns-clause-shows : goal.returns-clause-shows
returns-clause-shows g c =
    subst (λ s. OnOk c.start-sent.result (IsTrueToAll (g.P.Pieces.speaks_for s) (g.P.Pieces.rest c.start-sent.new.self))) c.note_request.ensures.source c.start-sent.ensures.shows
