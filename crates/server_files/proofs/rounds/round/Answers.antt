use Rattle.std.proofs.Common.{subst}
use Rattle.cog_server.specs.Additions.{ServiceState}
use Rattle.cog_server.specs.Service.{added_of}
use Rattle.server_sockets.specs.Going.{AllWentOn}
use Rattle.server_sockets.specs.Slots.{slots_of}
use Rattle.server_files.proofs.RoundLemmas.{went_or_started}
use Rattle.server_files.proofs.rounds.round.Goals as goal

pub returns-clause-went : goal.returns-clause-went
returns-clause-went g c =
    let now = c.moment-now.result in (
      now,
      went_or_started (record { catalogue = c.args.server.now.catalogue; added = added_of c.args.additions }) now c.args.serving.now c.turns.new.self
          c.accept.new.self
          (subst (λ (s : ServiceState). AllWentOn s now (slots_of c.args.serving.now) (slots_of c.turns.new.self)) c.new-service.ensures c.turns.ensures.went)
          c.accept.ensures.newcomers,
    )
