use Rattle.std.proofs.Common.{sym, subst}
use Rattle.cog_client.specs.Client.{ClientState, how_of}
use Rattle.cog_client.specs.Keeps.{LooksAhead}
use Rattle.cog_client.proofs.RequestLemmas.{asks_like}
use Rattle.cog_client.proofs.client.Client.look_ahead.Goals as goal

pub returns : goal.returns
unfolding how_of
returns c =
    let n = c.args.blocks in
    subst (λ (m : ClientState). LooksAhead n c.args.self.now (record m { how = record (how_of m) { ahead = n } })) (sym c.self.view_is)
    (asks_like c.args.self.now (record (how_of c.args.self.now) { ahead = n }))
