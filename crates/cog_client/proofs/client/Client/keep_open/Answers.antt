use Rattle.std.proofs.Common.{false, sym, subst}
use Rattle.cog_client.specs.Client.{ClientState, how_of}
use Rattle.cog_client.specs.Keeps.{KeepsOpen}
use Rattle.cog_client.proofs.RequestLemmas.{asks_like}
use Rattle.cog_client.proofs.client.Client.keep_open.Goals as goal

pub returns : goal.returns
unfolding how_of
returns c =
    subst (λ (m : ClientState). KeepsOpen c.args.self.now (record m { how = record (how_of m) { closes = false } })) (sym c.self.view_is)
    (asks_like c.args.self.now (record (how_of c.args.self.now) { closes = false }))
