use Rattle.cog_client.proofs.AgreeLemmas.{fed_agrees}
use Rattle.cog_client.proofs.laws.law_fronts_keep_agreement.Goals as goal

pub returns : goal.returns
returns c = fed_agrees c.law_fronts_are_read.ensures.answers c.law_stored_are_held.ensures.front
