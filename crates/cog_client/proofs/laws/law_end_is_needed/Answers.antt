use Rattle.cog_client.proofs.ClientLemmas.{comes}
use Rattle.cog_client.proofs.laws.law_end_is_needed.Goals as goal

pub returns : goal.returns
returns c = comes c.law_end_is_wanted.ensures c.law_nothing_comes.ensures.unasked
