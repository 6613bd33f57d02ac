use Rattle.cog_client.proofs.ProgressLemmas.{agreement_seen}
use Rattle.cog_client.proofs.laws.law_agreement_is_seen.Goals as goal

pub returns : goal.returns
returns c = agreement_seen c.law_lengths_are_known.ensures
