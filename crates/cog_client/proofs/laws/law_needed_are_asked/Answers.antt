use Rattle.cog_client.proofs.ProgressLemmas.{needed_asked, one_asked}
use Rattle.cog_client.proofs.laws.law_needed_are_asked.Goals as goal

pub returns : goal.returns
returns c =
    record { needed = needed_asked c.law_end_is_needed.ensures; one = one_asked c.law_lengths_are_known.ensures c.law_looks_at_one_range.ensures c.law_end_is_needed.ensures }
