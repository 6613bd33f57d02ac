use Rattle.cog_client.proofs.TruthLemmas.{truth_is_told}
use Rattle.cog_client.proofs.laws.law_equal_reports_are_true.Goals as goal

pub returns : goal.returns
returns c = truth_is_told
