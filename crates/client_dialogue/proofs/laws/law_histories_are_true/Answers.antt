use Rattle.client_dialogue.proofs.TruthLemmas.{histories_are_true, histories_begin}
use Rattle.client_dialogue.proofs.laws.law_histories_are_true.Goals as goal

pub returns-clause-begin : goal.returns-clause-begin
returns-clause-begin c = histories_begin

pub returns-clause-truth : goal.returns-clause-truth
returns-clause-truth c = histories_are_true c.law_fronts_keep_agreement.ensures
