use Rattle.http_range.proofs.HonestLemmas.{answers_are_sent}
use Rattle.http_range.proofs.laws.law_answers_are_sent.Goals as goal

pub returns : goal.returns
returns c = answers_are_sent
