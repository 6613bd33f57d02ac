use Rattle.http_range.proofs.LengthLemmas.{requests_are_short}
use Rattle.http_range.proofs.laws.law_requests_are_short.Goals as goal

pub returns : goal.returns
returns c = requests_are_short
