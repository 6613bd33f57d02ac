use Rattle.cog_reader.proofs.EndLemmas.{answered_comes, unasked_comes}
use Rattle.cog_reader.proofs.laws.law_nothing_comes.Goals as goal

pub returns : goal.returns
returns c = record { unasked = unasked_comes; answered = answered_comes }
