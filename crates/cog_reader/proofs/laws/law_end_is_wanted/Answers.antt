use Rattle.cog_reader.proofs.EndLemmas.{wanted_end}
use Rattle.cog_reader.proofs.laws.law_end_is_wanted.Goals as goal

pub returns : goal.returns
returns c r f agrees = wanted_end r f agrees (λ told ended. c.law_what_comes.ensures.over r.walk f told ended) (c.law_what_comes.ensures.end r.walk f)
