use Rattle.std.proofs.Common.{sym, ◌∙◌}
use Rattle.std.proofs.lemmas.Bool.{false≢true}
use Rattle.cog_client.proofs.url.is_url_host.Goals as goal

pub returns-clause-yes : goal.returns-clause-yes
returns-clause-yes c = c.is_authority.ensures.0

pub returns-clause-no : goal.returns-clause-no
returns-clause-no c = λ no is. false≢true (sym no ∙ c.is_authority.ensures.1 is)

pub returns-clause-written : goal.returns-clause-written
returns-clause-written c = λ yes. (c.is_authority.ensures.0 yes).0
