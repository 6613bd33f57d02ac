use Rattle.std.proofs.Common.{sym, ◌∙◌}
use Rattle.cog_client.proofs.url.is_plain_host.Goals as goal

pub returns-clause-written : goal.returns-clause-written
returns-clause-written c = λ yes. c.law_parts_are_read.ensures.requests.host c.args.host.now (sym c.is_host.ensures ∙ yes)
