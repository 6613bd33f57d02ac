use Rattle.std.proofs.Common.{sym, ◌∙◌}
use Rattle.cog_client.proofs.url.is_plain_name.Goals as goal

pub returns-clause-target : goal.returns-clause-target
returns-clause-target c = λ yes. c.law_parts_are_read.ensures.requests.name c.args.name.now (sym c.is_name.ensures ∙ yes)
