use Rattle.std.proofs.Common.{arith, rules}
use Rattle.std.proofs.lemmas.Grind.{common_steps}
use Rattle.cog_client.proofs.client.Client.new.Goals as goal

pub returns-clause-starts : goal.returns-clause-starts
returns-clause-starts c = first_of (search rules, grind (arith, common_steps), cc)
