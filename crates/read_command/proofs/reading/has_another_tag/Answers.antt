use Rattle.std.proofs.Common.{Some, rules}
use Rattle.read_command.proofs.UsedLemmas.{other_tag}
use Rattle.read_command.proofs.reading.has_another_tag.Goals as goal

pub returns-in-Some-clause-tagged : goal.returns-in-Some-clause-tagged
returns-in-Some-clause-tagged c = λ book agrees other.
    other_tag c.args.client.now c.args.tag.now (Some c.in-Some.report.now) book c.in-Some.ensures agrees (search rules)
