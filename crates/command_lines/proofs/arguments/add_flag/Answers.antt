use Rattle.command_lines.proofs.ArgumentLemmas.{adds_rule}
use Rattle.command_lines.proofs.arguments.add_flag.Goals as goal

pub returns : goal.returns
returns c = adds_rule c.add.result _ _ _ _ c.add.ensures c.flag.ensures.rule c.flag.ensures.local
