use Rattle.command_lines.proofs.ArgumentLemmas.{adds_rule}
use Rattle.command_lines.proofs.serve.add_valued.Goals as goal

pub returns : goal.returns
returns c = adds_rule c.add.result _ _ _ _ c.add.ensures c.valued.ensures.rule c.valued.ensures.local
