use Rattle.std.proofs.Common.{arith}
use Rattle.std.proofs.lemmas.Str.Pattern.{strip_prefix_char}
use Rattle.command_lines.proofs.urls.name_of.Goals as goal

pub returns : goal.returns
returns c = strip_prefix_char 47 c.args.path.now c.strip_prefix.result c.strip_prefix.ensures.cases (omega arith)
