use Rattle.std.proofs.Common.{refl}
use Rattle.clap.specs.Words.{found_of}
use Rattle.command_lines.proofs.LineLemmas.{word_value}
use Rattle.command_lines.proofs.read.value.Goals as goal

pub returns : goal.returns
returns c = word_value (found_of c.args.matches.now) c.args.name.now c.get_str.result _ c.unwrap_or.result c.get_str.ensures refl c.unwrap_or.ensures
