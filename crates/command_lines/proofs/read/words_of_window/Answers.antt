use Rattle.std.proofs.Common.{codes}
use Rattle.clap.specs.Words.{found_of}
use Rattle.command_lines.proofs.LineLemmas.{option_row}
use Rattle.command_lines.proofs.read.words_of_window.Goals as goal

pub returns : goal.returns
returns c =
    let found = found_of c.args.matches.now in
    record {
      x = c.value.ensures;
      y = c.value-2.ensures;
      w = c.value-3.ensures;
      h = c.value-4.ensures;
      level = option_row found (codes "level") c.get_str.result c.get_str.ensures;
      columns = option_row found (codes "columns") c.get_str-2.result c.get_str-2.ensures;
    }
