use Rattle.std.proofs.Common.{codes}
use Rattle.clap.specs.Words.{found_of}
use Rattle.command_lines.proofs.LineLemmas.{flag_tells}
use Rattle.command_lines.proofs.read.description_words.Goals as goal

pub returns : goal.returns
returns c =
    let found = found_of c.args.matches.now in
    flag_tells found (codes "json") c.get_flag.result c.get_flag.ensures.none c.get_flag.ensures.value c.get_flag.ensures.other
