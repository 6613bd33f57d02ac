use Rattle.std.proofs.Common.{codes, rules, true, false}
use Rattle.clap.specs.Words.{found_of}
use Rattle.command_lines.proofs.LineLemmas.{flag_is, flag_tells, option_row}
use Rattle.command_lines.proofs.read.window_words.Goals as goal

pub returns-then-get_flag : goal.returns-then-get_flag
returns-then-get_flag c =
    let found = found_of c.args.matches.now in (
      flag_is _ c.get_flag.result true c.if-get_flag.true
          (flag_tells found (codes "whole") c.get_flag.result c.get_flag.ensures.none c.get_flag.ensures.value c.get_flag.ensures.other),
      option_row found (codes "level") c.get_str.result c.get_str.ensures,
    )

pub returns-in-Some : goal.returns-in-Some
returns-in-Some c =
    let found = found_of c.args.matches.now in (
      flag_is _ c.get_flag.result false c.if-get_flag.false
          (flag_tells found (codes "whole") c.get_flag.result c.get_flag.ensures.none c.get_flag.ensures.value c.get_flag.ensures.other),
      search rules,
    )

pub returns-in-None : goal.returns-in-None
returns-in-None c =
    let found = found_of c.args.matches.now in (
      flag_is _ c.get_flag.result false c.if-get_flag.false
          (flag_tells found (codes "whole") c.get_flag.result c.get_flag.ensures.none c.get_flag.ensures.value c.get_flag.ensures.other),
      c.words_of_bounds.ensures.none (search rules),
      c.words_of_window.ensures,
    )
