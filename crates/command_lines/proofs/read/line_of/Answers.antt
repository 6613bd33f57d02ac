use Rattle.std.proofs.Common.{codes}
use Rattle.clap.specs.Words.{found_of}
use Rattle.command_lines.proofs.LineLemmas.{flag_tells, option_row}
use Rattle.command_lines.proofs.read.line_of.Goals as goal

pub returns-clause-words : goal.returns-clause-words
returns-clause-words c =
    let found = found_of c.args.matches.now in
    record {
      server = c.value.ensures;
      name = c.value-2.ensures;
      requests = option_row found (codes "requests") c.get_str.result c.get_str.ensures;
      blocks = option_row found (codes "blocks") c.get_str-2.result c.get_str-2.ensures;
      ahead = option_row found (codes "ahead") c.get_str-3.result c.get_str-3.ensures;
      keep = flag_tells found (codes "keep") c.get_flag.result c.get_flag.ensures.none c.get_flag.ensures.value c.get_flag.ensures.other;
      close = flag_tells found (codes "close") c.get_flag-2.result c.get_flag-2.ensures.none c.get_flag-2.ensures.value c.get_flag-2.ensures.other;
      output = option_row found (codes "output") c.get_str-4.result c.get_str-4.ensures;
      world = flag_tells found (codes "world") c.get_flag-3.result c.get_flag-3.ensures.none c.get_flag-3.ensures.value c.get_flag-3.ensures.other;
      verbose = flag_tells found (codes "verbose") c.get_flag-4.result c.get_flag-4.ensures.none c.get_flag-4.ensures.value c.get_flag-4.ensures.other;
      progress = flag_tells found (codes "progress") c.get_flag-5.result c.get_flag-5.ensures.none c.get_flag-5.ensures.value c.get_flag-5.ensures.other;
    }
