use Rattle.std.proofs.Common.{rules}
use Rattle.clap.specs.Words.{found_of, rows_of}
use Rattle.clap.specs.declared.parser.matches.ArgMatches.TheViews.{out-ArgMatches}
use Rattle.command_lines.proofs.LineLemmas.{description_asks, found_as, other_asks, window_asks}
use Rattle.command_lines.proofs.read.found_line.Goals as goal

pub returns-in-Some-window-default : goal.returns-in-Some-window-default
returns-in-Some-window-default c =
    let line = c.line_of in
    let found = c.in-Some-window-default in
    found_as (out-ArgMatches c.args.matches.now).subcommand found.field-0-0.now (rows_of (found_of found.window.now)) _ line.result
    found.ensures.name found.ensures.rows line.ensures.words
    (window_asks _ _ c.window_words.result _ found.is-window line.ensures.asked c.window_words.ensures)

pub returns-in-Some-describe-default : goal.returns-in-Some-describe-default
returns-in-Some-describe-default c =
    let line = c.line_of-in-Some-describe-default in
    let found = c.in-Some-describe-default in
    found_as (out-ArgMatches c.args.matches.now).subcommand found.field-0-0.now (rows_of (found_of found.file.now)) _ line.result
    found.ensures.name found.ensures.rows line.ensures.words
    (description_asks _ _ c.description_words.result _ found.is-describe line.ensures.asked c.description_words.ensures)

pub returns-in-Some : goal.returns-in-Some
returns-in-Some c =
    let line = c.line_of-in-Some in
    let found = c.in-Some in
    found_as (out-ArgMatches c.args.matches.now).subcommand found.field-0-0.now (rows_of (found_of found.info.now)) _ line.result
    found.ensures.name found.ensures.rows line.ensures.words
    (other_asks _ _ _ (search rules) (search rules) line.ensures.asked)
