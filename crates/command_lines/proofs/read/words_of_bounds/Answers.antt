use Rattle.std.proofs.Common.{codes, rules}
use Rattle.clap.specs.Words.{found_of}
use Rattle.command_lines.proofs.LineLemmas.{four_values, no_values, option_row, other_values}
use Rattle.command_lines.proofs.read.words_of_bounds.Goals as goal

pub returns-in_err-values-clause-none : goal.returns-in_err-values-clause-none
returns-in_err-values-clause-none c =
    λ _. no_values (found_of c.args.matches.now) (codes "bounds") c.get_strs.result c.get_strs.ensures (search rules)

pub returns-then-values-ne-SIDES-clause-none : goal.returns-then-values-ne-SIDES-clause-none
returns-then-values-ne-SIDES-clause-none c =
    λ _. other_values (found_of c.args.matches.now) (codes "bounds") c.get_strs.result c.in_ok-values.values c.get_strs.ensures (search rules) (search rules)

pub returns-clause-four : goal.returns-clause-four
returns-clause-four c = record {
  sides = four_values (found_of c.args.matches.now) (codes "bounds") c.get_strs.result c.in_ok-values.values _ c.get_strs.ensures (search rules) (search rules);
  level = option_row (found_of c.args.matches.now) (codes "level") c.get_str.result c.get_str.ensures;
}
