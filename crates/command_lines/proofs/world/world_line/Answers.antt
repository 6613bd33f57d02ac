use Rattle.std.proofs.Common.{◌≡◌, ◌∙◌, ap, codes, ℕ, List, map, subst, sym}
use Rattle.clap.specs.Words.{App, HasKind, fault_of, found_of, is_simple, is_simple_and_free, matches_of, rows_of, takes}
use Rattle.clap.proofs.CallerLemmas.{some_of_text}
use Rattle.command_lines.specs.WorldLine.{world_app}
use Rattle.command_lines.proofs.LineLemmas.{choice_value, option_value, passed_on, refused_as, script_there, world_free, world_simple}
use Rattle.command_lines.proofs.world.world_line.Goals as goal

pub unwrap-requires : goal.unwrap-requires
unwrap-requires g c =
    let there = script_there c.in_ok-command.command c.in_ok-matches.matches c.in_ok-command.ensures c.in_ok-matches.ensures.parsed in
    some_of_text _ c.get_str.result _ c.get_str.ensures there

pub returns-in_err-matches-clause-err : goal.returns-in_err-matches-clause-err
returns-in_err-matches-clause-err g c =
    let texts : List (List ℕ) = map g.S.AsStr.text c.args.words.now in
    let is = c.in_ok-command.ensures in
    passed_on c.from_residual-in_err-matches.result c.in_err-matches.field-0.0 _ c.from_residual-in_err-matches.ensures.1
    (λ taken. c.in_err-matches.ensures.passes (ap (λ (a : App). takes a texts) is ∙ taken))

pub returns-clause-ok : goal.returns-clause-ok
returns-clause-ok g c =
    let texts : List (List ℕ) = map g.S.AsStr.text c.args.words.now in
    let is = c.in_ok-command.ensures in
    let found = found_of c.in_ok-matches.matches in
    let matches = matches_of world_app texts in
    let rows : rows_of found ≡ matches =
    (c.in_ok-matches.ensures.matches (ap is_simple is ∙ world_simple)).0 ∙ ap (λ (a : App). matches_of a texts) is in
    record {
      script = option_value found matches (codes "SCRIPT") c.get_str.result c.unwrap.result rows c.get_str.ensures c.unwrap.ensures;
      pieces = choice_value found matches (codes "pieces") c.get_str-2.result rows c.get_str-2.ensures;
    }

pub returns-in_err-matches-clause-kinds : goal.returns-in_err-matches-clause-kinds
returns-in_err-matches-clause-kinds g c =
    let texts : List (List ℕ) = map g.S.AsStr.text c.args.words.now in
    let is = c.in_ok-command.ensures in
    refused_as c.from_residual-in_err-matches.result c.in_err-matches.field-0.0 _ c.from_residual-in_err-matches.ensures.1
    (subst (λ (a : App). HasKind (fault_of a texts) c.in_err-matches.field-0.0) is (c.in_err-matches.ensures.kinds (ap is_simple_and_free is ∙ world_free)))

pub returns-clause-kinds : goal.returns-clause-kinds
returns-clause-kinds g c =
    let texts : List (List ℕ) = map g.S.AsStr.text c.args.words.now in
    let is = c.in_ok-command.ensures in
    ap (λ (a : App). fault_of a texts) (sym is) ∙ c.in_ok-matches.ensures.kinds (ap is_simple_and_free is ∙ world_free)
