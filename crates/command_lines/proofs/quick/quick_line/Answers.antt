use Rattle.std.proofs.Common.{◌≡◌, ◌∙◌, ap, codes, ℕ, List, Some, false, map, subst, sym}
use Rattle.std.specs.Borrow.{Bor}
use Rattle.clap.specs.Words.{App, HasKind, fault_of, found_of, is_simple, is_simple_and_free, matches_of, raw_values, rows_of, takes}
use Rattle.clap.proofs.CallerLemmas.{some_of_text}
use Rattle.command_lines.specs.QuickLine.{quick_app}
use Rattle.command_lines.proofs.LineLemmas.{all_values, choice_value, files_there, flag_text, passed_on, refused_as, serve_free, simple, some_mapped}
use Rattle.command_lines.proofs.quick.quick_line.Goals as goal

pub unwrap-requires : goal.unwrap-requires
unwrap-requires g c =
    let there = files_there false c.in_ok-command.command c.in_ok-matches.matches c.in_ok-command.ensures c.in_ok-matches.ensures.parsed in
    some_of_text _ c.get_strs.result _ c.get_strs.ensures (some_mapped raw_values _ there)

pub returns-in_err-matches-clause-err : goal.returns-in_err-matches-clause-err
returns-in_err-matches-clause-err g c =
    let texts : List (List ℕ) = map g.S.AsStr.text c.args.words.now in
    let is = c.in_ok-command.ensures in
    passed_on c.from_residual-in_err-matches.result c.in_err-matches.field-0.0 _ c.from_residual-in_err-matches.ensures.1
    (λ taken. c.in_err-matches.ensures.passes (ap (λ (a : App). takes a texts) is ∙ taken))

pub returns-clause-ok : goal.returns-clause-ok
returns-clause-ok g c =
    let texts : List (List ℕ) = map g.S.AsStr.text c.args.words.now in
    let is = c.in_ok-command.ensures in
    let found = found_of c.in_ok-matches.matches in
    let matches = matches_of quick_app texts in
    let rows : rows_of found ≡ matches =
    (c.in_ok-matches.ensures.matches (ap is_simple is ∙ simple false)).0 ∙ ap (λ (a : App). matches_of a texts) is in
    let last = flag_text found matches (codes "announce-last") rows in
    let text = flag_text found matches (codes "log") rows in
    record {
      listen = choice_value found matches (codes "listen") c.get_str.result rows c.get_str.ensures;
      epoch = choice_value found matches (codes "epoch") c.get_str-2.result rows c.get_str-2.ensures;
      connections = choice_value found matches (codes "connections") c.get_str-3.result rows c.get_str-3.ensures;
      at_once = choice_value found matches (codes "at-once") c.get_str-4.result rows c.get_str-4.ensures;
      patience = choice_value found matches (codes "patience") c.get_str-5.result rows c.get_str-5.ensures;
      allow_origin = choice_value found matches (codes "allow-origin") c.get_str-6.result rows c.get_str-6.ensures;
      announce_last = record {
        none = λ e. c.get_flag.ensures.none (last ∙ e);
        yes = λ e. c.get_flag.ensures.value (last ∙ e);
        no = λ e. c.get_flag.ensures.other (last ∙ e);
      };
      verify = choice_value found matches (codes "verify") c.get_str-7.result rows c.get_str-7.ensures;
      log = record {
        none = λ e. c.get_flag-2.ensures.none (text ∙ e);
        yes = λ e. c.get_flag-2.ensures.value (text ∙ e);
        no = λ e. c.get_flag-2.ensures.other (text ∙ e);
      };
      files = all_values found matches (codes "files") c.get_strs.result c.unwrap.result rows c.get_strs.ensures c.unwrap.ensures
          ∙ ap (λ (l : List (Bor (List ℕ))). Some (map (λ (w : Bor (List ℕ)). w.now) l)) (sym c.in_ok-files.ensures.items);
    }

pub returns-in_err-matches-clause-kinds : goal.returns-in_err-matches-clause-kinds
returns-in_err-matches-clause-kinds g c =
    let texts : List (List ℕ) = map g.S.AsStr.text c.args.words.now in
    let is = c.in_ok-command.ensures in
    refused_as c.from_residual-in_err-matches.result c.in_err-matches.field-0.0 _ c.from_residual-in_err-matches.ensures.1
    (subst (λ (a : App). HasKind (fault_of a texts) c.in_err-matches.field-0.0) is (c.in_err-matches.ensures.kinds (ap is_simple_and_free is ∙ serve_free false)))

pub returns-clause-kinds : goal.returns-clause-kinds
returns-clause-kinds g c =
    let texts : List (List ℕ) = map g.S.AsStr.text c.args.words.now in
    let is = c.in_ok-command.ensures in
    ap (λ (a : App). fault_of a texts) (sym is) ∙ c.in_ok-matches.ensures.kinds (ap is_simple_and_free is ∙ serve_free false)
