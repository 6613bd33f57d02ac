use Rattle.std.proofs.Common.{◌==◌, length, not, rules, tests, ◌∙◌, sym}
use Rattle.std.proofs.lemmas.Iterator.{YieldsList-from_slice}
use Rattle.std.proofs.lemmas.Iterator.Search.{all_from_yields_List}
use Rattle.std.proofs.lemmas.List.Folds.{list_all-map}
use Rattle.scripts.proofs.line.are_filled.Goals as goal

pub returns : goal.returns
returns c =
    let words = c.args.words.now in
    all_from_yields_List (λ word. not (length word.now == 0)) _ _ c.all.result c.all.ensures.ran (YieldsList-from_slice words (cc)) (λ x b q k. search (rules, tests)) ∙ sym (list_all-map (λ word. not (length word == 0)) (λ word. word.now) words)
