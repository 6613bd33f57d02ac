use Rattle.std.proofs.Common.{◌∙◌, rules, tests}
use Rattle.std.proofs.lemmas.Iterator.{YieldsList-from_slice}
use Rattle.std.proofs.lemmas.Iterator.Search.{find_from_yields_List}
use Rattle.std.specs.Str.{bytes_eq}
use Rattle.scripts.proofs.FileLemmas.{file_at-found, file_at-none}
use Rattle.scripts.proofs.source.LoadedSource.load.Goals as goal

pub returns-in_ok-from_slice-in-Some-clause-ok : goal.returns-in_ok-from_slice-in-Some-clause-ok
returns-in_ok-from_slice-in-Some-clause-ok c =
    let found = find_from_yields_List (λ file. bytes_eq file.path.items c.args.path.now) _ _ c.find.result c.find.ensures.ran (YieldsList-from_slice c.args.self.now.files.items (cc)) (λ x b q k. search (rules, tests)) in
    file_at-found c.args.self.now c.args.path.now c.find.result c.in-Some.file c.in_ok-from_slice-in-Some.field-0.items found c.in-Some.is (c.in_ok-from_slice-in-Some.ensures.items ∙ c.deref-in-Some.ensures.value)

pub returns-in-None-clause-cant_read : goal.returns-in-None-clause-cant_read
returns-in-None-clause-cant_read c =
    let found = find_from_yields_List (λ file. bytes_eq file.path.items c.args.path.now) _ _ c.find.result c.find.ensures.ran (YieldsList-from_slice c.args.self.now.files.items (cc)) (λ x b q k. search (rules, tests)) in
    λ _. file_at-none c.args.self.now c.args.path.now c.find.result found c.in-None.is
