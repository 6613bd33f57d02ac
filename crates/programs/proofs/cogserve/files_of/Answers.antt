use Rattle.std.proofs.Common.{IfErr, rules, subst, sym}
use Rattle.std.proofs.lemmas.Result.{err_from_is_err_and}
use Rattle.programs.specs.Files.{NamesOneOf}
use Rattle.programs.proofs.FileLemmas.{memory_of, next_file, one_of}
use Rattle.programs.proofs.cogserve.files_of.Goals as goal

pub loop-word-preserved : goal.loop-word-preserved
loop-word-preserved g c =
    next_file c.args.verify c.args.words.now c.loop-word.word-index _ c.loop-word.files.items c.add_file.new.files.items c.in_ok-file_of.field-0
    c.loop-word.invariant (search rules) c.in_ok-file_of.ensures.ok c.in_ok-add_file.ensures

pub returns-in_err-file_of-clause-told : goal.returns-in_err-file_of-clause-told
returns-in_err-file_of-clause-told g c =
    let words = c.args.words.now in
    let told = err_from_is_err_and c.from_residual.result c.from_residual.ensures.1 in
    subst (λ r. IfErr r (NamesOneOf words)) (sym told.1)
    (subst (NamesOneOf words) (sym told.2)
    (one_of words c.loop-word.word-index _ c.in_err-file_of.field-0.0 (search rules) c.in_err-file_of.ensures.err c.in_err-file_of.ensures.told))

pub returns-in_err-add_file-clause-told : goal.returns-in_err-add_file-clause-told
returns-in_err-add_file-clause-told g c =
    let words = c.args.words.now in
    let told = err_from_is_err_and c.from_residual-in_err-add_file.result c.from_residual-in_err-add_file.ensures.1 in
    subst (λ r. IfErr r (NamesOneOf words)) (sym told.1) (subst (NamesOneOf words) (sym told.2) (memory_of words))
