use Rattle.std.proofs.Common.{List, ℕ, rules}
use Rattle.std.specs.Borrow.{Bor}
use Rattle.command_lines.specs.NamedFiles.{IsNamedFile}
use Rattle.command_lines.specs.declared.given_files.NamedFile.{NamedFile}
use Rattle.command_lines.proofs.NamedLemmas.{zip_next}
use Rattle.command_lines.proofs.given_files.named_files.Goals as goal

pub loop-word-preserved : goal.loop-word-preserved
loop-word-preserved c =
    zip_next (λ (word : Bor (List ℕ)) (file : NamedFile). IsNamedFile word.now file) c.args.words.now c.loop-word.word-index _ c.loop-word.files.items
    c.add_named.new.files.items c.in_ok-named_file.field-0 c.loop-word.invariant (search rules) c.in_ok-named_file.ensures c.in_ok-add_named.ensures
