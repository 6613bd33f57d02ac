use Rattle.std.proofs.Common.{rules, subst}
use Rattle.command_lines.specs.declared.given_files.NamedFile.{NamedFile}
use Rattle.programs.specs.NamedFiles.{IsWatched}
use Rattle.programs.proofs.NamedLemmas.{zip_next}
use Rattle.programs.proofs.quick.watched_files.Goals as goal

pub loop-file-preserved : goal.loop-file-preserved
loop-file-preserved c =
    zip_next (IsWatched c.args.verify) c.args.files.now c.loop-file.file-index c.file-item.result c.loop-file.watched.items c.add_watched.new.watched.items c.watched_of.result
    c.loop-file.invariant (search rules) (subst (λ (f : NamedFile). IsWatched c.args.verify f c.watched_of.result) c.file-item.is c.watched_of.ensures) c.in_ok-add_watched.ensures
