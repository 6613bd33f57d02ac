use Rattle.std.proofs.Common.{ℕ, ◌<◌, slice_index_or}
use Rattle.command_lines.specs.NamedFiles.{HasName}
use Rattle.command_lines.specs.declared.given_files.NamedFile.{NamedFile}
use Rattle.command_lines.proofs.given_files.of_name.Given as goal

-- none of the files so far has the name
abbrev pub invariant-loop-file : goal.invariant-loop-file
invariant-loop-file l = (k : ℕ) (d : NamedFile) → k < l.file-index → ¬ HasName l.name (slice_index_or l.files k d)
