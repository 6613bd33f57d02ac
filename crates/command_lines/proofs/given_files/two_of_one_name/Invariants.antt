use Rattle.std.proofs.Common.{ℕ, ◌<◌, slice_index_or, take}
use Rattle.std.specs.Prelude.{string_bytes}
use Rattle.command_lines.specs.NamedFiles.{HaveOtherNames}
use Rattle.command_lines.specs.declared.given_files.NamedFile.{NamedFile}
use Rattle.command_lines.proofs.given_files.two_of_one_name.Given as goal

-- each file so far has a name that no earlier one has
abbrev pub invariant-loop-k : goal.invariant-loop-k
invariant-loop-k l = (k : ℕ) (d : NamedFile) → k < l.k → HaveOtherNames (string_bytes (slice_index_or l.files k d).name) (take k l.files)
