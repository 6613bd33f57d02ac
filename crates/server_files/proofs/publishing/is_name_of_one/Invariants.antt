use Rattle.std.proofs.Common.{◌≡◌, ◌≢◌, ℕ, ◌<◌, slice_index_or}
use Rattle.server_files.specs.Publishing.{names}
use Rattle.server_files.proofs.publishing.is_name_of_one.Given as goal

abbrev pub invariant-loop-file : goal.invariant-loop-file
invariant-loop-file l = record {
  files : l.files ≡ l.fn.files;
  none : (i : ℕ) → i < l.file-index → slice_index_or (names l.fn.files) i l.name ≢ l.name;
}
