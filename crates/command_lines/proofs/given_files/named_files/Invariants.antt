use Rattle.std.proofs.Common.{take}
use Rattle.command_lines.specs.NamedFiles.{AreNamedFiles}
use Rattle.command_lines.proofs.given_files.named_files.Given as goal

-- the files of the words so far
abbrev pub invariant-loop-word : goal.invariant-loop-word
invariant-loop-word l = AreNamedFiles (take l.word-index l.words) l.files.items
