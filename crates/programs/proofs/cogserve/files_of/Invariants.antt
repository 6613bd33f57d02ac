use Rattle.std.proofs.Common.{take}
use Rattle.programs.specs.Files.{AreFiles}
use Rattle.programs.proofs.cogserve.files_of.Given as goal

-- the files of the words so far
abbrev pub invariant-loop-word : goal.invariant-loop-word
invariant-loop-word g l = AreFiles l.verify (take l.word-index l.words) l.files.items
