use Rattle.std.proofs.Common.{take}
use Rattle.programs.specs.NamedFiles.{AreWatched}
use Rattle.programs.proofs.quick.watched_files.Given as goal

-- the files so far, as they are watched
abbrev pub invariant-loop-file : goal.invariant-loop-file
invariant-loop-file l = AreWatched l.verify (take l.file-index l.files) l.watched.items
