use Rattle.std.proofs.Common.{take}
use Rattle.programs.specs.Headers.{AddsLines}
use Rattle.programs.proofs.headers.add_headers.Given as goal

-- the lines of the words so far are added
abbrev pub invariant-loop-word : goal.invariant-loop-word
invariant-loop-word g l = AddsLines (take l.word-index l.words) l.fn.client l.client
