use Rattle.std.proofs.Common.{◌≡◌, ◌++◌, drop, map}
use Rattle.command_lines.specs.FileWord.{places}
use Rattle.command_lines.specs.declared.file_words.Expected.TheVariants.{Any}
use Rattle.command_lines.proofs.file_words.places.Given as goal

-- the places so far, and those among the words that are left, are those of all
abbrev pub invariant-loop-k : goal.invariant-loop-k
invariant-loop-k g l =
    l.found.items ++ places l.expected l.k (map g.S.AsStr.text (drop l.k l.words)) ≡ places Any 0 (map g.S.AsStr.text l.words)
