use Rattle.std.proofs.Common.{◌≡◌, drop, map}
use Rattle.command_lines.specs.QuickLine.{has_option}
use Rattle.command_lines.proofs.quick.has_option.Given as goal

-- what is to be said of the words that are left is what is to be said of all
abbrev pub invariant-loop-word : goal.invariant-loop-word
invariant-loop-word g l =
    has_option l.name (map g.S.AsStr.text (drop l.word-index l.words)) ≡ has_option l.name (map g.S.AsStr.text l.words)
