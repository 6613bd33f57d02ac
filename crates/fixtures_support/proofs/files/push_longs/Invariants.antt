use Rattle.std.proofs.Common.{◌≡◌, ◌++◌, take}
use Rattle.fixtures_support.specs.Files.{numbers}
use Rattle.fixtures_support.proofs.files.push_longs.Given as goal

-- the numbers so far are added
abbrev pub invariant-loop-value : goal.invariant-loop-value
invariant-loop-value l = l.out.items ≡ l.fn.out.items ++ numbers 4 (take l.value-index l.values)
