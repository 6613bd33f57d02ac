use Rattle.std.proofs.Common.{◌≡◌, ◌++◌, take}
use Rattle.fixtures_support.specs.Files.{numbers}
use Rattle.fixtures_support.proofs.files.push_doubles.Given as goal

-- the numbers so far are added
abbrev pub invariant-loop-bits : goal.invariant-loop-bits
invariant-loop-bits l = l.out.items ≡ l.fn.out.items ++ numbers 8 (take l.bits-index l.values)
