use Rattle.std.proofs.Common.{◌≡◌, ◌++◌}
use Rattle.fixtures_support.specs.Files.{deep_samples}
use Rattle.fixtures_support.proofs.files.push_deep_samples.Given as goal

-- the samples so far are added
abbrev pub invariant-loop-t : goal.invariant-loop-t
invariant-loop-t l = l.out.items ≡ l.fn.out.items ++ deep_samples l.order l.t
