use Rattle.std.proofs.Common.{◌≡◌, ◌++◌}
use Rattle.fixtures_support.specs.Files.{rising_samples}
use Rattle.fixtures_support.proofs.files.push_samples.Given as goal

-- the samples so far are added
abbrev pub invariant-loop-sample : goal.invariant-loop-sample
invariant-loop-sample l = l.out.items ≡ l.fn.out.items ++ rising_samples l.sample
