use Rattle.std.proofs.Common.{◌+◌, ◌≡◌, ◌++◌, ◌∙◌, ap, sym, append-nil, arith}
use Rattle.fixtures_support.specs.Files.{rising_samples}
use Rattle.fixtures_support.proofs.Pieces.{rising_samples_next}
use Rattle.fixtures_support.proofs.files.push_samples.Goals as goal

pub loop-sample-init : goal.loop-sample-init
unfolding rising_samples
loop-sample-init c = sym (append-nil c.args.out.now.items)

pub loop-sample-preserved : goal.loop-sample-preserved
loop-sample-preserved c =
    rising_samples_next c.loop-sample.sample c.args.out.now.items c.loop-sample.out.items c.push.new.self.items
    c.loop-sample.invariant c.in_ok-push.ensures.items

pub returns-in_ok-push : goal.returns-in_ok-push
returns-in_ok-push c =
    let last : c.loop-sample.sample + 1 ≡ 256 = omega arith in
    rising_samples_next c.loop-sample.sample c.args.out.now.items c.loop-sample.out.items c.push.new.self.items
    c.loop-sample.invariant c.in_ok-push.ensures.items
    ∙ ap (λ n. c.args.out.now.items ++ rising_samples n) last
