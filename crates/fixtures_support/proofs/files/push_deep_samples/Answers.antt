use Rattle.std.proofs.Common.{sym, append-nil}
use Rattle.fixtures_support.specs.Files.{deep_samples}
use Rattle.fixtures_support.proofs.Pieces.{deep_samples_next}
use Rattle.fixtures_support.proofs.files.push_deep_samples.Goals as goal

pub loop-t-init : goal.loop-t-init
unfolding deep_samples
loop-t-init c = sym (append-nil c.args.out.now.items)

pub loop-t-preserved : goal.loop-t-preserved
loop-t-preserved c =
    deep_samples_next c.args.order c.loop-t.t c.args.out.now.items c.loop-t.out.items c.push_short.new.out.items
    c.loop-t.invariant c.in_ok-push_short.ensures
