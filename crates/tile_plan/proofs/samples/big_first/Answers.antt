use Rattle.std.proofs.Common.{◌≡◌, ◌*◌, sym, subst}
use Rattle.tiff_dir.specs.Number.{number_in}
use Rattle.tiff_dir.specs.Profile.{sample_bytes}
use Rattle.tile_plan.specs.Samples.{sample_at}
use Rattle.tile_plan.proofs.SampleLemmas.{exchanged_samples, plain_samples}
use Rattle.tile_plan.proofs.samples.big_first.Goals as goal

pub returns-then-bits-eq16-clause-samples : goal.returns-then-bits-eq16-clause-samples
returns-then-bits-eq16-clause-samples c k fits =
    let size = sample_bytes c.args.bits in
    subst (λ o. sample_at c.args.bits c.swap_pairs.new.bytes k ≡ number_in o (k * size) size c.args.bytes.now) (sym c.in-Little.is)
    (exchanged_samples c.args.bits c.args.bytes.now c.swap_pairs.new.bytes c.if-bits-eq16.true c.swap_pairs.ensures k fits)

pub returns-else-bits-eq16-clause-samples : goal.returns-else-bits-eq16-clause-samples
returns-else-bits-eq16-clause-samples c k fits = plain_samples c.args.order c.args.bits c.args.bytes.now c.requires c.if-bits-eq16.false k
