use Rattle.tiff_dir.specs.declared.tags.TheConstants.{BITS_PER_SAMPLE, SAMPLE_FORMAT}
use Rattle.std.proofs.Common.{◌∙◌, sym}
use Rattle.tiff_dir.specs.declared.stage.Stage.TheVariants.{Formats}
use Rattle.tiff_dir.specs.declared.fault.FileFault.TheVariants.{Unsupported}
use Rattle.tiff_dir.specs.Fault.{IsFaultOfDirectories}
use Rattle.tiff_dir.specs.Stage.{StepsOn, EndsDirectory}
use Rattle.tiff_dir.proofs.Outside.{level_fault, then_also}
use Rattle.tiff_dir.proofs.Shorts.{bits_at, bits_none, formats_wrong, formats_right, formats_to_end}
use Rattle.tiff_dir.proofs.level_steps.after_formats.Goals as goal

pub returns-in_default-clause-agrees : goal.returns-in_default-clause-agrees
returns-in_default-clause-agrees c = λ f is shorts bits before part.
    level_fault f c.args.pending.index (Unsupported BITS_PER_SAMPLE) c.requires.few is.there is.level (bits_none f c.args.pending.index c.args.bits c.in_default.is bits)

pub returns-then-not-are_all-clause-agrees : goal.returns-then-not-are_all-clause-agrees
returns-then-not-are_all-clause-agrees c = λ f is shorts bits before part.
    level_fault f c.args.pending.index (Unsupported SAMPLE_FORMAT) c.requires.few is.there is.level
    (formats_wrong f c.args.bytes.now c.args.pending.order c.args.pending.index c.args.first is.walked.named shorts part c.requires.whole (sym c.are_all.ensures ∙ c.if-not-are_all.true))

pub returns-clause-agrees : goal.returns-clause-agrees
returns-clause-agrees c = λ f is shorts bits before part.
    let depth = bits_at f c.args.pending.index c.args.bits c.in-Some.bits c.in-Some.is bits in
    let one = formats_right f c.args.bytes.now c.args.pending.order c.args.pending.index c.args.first is.walked.named shorts part c.requires.whole (sym c.are_all.ensures ∙ c.if-not-are_all.false) in
    then_also (EndsDirectory f c.args.pending.index) (StepsOn f (Formats c.args.pending c.args.first c.args.bits)) (IsFaultOfDirectories f) c.finish.result
    (c.finish.ensures.agrees f is depth.0 depth.2 one before)
    (λ step ends. formats_to_end f c.args.pending c.args.first c.args.bits step ends)
