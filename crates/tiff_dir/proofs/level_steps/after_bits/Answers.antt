use Rattle.tiff_dir.specs.declared.tags.TheConstants.{BITS_PER_SAMPLE}
use Rattle.std.proofs.Common.{ℕ, Option, None, MatchResult, sym, subst}
use Rattle.tiff_dir.specs.declared.stage.Stage.TheVariants.{Bits, Formats}
use Rattle.tiff_dir.specs.declared.fault.FileFault.TheVariants.{Unsupported}
use Rattle.tiff_dir.specs.Fault.{IsFaultOfDirectories}
use Rattle.tiff_dir.specs.Stage.{HasBits, HasFormats, StepsOn, EndsDirectory}
use Rattle.tiff_dir.proofs.Outside.{level_fault, then_also}
use Rattle.tiff_dir.proofs.Shorts.{has_bits, bits_at, bits_none, bits_to_formats, bits_to_end}
use Rattle.tiff_dir.proofs.level_steps.after_bits.Goals as goal

pub returns-in-Some-clause-agrees : goal.returns-in-Some-clause-agrees
returns-in-Some-clause-agrees c = λ f is shorts formats before part.
    let P : Option ℕ → Type 0 = λ o. HasFormats f c.args.pending.index o in
    let G : Option ℕ → Type 0 = λ o. StepsOn f (Bits c.args.pending c.args.first o) (record { stage = Formats c.args.pending c.in-Some.first c.depth_of-bits.result; level = None }) in
    let H : Option ℕ → Type 0 = λ o. HasBits f c.args.pending.index o in
    let bits = subst H (sym c.depth_of-bits.ensures) (has_bits f c.args.bytes.now c.args.pending.order c.args.pending.index c.args.first is.walked.named shorts part c.requires.whole) in
    subst G (sym c.in-Some.is) (bits_to_formats f c.args.pending c.args.first c.in-Some.first c.depth_of-bits.result is (subst P c.in-Some.is formats) bits)

pub returns-in_default-bits-clause-agrees : goal.returns-in_default-bits-clause-agrees
returns-in_default-bits-clause-agrees c = λ f is shorts formats before part.
    let H : Option ℕ → Type 0 = λ o. HasBits f c.args.pending.index o in
    let bits = subst H (sym c.depth_of-bits.ensures) (has_bits f c.args.bytes.now c.args.pending.order c.args.pending.index c.args.first is.walked.named shorts part c.requires.whole) in
    level_fault f c.args.pending.index (Unsupported BITS_PER_SAMPLE) c.requires.few is.there is.level (bits_none f c.args.pending.index c.depth_of-bits.result c.in_default-bits.is bits)

pub returns-clause-agrees : goal.returns-clause-agrees
returns-clause-agrees c = λ f is shorts formats before part.
    let P : Option ℕ → Type 0 = λ o. HasFormats f c.args.pending.index o in
    let G : Option ℕ → Type 0 = λ o. MatchResult c.finish.result (StepsOn f (Bits c.args.pending c.args.first o)) (IsFaultOfDirectories f) in
    let H : Option ℕ → Type 0 = λ o. HasBits f c.args.pending.index o in
    let bits = bits_at f c.args.pending.index c.depth_of-bits.result c.in-Some-bits.bits c.in-Some-bits.is
    (subst H (sym c.depth_of-bits.ensures) (has_bits f c.args.bytes.now c.args.pending.order c.args.pending.index c.args.first is.walked.named shorts part c.requires.whole)) in
    subst G (sym c.in_default.is) (then_also (EndsDirectory f c.args.pending.index) (StepsOn f (Bits c.args.pending c.args.first None)) (IsFaultOfDirectories f) c.finish.result
    (c.finish.ensures.agrees f is bits.0 bits.2 (subst P c.in_default.is formats) before)
    (λ step ends. bits_to_end f c.args.pending c.args.first step ends))
