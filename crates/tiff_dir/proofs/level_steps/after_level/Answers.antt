use Rattle.tiff_dir.specs.declared.tags.TheConstants.{BITS_PER_SAMPLE, SAMPLES_PER_PIXEL, SAMPLE_FORMAT}
use Rattle.std.proofs.Common.{◌≡◌, ◌≢◌, ◌∙◌, Some, true, false, sym, ap, refl}
use Rattle.tiff_dir.specs.declared.stage.Pending.{Pending}
use Rattle.tiff_dir.specs.declared.stage.Stage.TheVariants.{Table}
use Rattle.tiff_dir.specs.declared.fault.FileFault.TheVariants.{Unsupported}
use Rattle.tiff_dir.specs.Profile.{is_depth}
use Rattle.tiff_dir.specs.Table.{entries_of, long_in, short_or}
use Rattle.tiff_dir.specs.Fault.{IsFaultOfDirectories}
use Rattle.tiff_dir.specs.Stage.{HasTable, IsPending, StepsOn, EndsDirectory}
use Rattle.tiff_dir.proofs.Fields.{has_table}
use Rattle.tiff_dir.proofs.Levels.{read_fault, pending_is}
use Rattle.tiff_dir.proofs.Outside.{err_told, draft_samples, one_sample, level_fault, bits_there, bits_outside, formats_outside, bits_inside, formats_inside, bits_unsupported, formats_unsupported, table_to_bits, table_to_end, then_also}
use Rattle.tiff_dir.proofs.level_steps.after_level.Goals as goal

pub returns-in_err-draft-clause-agrees : goal.returns-in_err-draft-clause-agrees
returns-in_err-draft-clause-agrees c = λ f is level sound before.
    let has : HasTable f c.args.index (entries_of c.args.table.now) = has_table f _ _ _ _ _ is c.args.table.now.whole in
    let fault = c.in_err-draft.field-0.0 in
    err_told c.from_residual.result fault _ (IsFaultOfDirectories f) c.from_residual.ensures.1
    (level_fault f c.args.index fault c.requires.few has.there level (read_fault f c.args.index _ fault has c.in_err-draft.ensures.read))

pub returns-in_default-clause-agrees : goal.returns-in_default-clause-agrees
returns-in_default-clause-agrees c = λ f is level sound before. absurd (bits_there _ c.in_ok-draft.ensures.read.met (sym c.long.ensures ∙ c.in_default.is))

pub returns-then-draft-eq-COLOUR_SAMPLES-clause-agrees : goal.returns-then-draft-eq-COLOUR_SAMPLES-clause-agrees
returns-then-draft-eq-COLOUR_SAMPLES-clause-agrees c = λ f is level sound before.
    let es = entries_of c.args.table.now in
    let has : HasTable f c.args.index es = has_table f _ _ _ _ _ is c.args.table.now.whole in
    let read = c.in_ok-draft.ensures.read in
    let p : Pending = record { order = c.args.table.now.order; index = c.args.index; next = c.next.result; draft = c.in_ok-draft.draft } in
    let pending : IsPending f p = rw c.next.ensures (pending_is f _ c.args.table.now.order c.args.index c.args.table.now.at c.args.table.now.entries es c.in_ok-draft.draft is c.args.table.now.whole has read level sound) in
    let samples : short_or es SAMPLES_PER_PIXEL 1 ≡ 3 = sym (draft_samples es c.in_ok-draft.draft read) ∙ c.if-draft-eq-COLOUR_SAMPLES.true in
    let bits : long_in es BITS_PER_SAMPLE ≡ Some c.in-Some.first = sym c.long.ensures ∙ c.in-Some.is in
    table_to_bits f c.args.table.now.order c.args.index c.args.table.now.at c.args.table.now.entries p c.in-Some.first c.long-formats.result refl level pending
    (bits_outside f c.args.index es c.in-Some.first has read.met read.counts samples bits)
    (formats_outside f c.args.index es c.long-formats.result has read.met read.counts samples (sym c.long-formats.ensures))

pub returns-then-not-is_depth-clause-agrees : goal.returns-then-not-is_depth-clause-agrees
returns-then-not-is_depth-clause-agrees c = λ f is level sound before.
    let es = entries_of c.args.table.now in
    let has : HasTable f c.args.index es = has_table f _ _ _ _ _ is c.args.table.now.whole in
    let read = c.in_ok-draft.ensures.read in
    let three : short_or es SAMPLES_PER_PIXEL 1 ≢ 3 = λ e. c.if-draft-eq-COLOUR_SAMPLES.false (draft_samples es c.in_ok-draft.draft read ∙ e) in
    let samples = one_sample es read.values three in
    let bad : is_depth (short_or es BITS_PER_SAMPLE 0) ≡ false = rw (← c.short-bits.ensures) (sym c.is_depth.ensures ∙ c.if-not-is_depth.true) in
    level_fault f c.args.index (Unsupported BITS_PER_SAMPLE) c.requires.few has.there level (bits_unsupported f c.args.index es has read.met read.counts samples bad)

pub returns-then-short-ne-UNSIGNED_INTEGER-clause-agrees : goal.returns-then-short-ne-UNSIGNED_INTEGER-clause-agrees
returns-then-short-ne-UNSIGNED_INTEGER-clause-agrees c = λ f is level sound before.
    let es = entries_of c.args.table.now in
    let has : HasTable f c.args.index es = has_table f _ _ _ _ _ is c.args.table.now.whole in
    let read = c.in_ok-draft.ensures.read in
    let three : short_or es SAMPLES_PER_PIXEL 1 ≢ 3 = λ e. c.if-draft-eq-COLOUR_SAMPLES.false (draft_samples es c.in_ok-draft.draft read ∙ e) in
    let samples = one_sample es read.values three in
    let bad : short_or es SAMPLE_FORMAT 1 ≢ 1 = λ e. c.if-short-ne-UNSIGNED_INTEGER.true (c.short.ensures ∙ e) in
    level_fault f c.args.index (Unsupported SAMPLE_FORMAT) c.requires.few has.there level (formats_unsupported f c.args.index es has read.met read.counts samples bad)

pub returns-clause-agrees : goal.returns-clause-agrees
returns-clause-agrees c = λ f is level sound before.
    let es = entries_of c.args.table.now in
    let has : HasTable f c.args.index es = has_table f _ _ _ _ _ is c.args.table.now.whole in
    let read = c.in_ok-draft.ensures.read in
    let p : Pending = record { order = c.args.table.now.order; index = c.args.index; next = c.next.result; draft = c.in_ok-draft.draft } in
    let pending : IsPending f p = rw c.next.ensures (pending_is f _ c.args.table.now.order c.args.index c.args.table.now.at c.args.table.now.entries es c.in_ok-draft.draft is c.args.table.now.whole has read level sound) in
    let three : short_or es SAMPLES_PER_PIXEL 1 ≢ 3 = λ e. c.if-draft-eq-COLOUR_SAMPLES.false (draft_samples es c.in_ok-draft.draft read ∙ e) in
    let samples = one_sample es read.values three in
    let depth : is_depth (short_or es BITS_PER_SAMPLE 0) ≡ true = rw (← c.short-bits.ensures) (sym c.is_depth.ensures ∙ c.if-not-is_depth.false) in
    let one : short_or es SAMPLE_FORMAT 1 ≡ 1 = sym c.short.ensures ∙ c.if-short-ne-UNSIGNED_INTEGER.false in
    let bits = bits_inside f c.args.index es has read.met read.counts samples depth in
    let formats = formats_inside f c.args.index es has read.met read.counts samples one in
    then_also (EndsDirectory f c.args.index) (StepsOn f (Table c.args.table.now.order c.args.index c.args.table.now.at c.args.table.now.entries)) (IsFaultOfDirectories f) c.finish.result
    (c.finish.ensures.agrees f pending (bits.0 ∙ ap Some (sym c.short-bits.ensures)) bits.1 formats.0 before)
    (λ step ends. table_to_end f c.args.table.now.order c.args.index c.args.table.now.at c.args.table.now.entries step level bits.2 formats.1 ends)
