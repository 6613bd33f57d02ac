use Rattle.std.proofs.Common.{◌+◌, ◌<◌, arith, refl, sym, subst}
use Rattle.tiff_dir.specs.declared.fault.FileFault.TheVariants.{PastEnd}
use Rattle.tiff_dir.specs.Faulty.{IsFaulty}
use Rattle.cog_reader.specs.declared.state.State.TheVariants.{GeoFields}
use Rattle.cog_reader.proofs.FieldLemmas.{some_bytes}
use Rattle.cog_reader.proofs.FirstLemmas.{field_wanted}
use Rattle.cog_reader.proofs.StepLemmas.{becomes_done, becomes_same, fair_field, past_field}
use Rattle.cog_reader.proofs.state.fields.next.Goals as goal

pub span_of-requires : goal.span_of-requires
span_of-requires c = some_bytes c.args.fields.places c.in-Some.ensures.typed c.args.fields.given c.in-Some.place (sym c.in-Some.ensures.next)

pub info-requires-clause-read : goal.info-requires-clause-read
info-requires-clause-read c = c.in-None.ensures.end refl

pub returns-in-Some-span_of-clause-step : goal.returns-in-Some-span_of-clause-step
returns-in-Some-span_of-clause-step c k q =
    let w = c.args.file.now.walk.now in
    let x = c.args.fields in
    let p = c.in-Some.place in
    let next = sym c.in-Some.ensures.next in
    let within = c.in-Some-span_of.ensures.1 in (
      becomes_same c.args.file.now.file_length w k q (GeoFields x) c.requires,
      field_wanted c.args.file.now.file_length w k x p c.in-Some-span_of.span next c.in-Some-span_of.ensures.0 (fair_field c.args.file.now.file_length x.places x.given p c.in-Some.ensures.typed next (λ past. omega (arith, past, within))),
    )

pub returns-in-None-span_of-clause-step : goal.returns-in-None-span_of-clause-step
returns-in-None-span_of-clause-step c k q =
    let p = c.in-Some.place in
    becomes_done c.args.file.now.file_length c.args.file.now.walk.now k q (GeoFields c.args.fields) _
    (λ f base state. subst (λ q. IsFaulty f q PastEnd) (sym state.0) (past_field f c.args.fields p state.1 (sym c.in-Some.ensures.next) (subst (λ n. n < p.first + p.len) (sym base.size) c.in-None-span_of.ensures)))
