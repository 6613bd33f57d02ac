use Rattle.std.proofs.Common.{sym}
use Rattle.cog_reader.proofs.FieldLemmas.{some_bytes}
use Rattle.cog_reader.proofs.UpcomingLemmas.{next_field}
use Rattle.cog_reader.proofs.state.fields.wanted.Goals as goal

pub span_of-requires : goal.span_of-requires
span_of-requires c =
    let x = c.args.fields.now in
    some_bytes x.places c.in_ok-place.ensures.typed x.given c.in_ok-place.place (sym c.in_ok-place.ensures.next)

pub returns : goal.returns
returns c w k = next_field c.args.file_length w k c.args.fields.now c.in_ok-place.place c.span_of.result (sym c.in_ok-place.ensures.next) c.span_of.ensures
