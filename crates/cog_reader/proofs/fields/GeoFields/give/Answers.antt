use Rattle.std.proofs.Common.{◌≡◌, ◌+◌, length, sym, subst}
use Rattle.std.specs.Prelude.{IsSomeAnd, slice_get}
use Rattle.tiff_dir.specs.Walk.{IsArrayOf}
use Rattle.cog_reader.specs.GeoFields.{FieldsState, present_in, IsReadOf}
use Rattle.cog_reader.proofs.KeptLemmas.{some_at}
use Rattle.cog_reader.proofs.FieldLemmas.{next_place, reading_more, read_more, some_bytes}
use Rattle.cog_reader.proofs.fields.GeoFields.give.Goals as goal

pub invariant_of-self-2 : goal.invariant_of-self-2
invariant_of-self-2 c =
    let i = c.self.inside in
    let wanted = subst (λ (r : FieldsState). IsSomeAnd (slice_get (present_in r.places) r.given) (λ p. length c.args.bytes.now ≡ p.len)) (sym c.self.view_is) c.requires in
    let (p, there, len) = next_place (present_in i.places) i.given (length c.args.bytes.now) wanted in
    reading_more i.places i.given i.bytes.items c.args.bytes.now c.extend_from_slice.new.self.items p c.self.invariant there len
    c.in_ok-extend_from_slice.ensures.items

pub returns-clause-fields : goal.returns-clause-fields
returns-clause-fields c f read given =
    let i = c.self.inside in
    let r : FieldsState = record { places = i.places; given = i.given; bytes = i.bytes.items } in
    let wanted = subst (λ (r : FieldsState). IsSomeAnd (slice_get (present_in r.places) r.given) (λ p. length c.args.bytes.now ≡ p.len)) (sym c.self.view_is) c.requires in
    let (p, there, len) = next_place (present_in i.places) i.given (length c.args.bytes.now) wanted in
    let here = subst (λ (r : FieldsState). IsSomeAnd (slice_get (present_in r.places) r.given) (λ p. IsArrayOf f p c.args.bytes.now)) (sym c.self.view_is) given in
    let more = read_more f r p c.args.bytes.now (subst (IsReadOf f) (sym c.self.view_is) read) there (some_at (slice_get (present_in i.places) i.given) p (λ p. IsArrayOf f p c.args.bytes.now) there here) len
    (some_bytes i.places c.self.invariant.typed i.given p there) in
    subst (λ l. IsReadOf f (record r { given = i.given + 1; bytes = l })) (sym c.in_ok-extend_from_slice.ensures.items) more
