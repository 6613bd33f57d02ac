use Rattle.std.proofs.Common.{◌+◌, drop, slice_get, refl, sym, ap, ◌∙◌, arith}
use Rattle.cog_reader.specs.GeoFields.{six}
use Rattle.cog_reader.proofs.PlaceLemmas.{there, first_there, next_there, absent_there}
use Rattle.cog_reader.proofs.fields.nth_place.Goals as goal
use Rattle.cog_reader.proofs.fields.nth_place.Goals.{then-is_some+else-left-eq0, else-is_some}
use Rattle.std.proofs.lemmas.List.{drop_all}

-- src/fields.rt:44:5
pub loop-place-init : goal.loop-place-init
loop-place-init c = refl

-- src/fields.rt:54:17
pub returns-then-left-eq0 : goal.returns-then-left-eq0
returns-then-left-eq0 c =
    first_there (six c.args.places.now) c.loop-place.place-index c.loop-place.left c.loop-place-test.true (sym c.is_some.ensures ∙ c.if-is_some.true) c.if-left-eq0.true
    ∙ c.loop-place.invariant

-- src/fields.rt:44:5
pub loop-place-preserved : goal.loop-place-preserved
loop-place-preserved c =
    elim c.if-is_some.branch [
      | then-is_some+else-left-eq0 w ↦
          ap (λ k. slice_get (there (drop (c.loop-place.place-index + 1) (six c.args.places.now))) k) w.left-is
          ∙ next_there (six c.args.places.now) c.loop-place.place-index c.loop-place.left c.loop-place-test.true (sym c.is_some.ensures ∙ w.if-is_some.true) (omega (arith, w.if-left-eq0.false))
          ∙ c.loop-place.invariant
      | else-is_some w ↦
          ap (λ k. slice_get (there (drop (c.loop-place.place-index + 1) (six c.args.places.now))) k) w.left-is
          ∙ absent_there (six c.args.places.now) c.loop-place.place-index c.loop-place.left c.loop-place-test.true (sym c.is_some.ensures ∙ w.if-is_some.false)
          ∙ c.loop-place.invariant
    ]

-- src/fields.rt:40:1
pub returns : goal.returns
returns c =
    ap (λ l. slice_get (there l) c.loop-place.left) (sym (drop_all c.loop-place.place-index (six c.args.places.now) (omega (arith, c.loop-place-test.false)))) ∙ c.loop-place.invariant
