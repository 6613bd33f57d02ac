use Rattle.std.proofs.Common.{◌≡◌, ◌∙◌, Some, refl, ap, sym, arith}
use Rattle.extents.specs.Extent.{Extent}
use Rattle.tiff_dir.specs.Stage.{range_of}
use Rattle.tiff_dir.specs.WalkState.{WalkState}
use Rattle.extents.specs.Extent.{extent_of_span}
use Rattle.tiff_dir.specs.Walk.{wanted}
use Rattle.tiff_dir.proofs.Chain.{some_and_from}
use Rattle.tiff_dir.proofs.Told.{wanted_as, past_end, first_come}
use Rattle.tiff_dir.proofs.walk.Walk.need.Goals as goal

pub returns-in_default-clause-wanted : goal.returns-in_default-clause-wanted
returns-in_default-clause-wanted c = wanted_as c.args.self.now ∙ ap (λ (w : WalkState). range_of w.stage) (sym c.self.view_is) ∙ c.in_default.ensures.wanted

pub returns-in_default-clause-first : goal.returns-in_default-clause-first
returns-in_default-clause-first c = λ f told. first_come c.args.self.now f told

pub returns-then-span-file_length-clause-past : goal.returns-then-span-file_length-clause-past
returns-then-span-file_length-clause-past c =
    let r : Extent = extent_of_span c.in-Some.span in
    let is : wanted c.args.self.now ≡ Some r = wanted_as c.args.self.now ∙ ap (λ (w : WalkState). range_of w.stage) (sym c.self.view_is) ∙ c.in-Some.ensures.wanted in
    (refl, some_and_from (wanted c.args.self.now) _ r is (omega (arith, c.in-Some.span.ascending, c.if-span-file_length.true)))

pub returns-then-span-file_length-clause-fault : goal.returns-then-span-file_length-clause-fault
returns-then-span-file_length-clause-fault c = λ f file_length told.
    let r : Extent = extent_of_span c.in-Some.span in
    let is : wanted c.args.self.now ≡ Some r = wanted_as c.args.self.now ∙ ap (λ (w : WalkState). range_of w.stage) (sym c.self.view_is) ∙ c.in-Some.ensures.wanted in
    past_end c.args.self.now f r told is (rw file_length (omega (arith, c.in-Some.span.ascending, c.if-span-file_length.true)))

pub returns-then-span-file_length-clause-first : goal.returns-then-span-file_length-clause-first
returns-then-span-file_length-clause-first c = λ f told. first_come c.args.self.now f told

pub returns-clause-wanted : goal.returns-clause-wanted
returns-clause-wanted c =
    let r : Extent = extent_of_span c.in-Some.span in
    let is : wanted c.args.self.now ≡ Some r = wanted_as c.args.self.now ∙ ap (λ (w : WalkState). range_of w.stage) (sym c.self.view_is) ∙ c.in-Some.ensures.wanted in
    (is, omega (arith, c.if-span-file_length.false), c.in-Some.ensures.small)

pub returns-clause-first : goal.returns-clause-first
returns-clause-first c = λ f told. first_come c.args.self.now f told
