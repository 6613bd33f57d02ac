use Rattle.std.proofs.Common.{◌≡◌, ◌+◌, ◌-◌, ◌≤◌, ◌∙◌, List, length, None, sym, ap, subst}
use Rattle.std.specs.Prelude.{slice_get}
use Rattle.std.specs.List.{last_or}
use Rattle.tiff_dir.specs.declared.level.Level.{Level}
use Rattle.tiff_dir.specs.Stage.{IsBefore, index_of, range_of}
use Rattle.std.proofs.lemmas.Option.{none-some}
use Rattle.tiff_dir.proofs.Bounds.{few_given}
use Rattle.tiff_dir.specs.WalkState.{WalkState}
use Rattle.tiff_dir.specs.Walk.{WalkAgrees, IsWanted, IsWantedOf, wanted}
use Rattle.tiff_dir.proofs.Chain.{some_and_from}
use Rattle.tiff_dir.proofs.Ranges.{last_or-slice_get}
use Rattle.tiff_dir.proofs.Told.{wanted_len, wanted_is, wanted_parts, wanted_part, here_is, is_before, geo_next, told_next, come_next, if_file, so_far, given_as, wanted_as}
use Rattle.tiff_dir.proofs.walk.Walk.give.Goals as goal

pub step-requires-clause-whole : goal.step-requires-clause-whole
step-requires-clause-whole c = rw (← c.self.view_is) at (wanted_len c.args.self.now _ c.requires)

pub geo_after-geo-requires-clause-whole : goal.geo_after-geo-requires-clause-whole
geo_after-geo-requires-clause-whole c = rw (← c.self.view_is) at (wanted_len c.args.self.now _ c.requires)

pub returns-in_err-step-clause-fault : goal.returns-in_err-step-clause-fault
returns-in_err-step-clause-fault c = if_file c.from_residual.result c.in_err-step.field-0.0 _ c.from_residual.ensures.1 (λ f t given.
    let w : WalkState = record { stage = c.self.inside.stage; levels = c.self.inside.levels.items; geo = c.self.inside.geo; given = c.self.inside.given } in
    let P : WalkState → Type 0 = λ x. WalkAgrees x f in
    let G : WalkState → Type 0 = λ x. IsWantedOf f x c.args.bytes.now in
    let told : WalkAgrees w f = subst P (sym c.self.view_is) t in
    let part : IsWantedOf f w c.args.bytes.now = subst G (sym c.self.view_is) given in
    let previous : c.copied-previous.result ≡ last_or None c.self.inside.levels.items =
    c.copied-previous.ensures ∙ c.last.ensures.value ∙ ap (λ (xs : List Level). slice_get xs (length xs - 1)) c.deref.ensures.value ∙ sym (last_or-slice_get c.self.inside.levels.items) in
    let before : IsBefore f (index_of c.self.inside.stage) c.copied-previous.result = rw previous (is_before f w told) in
    c.in_err-step.ensures.agrees f (here_is f w told) before (wanted_parts f c.args.bytes.now w part))

pub invariant_of-self-2 : goal.invariant_of-self-2
invariant_of-self-2 c = so_far c.self.inside.stage c.self.inside.levels.items c.keep.new.levels.items c.self.inside.geo c.geo_after-geo.result c.self.inside.given c.in_ok-step.step c.self.invariant c.in_ok-step.ensures.next c.in_ok-keep.ensures.ok c.geo_after-geo.ensures.near

pub returns-clause-agrees : goal.returns-clause-agrees
returns-clause-agrees c = λ f t given.
    let w : WalkState = record { stage = c.self.inside.stage; levels = c.self.inside.levels.items; geo = c.self.inside.geo; given = c.self.inside.given } in
    let P : WalkState → Type 0 = λ x. WalkAgrees x f in
    let G : WalkState → Type 0 = λ x. IsWantedOf f x c.args.bytes.now in
    let H : WalkState → Type 0 = λ x. IsWanted x (length c.args.bytes.now) in
    let told : WalkAgrees w f = subst P (sym c.self.view_is) t in
    let part : IsWantedOf f w c.args.bytes.now = subst G (sym c.self.view_is) given in
    let wants : IsWanted w (length c.args.bytes.now) = subst H (sym c.self.view_is) c.requires in
    let (r, is, len, some) = wanted_is w (length c.args.bytes.now) wants in
    let previous : c.copied-previous.result ≡ last_or None c.self.inside.levels.items =
    c.copied-previous.ensures ∙ c.last.ensures.value ∙ ap (λ (xs : List Level). slice_get xs (length xs - 1)) c.deref.ensures.value ∙ sym (last_or-slice_get c.self.inside.levels.items) in
    let before : IsBefore f (index_of c.self.inside.stage) c.copied-previous.result = rw previous (is_before f w told) in
    let on = c.in_ok-step.ensures.agrees f (here_is f w told) before (wanted_parts f c.args.bytes.now w part) in
    let geo = geo_next f w c.in_ok-step.step.stage c.geo_after-geo.result told c.in_ok-step.ensures.next.first
    (λ first. c.geo_after-geo.ensures.taken first f (here_is f w told) (wanted_parts f c.args.bytes.now w part)) c.geo_after-geo.ensures.same in
    told_next f c.args.bytes.now w c.in_ok-step.step r c.keep.new.levels.items c.geo_after-geo.result told is (wanted_part f c.args.bytes.now w r is part) len (rw (← len) some) on c.in_ok-keep.ensures.ok geo

pub returns-clause-come : goal.returns-clause-come
returns-clause-come c = λ f t.
    let (r, is, len, some) = wanted_is c.args.self.now (length c.args.bytes.now) c.requires in
    some_and_from (wanted c.args.self.now) _ r is (come_next f c.args.self.now r _ t is (ap (λ (w : WalkState). w.given + 1) c.self.view_is))

pub returns-clause-given : goal.returns-clause-given
returns-clause-given c = given_as _ ∙ ap (λ (w : WalkState). w.given + 1) c.self.view_is ∙ ap (λ n. n + 1) (sym (given_as c.args.self.now))

pub returns-clause-few : goal.returns-clause-few
returns-clause-few c =
    let (r, is, len, some) = wanted_is c.args.self.now (length c.args.bytes.now) c.requires in
    subst (λ n. n ≤ 64) (ap (λ (w : WalkState). w.given) c.self.view_is ∙ sym (given_as c.args.self.now)) (few_given c.self.inside.stage c.self.inside.given c.self.invariant.kept
    (λ none. none-some r (sym none ∙ ap (λ (w : WalkState). range_of w.stage) c.self.view_is ∙ sym (wanted_as c.args.self.now) ∙ is)))
