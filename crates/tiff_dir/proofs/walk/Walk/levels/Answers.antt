use Rattle.std.proofs.Common.{◌≡◌, ◌<◌, ◌∙◌, List, length, None, ap, sym, subst}
use Rattle.tiff_dir.specs.declared.level.Level.{Level}
use Rattle.tiff_dir.specs.Stage.{range_of}
use Rattle.tiff_dir.specs.Described.{AreLevels}
use Rattle.tiff_dir.specs.WalkState.{WalkState}
use Rattle.tiff_dir.specs.Walk.{levels_of}
use Rattle.tiff_dir.proofs.Bounds.{ended_some}
use Rattle.tiff_dir.proofs.Told.{wanted_as, ended_levels}
use Rattle.tiff_dir.proofs.walk.Walk.levels.Goals as goal

pub returns-clause-levels : goal.returns-clause-levels
returns-clause-levels c = λ f told.
    let same : c.as_slice.result.now ≡ c.args.self.now.levels = c.as_slice.ensures.value ∙ ap (λ (w : WalkState). w.levels) c.self.view_is in
    let P : List Level → Type 0 = λ ls. AreLevels f ls in
    subst P (sym same) (ended_levels c.args.self.now f c.requires told)

pub returns-clause-some : goal.returns-clause-some
returns-clause-some c =
    let none : range_of c.self.inside.stage ≡ None = ap (λ (w : WalkState). range_of w.stage) c.self.view_is ∙ sym (wanted_as c.args.self.now) ∙ c.requires in
    let some = c.self.invariant.some (ended_some c.self.inside.stage c.self.inside.given c.self.invariant.kept none) in
    let P : List Level → Type 0 = λ ls. 0 < length ls in
    subst P (sym c.as_slice.ensures.value) some

pub returns-clause-held : goal.returns-clause-held
unfolding levels_of
returns-clause-held c = c.as_slice.ensures.value ∙ ap (λ (w : WalkState). w.levels) c.self.view_is
