use Rattle.std.proofs.Common.{ap, sym, ◌∙◌}
use Rattle.tiff_dir.specs.Stage.{range_of}
use Rattle.tiff_dir.specs.WalkState.{WalkState}
use Rattle.tiff_dir.proofs.Bounds.{few_given}
use Rattle.tiff_dir.proofs.Told.{given_as, wanted_as}
use Rattle.tiff_dir.proofs.walk.Walk.given.Goals as goal

pub returns-clause-few : goal.returns-clause-few
returns-clause-few c = λ some. few_given c.self.inside.stage c.self.inside.given c.self.invariant.kept
    (λ none. some (wanted_as c.args.self.now ∙ ap (λ (w : WalkState). range_of w.stage) (sym c.self.view_is) ∙ none))

pub returns-clause-count : goal.returns-clause-count
returns-clause-count c = ap (λ (w : WalkState). w.given) c.self.view_is ∙ sym (given_as c.args.self.now)
