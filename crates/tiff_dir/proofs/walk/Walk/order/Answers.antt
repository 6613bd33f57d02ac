use Rattle.std.proofs.Common.{◌≡◌, None, ap, sym, ◌∙◌}
use Rattle.tiff_dir.specs.Stage.{range_of}
use Rattle.tiff_dir.specs.WalkState.{WalkState}
use Rattle.tiff_dir.proofs.Told.{wanted_as, ended_stage, ended_order}
use Rattle.tiff_dir.proofs.walk.Walk.order.Goals as goal

pub unreachable-requires : goal.unreachable-requires
unreachable-requires c =
    let none : range_of c.self.inside.stage ≡ None = ap (λ (w : WalkState). range_of w.stage) c.self.view_is ∙ sym (wanted_as c.args.self.now) ∙ c.requires in
    let (o, k, is) = ended_stage c.self.inside.stage none in
    c.in_default.not-Ended o k is

pub returns : goal.returns
returns c = record { order = λ f told. ended_order c.args.self.now f c.in-Ended.order _ (ap (λ (w : WalkState). w.stage) (sym c.self.view_is) ∙ c.in-Ended.is) told }
