use Rattle.std.proofs.Common.{length, sym, subst, ap, ◌∙◌, arith}
use Rattle.std.proofs.lemmas.List.{length-replicate}
use Rattle.tile_plan.specs.Levels.{IsSmall}
use Rattle.tile_plan.specs.Canvas.{Picture, picture_size}
use Rattle.tile_plan.specs.Plan.{range_in, AreGroups, IsPlanned}
use Rattle.tile_plan.specs.WindowBuilder.{tile_extent}
use Rattle.tile_plan.proofs.window_builder.WindowBuilder.new.Goals as goal

pub returns-clause-plan : goal.returns-clause-plan
returns-clause-plan c =
    let a = c.args.arrays.now in
    let gs = c.in_ok-groups.groups.items in
    let canvas = c.in_ok-canvas.ensures in
    let offsets = subst (λ o. AreGroups (range_in a.order a.level o c.deref-2.result.now) a.level c.args.rect c.args.file_length gs) c.deref.ensures.value c.in_ok-groups.ensures.groups in
    let counts = subst (λ n. AreGroups (range_in a.order a.level a.offsets.items n) a.level c.args.rect c.args.file_length gs) c.deref-2.ensures.value offsets in
    record {
      level = ap (λ (p : Picture). p.level) canvas;
      are = subst (λ r. AreGroups (tile_extent a) a.level r c.args.file_length gs) (sym (ap (λ (p : Picture). p.rectangle) canvas)) counts;
    }

pub returns-clause-underway : goal.returns-clause-underway
returns-clause-underway c f q size p =
    let a = c.args.arrays.now in
    let gs = c.in_ok-groups.groups.items in
    let rectangle = sym (ap (λ (p : Picture). p.rectangle) c.in_ok-canvas.ensures) in
    let offsets = subst (λ o. AreGroups (range_in a.order a.level o c.deref-2.result.now) a.level c.args.rect c.args.file_length gs) c.deref.ensures.value c.in_ok-groups.ensures.groups in
    let counts = subst (λ n. AreGroups (range_in a.order a.level a.offsets.items n) a.level c.args.rect c.args.file_length gs) c.deref-2.ensures.value offsets in
    let asked = subst (λ n. IsPlanned f q a.order a.level c.args.rect c.args.file_length c.deref.result.now n) (sym c.deref-2.ensures.value)
    (subst (λ o. IsPlanned f q a.order a.level c.args.rect c.args.file_length o a.counts.items) (sym c.deref.ensures.value) p) in
    record {
      planned = subst (λ n. IsPlanned f q a.order a.level c.in_ok-canvas.canvas.rectangle n a.offsets.items a.counts.items) (sym size)
          (subst (λ r. IsPlanned f q a.order a.level r c.args.file_length a.offsets.items a.counts.items) rectangle p);
      are = subst (λ n. AreGroups (tile_extent a) a.level c.in_ok-canvas.canvas.rectangle n gs) (sym size) (subst (λ r. AreGroups (tile_extent a) a.level r c.args.file_length gs) rectangle counts);
      level = ap (λ (p : Picture). p.level) c.in_ok-canvas.ensures;
      small = subst (IsSmall a.level) rectangle c.requires;
      size = ap (λ (p : Picture). length p.bytes) c.in_ok-canvas.ensures ∙ length-replicate (picture_size a.level c.args.rect) 0 ∙ ap (picture_size a.level) rectangle;
      needed = c.in_ok-groups.ensures.needed f q asked;
      painted = λ k d less. absurd (omega arith);
    }
