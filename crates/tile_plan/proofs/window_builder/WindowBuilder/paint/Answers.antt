use Rattle.std.proofs.Common.{◌++◌, length, take, sym, subst, ap, ◌∙◌}
use Rattle.std.specs.List.{All}
use Rattle.std.specs.Prelude.{slice_get}
use Rattle.tile_plan.specs.WindowBuilder.{WindowState, tiles_of_groups, IsPainted}
use Rattle.tile_plan.proofs.BuilderLemmas.{found, whole_group, given_bytes, arrays_of, underway_more}
use Rattle.tile_plan.proofs.window_builder.WindowBuilder.paint.Goals as goal

pub paint_parts-requires-clause-whole : goal.paint_parts-requires-clause-whole
paint_parts-requires-clause-whole g c =
    let there = found c.self.inside.groups.items c.deref.result.now c.self.inside.given c.in-Some.group.now c.deref.ensures.value c.in-Some.ensures.lookup.0 c.in-Some.ensures.lookup.1 in
    whole_group c.requires.plan.0 c.args.arrays.now c.args.self.now c.in-Some.group.now c.deref-2.result.now (length (g.B.Bytes.bytes c.args.bytes.now)) c.requires.plan.1
    (ap (λ (w : WindowState). slice_get w.groups w.given) (sym c.self.view_is) ∙ there) c.deref-2.ensures.value c.requires.wanted

pub returns-clause-underway : goal.returns-clause-underway
returns-clause-underway g c f q w next =
    let a = c.args.arrays.now in
    let bytes = g.B.Bytes.bytes c.args.bytes.now in
    let h = c.in-Some.group.now in
    let ts = c.deref-2.result.now in
    let work : WindowState = record { groups = c.self.inside.groups.items; given = c.self.inside.given; picture = c.self.inside.canvas } in
    let there = found c.self.inside.groups.items c.deref.result.now c.self.inside.given h c.deref.ensures.value c.in-Some.ensures.lookup.0 c.in-Some.ensures.lookup.1 in
    let (u, of, adjoin) = given_bytes f q a work c.args.self.now h ts bytes c.self.view_is there c.deref-2.ensures.value c.requires.wanted w next in
    let painted = c.paint_parts.ensures.painted f work.picture.rectangle.level h.span.first (tiles_of_groups (take work.given work.groups)) (arrays_of f q a work u) of adjoin u.painted in
    underway_more f q a work h c.paint_parts.new.canvas u there c.paint_parts.ensures.level c.paint_parts.ensures.rectangle c.paint_parts.ensures.size
    (subst (λ l. All (IsPainted f work.picture.rectangle.level c.paint_parts.new.canvas) (tiles_of_groups (take work.given work.groups) ++ l)) c.deref-2.ensures.value painted)
