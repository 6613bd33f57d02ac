use Rattle.std.proofs.Common.{◌++◌, length, take, sym, subst, ap, ◌∙◌}
use Rattle.std.specs.List.{All}
use Rattle.std.specs.Prelude.{slice_get}
use Rattle.tiff_dir.specs.Faulty.{IsFaultOfWindow}
use Rattle.tile_plan.specs.WindowBuilder.{WindowState, tiles_of_groups, IsPainted}
use Rattle.tile_plan.proofs.PaintLemmas.{passed_on}
use Rattle.tile_plan.proofs.BuilderLemmas.{found, whole_group, given_bytes, arrays_of, underway_more, damaged}
use Rattle.tile_plan.proofs.window_builder.WindowBuilder.unpack.Goals as goal

pub unpack_parts-requires-clause-whole : goal.unpack_parts-requires-clause-whole
unpack_parts-requires-clause-whole g c =
    let there = found c.self.inside.groups.items c.deref.result.now c.self.inside.given c.in-Some.group.now c.deref.ensures.value c.in-Some.ensures.lookup.0 c.in-Some.ensures.lookup.1 in
    whole_group c.requires.plan.0 c.args.arrays.now c.args.self.now c.in-Some.group.now c.deref-2.result.now (length (g.B.Bytes.bytes c.args.bytes.now)) c.requires.plan.1
    (ap (λ (w : WindowState). slice_get w.groups w.given) (sym c.self.view_is) ∙ there) c.deref-2.ensures.value c.requires.wanted

pub returns-in_err-unpack_parts-clause-damaged : goal.returns-in_err-unpack_parts-clause-damaged
returns-in_err-unpack_parts-clause-damaged g c f q w next =
    let a = c.args.arrays.now in
    let bytes = g.B.Bytes.bytes c.args.bytes.now in
    let h = c.in-Some.group.now in
    let ts = c.deref-2.result.now in
    let work : WindowState = record { groups = c.self.inside.groups.items; given = c.self.inside.given; picture = c.self.inside.canvas } in
    let there = found c.self.inside.groups.items c.deref.result.now c.self.inside.given h c.deref.ensures.value c.in-Some.ensures.lookup.0 c.in-Some.ensures.lookup.1 in
    let (u, of, adjoin) = given_bytes f q a work c.args.self.now h ts bytes c.self.view_is there c.deref-2.ensures.value c.requires.wanted w next in
    let bad = c.in_err-unpack_parts.ensures.damaged f work.picture.rectangle.level h.span.first (arrays_of f q a work u) of adjoin in
    passed_on c.from_residual.result c.in_err-unpack_parts.field-0.0 (IsFaultOfWindow f q) c.from_residual.ensures.1
    (damaged f q a work h ts c.in_err-unpack_parts.field-0.0 u there c.deref-2.ensures.value bad)

pub returns-in_err-unpack_parts-clause-kept : goal.returns-in_err-unpack_parts-clause-kept
returns-in_err-unpack_parts-clause-kept g c f q w next tiles =
    let a = c.args.arrays.now in
    let bytes = g.B.Bytes.bytes c.args.bytes.now in
    let h = c.in-Some.group.now in
    let ts = c.deref-2.result.now in
    let work : WindowState = record { groups = c.self.inside.groups.items; given = c.self.inside.given; picture = c.self.inside.canvas } in
    let there = found c.self.inside.groups.items c.deref.result.now c.self.inside.given h c.deref.ensures.value c.in-Some.ensures.lookup.0 c.in-Some.ensures.lookup.1 in
    let (u, of, adjoin) = given_bytes f q a work c.args.self.now h ts bytes c.self.view_is there c.deref-2.ensures.value c.requires.wanted w next in
    c.unpack_parts.ensures.kept f work.picture.rectangle.level h.span.first (arrays_of f q a work u) of adjoin tiles

pub returns-clause-kept : goal.returns-clause-kept
returns-clause-kept g c f q w next tiles =
    let a = c.args.arrays.now in
    let bytes = g.B.Bytes.bytes c.args.bytes.now in
    let h = c.in-Some.group.now in
    let ts = c.deref-2.result.now in
    let work : WindowState = record { groups = c.self.inside.groups.items; given = c.self.inside.given; picture = c.self.inside.canvas } in
    let there = found c.self.inside.groups.items c.deref.result.now c.self.inside.given h c.deref.ensures.value c.in-Some.ensures.lookup.0 c.in-Some.ensures.lookup.1 in
    let (u, of, adjoin) = given_bytes f q a work c.args.self.now h ts bytes c.self.view_is there c.deref-2.ensures.value c.requires.wanted w next in
    c.unpack_parts.ensures.kept f work.picture.rectangle.level h.span.first (arrays_of f q a work u) of adjoin tiles

pub returns-clause-underway : goal.returns-clause-underway
returns-clause-underway g c f q w next tiles =
    let a = c.args.arrays.now in
    let bytes = g.B.Bytes.bytes c.args.bytes.now in
    let h = c.in-Some.group.now in
    let ts = c.deref-2.result.now in
    let work : WindowState = record { groups = c.self.inside.groups.items; given = c.self.inside.given; picture = c.self.inside.canvas } in
    let there = found c.self.inside.groups.items c.deref.result.now c.self.inside.given h c.deref.ensures.value c.in-Some.ensures.lookup.0 c.in-Some.ensures.lookup.1 in
    let (u, of, adjoin) = given_bytes f q a work c.args.self.now h ts bytes c.self.view_is there c.deref-2.ensures.value c.requires.wanted w next in
    let painted = c.in_ok-unpack_parts.ensures.painted f work.picture.rectangle.level h.span.first (tiles_of_groups (take work.given work.groups)) (arrays_of f q a work u) of adjoin tiles u.painted in
    underway_more f q a work h c.unpack_parts.new.canvas u there c.in_ok-unpack_parts.ensures.level c.in_ok-unpack_parts.ensures.rectangle c.in_ok-unpack_parts.ensures.size
    (subst (λ l. All (IsPainted f work.picture.rectangle.level c.unpack_parts.new.canvas) (tiles_of_groups (take work.given work.groups) ++ l)) c.deref-2.ensures.value painted)
