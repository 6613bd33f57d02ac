use Rattle.std.proofs.Common.{◌≡◌, ◌+◌, ◌-◌, ◌<◌, ◌≤◌, ◌++◌, ◌∷◌, [], length, take, drop, get_or, Some, sym, subst, ap, ◌∙◌, arith, append_assoc}
use Rattle.std.specs.List.{All}
use Rattle.std.proofs.lemmas.List.{take_more, take_all}
use Rattle.tile_plan.specs.Canvas.{IsBlit}
use Rattle.tile_plan.specs.Plan.{Adjoin}
use Rattle.tile_plan.specs.WindowBuilder.{tile_extent, IsPainted}
use Rattle.tiff_dir.specs.Level.{plain_size}
use Rattle.tiff_dir.specs.Described.{layout_of}
use Rattle.tile_plan.proofs.PaintLemmas.{tile_step, tile_end, segment_is, painted_more, painted_plain, of_part, part_size, size_of_part}
use Rattle.tile_plan.proofs.window_builder.paint_parts.Goals as goal

pub new-requires : goal.new-requires
new-requires g c =
    let size = length (g.B.Bytes.bytes c.args.bytes.now) in
    let first = c.requires.whole.first in
    let within = tile_end (tile_extent c.args.arrays.now) first c.loop-tile.at size c.args.tiles.now c.loop-tile.tile-index (c.loop-tile.invariant.rest first c.requires.whole.adjoin) c.loop-tile-test.true in
    omega (arith, within, c.place_of-len.ensures.len)

pub blit-requires-clause-size : goal.blit-requires-clause-size
blit-requires-clause-size g c =
    let a = c.args.arrays.now in
    let ts = c.args.tiles.now in
    let bytes = g.B.Bytes.bytes c.args.bytes.now in
    let i = c.loop-tile.tile-index in
    let at = c.loop-tile.at in
    let less : i < length ts = c.loop-tile-test.true in
    let within = tile_end (tile_extent a) c.requires.whole.first at (length bytes) ts i (c.loop-tile.invariant.rest c.requires.whole.first c.requires.whole.adjoin) less in
    size_of_part at c.place_of-len.result.1 c.new.result.first c.new.result.len bytes (g.B.Bytes.bytes c.new.result.of.now) (plain_size (layout_of c.loop-tile.canvas.level))
    (ap g.B.Bytes.bytes c.new.ensures.of) c.new.ensures.place.0 c.new.ensures.place.1
    (part_size a at (get_or ts i 0) c.place_of-len.result.1 bytes c.loop-tile.canvas.level within c.place_of-len.ensures.len (c.requires.whole.plain i 0 less c.requires.plain)
    (sym c.requires.level ∙ sym c.loop-tile.invariant.level))

pub loop-tile-preserved : goal.loop-tile-preserved
loop-tile-preserved g c =
    let a = c.args.arrays.now in
    let ts = c.args.tiles.now in
    let bytes = g.B.Bytes.bytes c.args.bytes.now in
    let i = c.loop-tile.tile-index in
    let t = get_or ts i 0 in
    let at = c.loop-tile.at in
    let len = c.place_of-len.result.1 in
    let size = length bytes in
    let less : i < length ts = c.loop-tile-test.true in
    let is : a.level ≡ c.loop-tile.canvas.level = sym c.requires.level ∙ sym c.loop-tile.invariant.level in
    let part = take (at + len - at) (drop at bytes) in
    let within_all : at + (tile_extent a t).len ≤ size = tile_end (tile_extent a) c.requires.whole.first at size ts i (c.loop-tile.invariant.rest c.requires.whole.first c.requires.whole.adjoin) less in
    let blit = of_part (λ l. IsBlit t l c.loop-tile.canvas c.blit.new.self) at len c.new.result.first c.new.result.len bytes (g.B.Bytes.bytes c.new.result.of.now)
    (ap g.B.Bytes.bytes c.new.ensures.of) c.new.ensures.place.0 c.new.ensures.place.1 c.blit.ensures in
    let long : length part ≡ plain_size (layout_of c.loop-tile.canvas.level) = part_size a at t len bytes c.loop-tile.canvas.level within_all c.place_of-len.ensures.len (c.requires.whole.plain i 0 less c.requires.plain) is in
    let paint = painted_plain t part c.loop-tile.canvas c.blit.new.self (ap (λ l. l.compression) (sym is) ∙ c.requires.plain) long blit in
    record {
      rest = λ first adjoin. (
          let step = tile_step (tile_extent a) (first + at) ts i (first + size) (c.loop-tile.invariant.rest first adjoin) less in
          let place : first + at + (tile_extent a t).len ≡ first + (at + len) = omega (arith, c.place_of-len.ensures.len) in
          subst (λ k. Adjoin (tile_extent a) k (drop (i + 1) ts) (first + size)) place step.1
          );
      level = c.blit.ensures.level ∙ c.loop-tile.invariant.level;
      rectangle = c.blit.ensures.rectangle ∙ c.loop-tile.invariant.rectangle;
      size = c.blit.ensures.size ∙ c.loop-tile.invariant.size;
      painted = λ f n first done arrays bytes_of adjoin all. (
          let rest = c.loop-tile.invariant.rest first adjoin in
          let within = tile_end (tile_extent a) first at size ts i rest less in
          let values = c.place_of-len.ensures.values f n arrays in
          let segment = segment_is f n t at first size len (at + len - at) bytes (values.first ∙ ap Some (tile_step (tile_extent a) (first + at) ts i (first + size) rest less).0)
          (values.len ∙ ap Some (sym c.place_of-len.ensures.len)) bytes_of.inside (omega (arith, within, c.place_of-len.ensures.len)) bytes_of.are (omega arith) in
          let more : done ++ take (i + 1) ts ≡ (done ++ take i ts) ++ t ∷ [] = ap (λ l. done ++ l) (take_more ts i 0 less) ∙ sym (append_assoc done (take i ts) (t ∷ [])) in
          subst (All (IsPainted f n c.blit.new.self)) (sym more)
          (painted_more f n t part (done ++ take i ts) c.loop-tile.canvas c.blit.new.self paint segment
          (c.loop-tile.invariant.painted f n first done arrays bytes_of adjoin all))
          );
    }

pub returns-clause-painted : goal.returns-clause-painted
returns-clause-painted g c f n first done arrays bytes_of adjoin all =
    let ts = c.args.tiles.now in
    subst (λ l. All (IsPainted f n c.loop-tile.canvas) (done ++ l)) (take_all c.loop-tile.tile-index ts (omega (arith, c.loop-tile-test.false))) (c.loop-tile.invariant.painted f n first done arrays bytes_of adjoin all)
