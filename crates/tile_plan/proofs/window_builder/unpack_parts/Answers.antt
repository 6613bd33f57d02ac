use Rattle.std.proofs.Common.{◌≡◌, ◌+◌, ◌-◌, ◌<◌, ◌++◌, ◌∷◌, [], ℕ, List, length, take, drop, get_or, Some, sym, subst, ap, ◌∙◌, arith, append_assoc}
use Rattle.std.specs.List.{All}
use Rattle.std.proofs.lemmas.Grind.{get_or_default_zero}
use Rattle.std.proofs.lemmas.List.{take_more, take_all}
use Rattle.tiff_dir.specs.Window.{IsUnpacked}
use Rattle.tiff_dir.specs.Described.{layout_of}
use Rattle.tile_plan.specs.Plan.{Adjoin}
use Rattle.tile_plan.specs.WindowBuilder.{tile_extent, IsPainted, HasDamage}
use Rattle.tile_plan.specs.Paint.{IsBad, IsPaint}
use Rattle.tile_plan.proofs.PaintLemmas.{tile_step, tile_end, segment_is, tile_bytes, of_part, passed_on, painted_more}
use Rattle.tile_plan.proofs.window_builder.unpack_parts.Goals as goal

pub new-requires : goal.new-requires
new-requires g c =
    let size = length (g.B.Bytes.bytes c.args.bytes.now) in
    let first = c.requires.whole.first in
    let within = tile_end (tile_extent c.args.arrays.now) first c.loop-tile.at size c.args.tiles.now c.loop-tile.tile-index (c.loop-tile.invariant.rest first c.requires.whole.adjoin) c.loop-tile-test.true in
    omega (arith, within, c.place_of-first.ensures.len)

pub loop-tile-preserved : goal.loop-tile-preserved
loop-tile-preserved g c =
    let a = c.args.arrays.now in
    let ts = c.args.tiles.now in
    let i = c.loop-tile.tile-index in
    let t = get_or ts i 0 in
    let at = c.loop-tile.at in
    let len = c.place_of-first.result.1 in
    let bytes = g.B.Bytes.bytes c.args.bytes.now in
    let size = length bytes in
    let of = ap g.B.Bytes.bytes c.new.ensures.of in
    let less : i < length ts = c.loop-tile-test.true in
    record {
      rest = λ first adjoin. (
          let step = tile_step (tile_extent a) (first + at) ts i (first + size) (c.loop-tile.invariant.rest first adjoin) less in
          let place : first + at + (tile_extent a t).len ≡ first + (at + len) = omega (arith, c.place_of-first.ensures.len) in
          subst (λ k. Adjoin (tile_extent a) k (drop (i + 1) ts) (first + size)) place step.1
          );
      level = c.paint_packed.ensures.level ∙ c.loop-tile.invariant.level;
      rectangle = c.paint_packed.ensures.rectangle ∙ c.loop-tile.invariant.rectangle;
      size = c.paint_packed.ensures.size ∙ c.loop-tile.invariant.size;
      room = c.paint_packed.auto.room ∙ c.loop-tile.invariant.room;
      plain = c.paint_packed.ensures.plain ∙ c.loop-tile.invariant.plain;
      most = c.paint_packed.ensures.most ∙ c.loop-tile.invariant.most;
      kept = λ f n first arrays bytes_of adjoin tiles.
          c.paint_packed.ensures.kept f
          (tile_bytes f first at c.place_of-first.result.0 len c.new.result.first c.new.result.len (tile_extent a) ts i bytes (g.B.Bytes.bytes c.new.result.of.now) bytes_of.are (c.loop-tile.invariant.rest first adjoin) less
          c.place_of-first.ensures.first c.place_of-first.ensures.len of c.new.ensures.place.0 c.new.ensures.place.1)
          (c.loop-tile.invariant.kept f n first arrays bytes_of adjoin tiles);
      painted = λ f n first done arrays bytes_of adjoin tiles all. (
          let rest = c.loop-tile.invariant.rest first adjoin in
          let paint = of_part (λ l. IsPaint t l c.loop-tile.canvas c.paint_packed.new.canvas) at len c.new.result.first c.new.result.len bytes (g.B.Bytes.bytes c.new.result.of.now) of c.new.ensures.place.0 c.new.ensures.place.1
          (c.in_ok-paint_packed.ensures.paint f
          (tile_bytes f first at c.place_of-first.result.0 len c.new.result.first c.new.result.len (tile_extent a) ts i bytes (g.B.Bytes.bytes c.new.result.of.now) bytes_of.are rest less
          c.place_of-first.ensures.first c.place_of-first.ensures.len of c.new.ensures.place.0 c.new.ensures.place.1)
          (c.loop-tile.invariant.kept f n first arrays bytes_of adjoin tiles)) in
          let within = tile_end (tile_extent a) first at size ts i rest less in
          let values = c.place_of-first.ensures.values f n arrays in
          let segment = segment_is f n t at first size len (at + len - at) bytes (values.first ∙ ap Some (tile_step (tile_extent a) (first + at) ts i (first + size) rest less).0)
          (values.len ∙ ap Some (sym c.place_of-first.ensures.len)) bytes_of.inside (omega (arith, within, c.place_of-first.ensures.len)) bytes_of.are (omega arith) in
          let more : done ++ take (i + 1) ts ≡ (done ++ take i ts) ++ t ∷ [] = ap (λ l. done ++ l) (take_more ts i 0 less) ∙ sym (append_assoc done (take i ts) (t ∷ [])) in
          subst (All (IsPainted f n c.paint_packed.new.canvas)) (sym more)
          (painted_more f n t (take (at + len - at) (drop at bytes)) (done ++ take i ts) c.loop-tile.canvas c.paint_packed.new.canvas paint segment
          (c.loop-tile.invariant.painted f n first done arrays bytes_of adjoin tiles all))
          );
    }

pub returns-in_err-paint_packed-clause-damaged : goal.returns-in_err-paint_packed-clause-damaged
returns-in_err-paint_packed-clause-damaged g c f n first arrays bytes_of adjoin =
    let a = c.args.arrays.now in
    let ts = c.args.tiles.now in
    let i = c.loop-tile.tile-index in
    let t = get_or ts i 0 in
    let at = c.loop-tile.at in
    let len = c.place_of-first.result.1 in
    let bytes = g.B.Bytes.bytes c.args.bytes.now in
    let size = length bytes in
    let less : i < length ts = c.loop-tile-test.true in
    let rest = c.loop-tile.invariant.rest first adjoin in
    let within = tile_end (tile_extent a) first at size ts i rest less in
    let values = c.place_of-first.ensures.values f n arrays in
    let segment = segment_is f n t at first size len (at + len - at) bytes (values.first ∙ ap Some (tile_step (tile_extent a) (first + at) ts i (first + size) rest less).0)
    (values.len ∙ ap Some (sym c.place_of-first.ensures.len)) bytes_of.inside (omega (arith, within, c.place_of-first.ensures.len)) bytes_of.are (omega arith) in
    let bad = of_part (λ l. IsBad l c.loop-tile.canvas c.in_err-paint_packed.field-0.0) at len c.new.result.first c.new.result.len bytes (g.B.Bytes.bytes c.new.result.of.now)
    (ap g.B.Bytes.bytes c.new.ensures.of) c.new.ensures.place.0 c.new.ensures.place.1 c.in_err-paint_packed.ensures.bad in
    let level = c.loop-tile.invariant.level ∙ c.requires.level in
    passed_on c.from_residual.result c.in_err-paint_packed.field-0.0 (HasDamage f n a.level ts) c.from_residual.ensures.1 (record {
      tile = t;
      among = (i, (less, sym (get_or_default_zero ts i t less)));
      bytes = take (at + len - at) (drop at bytes);
      bytes_are = segment;
      packet = bad.packet;
      wrong = subst (λ l. (plain : List ℕ) → IsUnpacked (layout_of l) (take (at + len - at) (drop at bytes)) plain → ⊥) level bad.wrong;
    })

pub returns-clause-painted : goal.returns-clause-painted
returns-clause-painted g c f n first done arrays bytes_of adjoin tiles all =
    let ts = c.args.tiles.now in
    subst (λ l. All (IsPainted f n c.loop-tile.canvas) (done ++ l)) (take_all c.loop-tile.tile-index ts (omega (arith, c.loop-tile-test.false))) (c.loop-tile.invariant.painted f n first done arrays bytes_of adjoin tiles all)

pub returns-in_err-paint_packed-clause-kept : goal.returns-in_err-paint_packed-clause-kept
returns-in_err-paint_packed-clause-kept g c f n first arrays bytes_of adjoin tiles =
    c.paint_packed.ensures.kept f
    (tile_bytes f first c.loop-tile.at c.place_of-first.result.0 c.place_of-first.result.1 c.new.result.first c.new.result.len (tile_extent c.args.arrays.now) c.args.tiles.now c.loop-tile.tile-index (g.B.Bytes.bytes c.args.bytes.now)
    (g.B.Bytes.bytes c.new.result.of.now) bytes_of.are (c.loop-tile.invariant.rest first adjoin) c.loop-tile-test.true
    c.place_of-first.ensures.first c.place_of-first.ensures.len (ap g.B.Bytes.bytes c.new.ensures.of) c.new.ensures.place.0 c.new.ensures.place.1)
    (c.loop-tile.invariant.kept f n first arrays bytes_of adjoin tiles)
