use Rattle.tiff_dir.specs.declared.tags.TheConstants.{TILE_BYTE_COUNTS, TILE_OFFSETS}
use Rattle.std.proofs.Common.{◌≡◌, ◌*◌, ◌<◌, ◌∙◌, Some, sym, ap}
use Rattle.tiff_dir.specs.declared.level.Kind.TheVariants.{Long}
use Rattle.tiff_dir.specs.Described.{layout_of}
use Rattle.tiff_dir.specs.Level.{level_value}
use Rattle.tiff_dir.specs.Number.{number_in}
use Rattle.tiff_dir.proofs.TileValues.{offset_told, count_told}
use Rattle.tiff_dir.proofs.tiles.tile_of.Goals as goal

pub returns-in-Short-clause-first : goal.returns-in-Short-clause-first
returns-in-Short-clause-first c = λ f n named level part.
    let l = c.args.level.now in
    let less : c.args.t < l.offsets.count = rw l.offset_of_each c.requires.tile in
    let told : level_value f n TILE_OFFSETS c.args.t ≡ Some (number_in c.args.order (c.args.t * 4) 4 c.args.offsets.now) =
    rw l.kinds.0 at (offset_told f c.args.offsets.now c.args.order n c.args.t (layout_of l) named level l.lens.0 less c.requires.offsets part) in
    told ∙ ap Some (sym c.long_at-offset.ensures)

pub returns-in-Short-clause-len : goal.returns-in-Short-clause-len
returns-in-Short-clause-len c = λ f n named level part.
    let l = c.args.level.now in
    let less : c.args.t < l.counts.count = rw l.count_of_each c.requires.tile in
    let told : level_value f n TILE_BYTE_COUNTS c.args.t ≡ Some (number_in c.args.order (c.args.t * 2) 2 c.args.counts.now) =
    rw c.in-Short.is at (count_told f c.args.counts.now c.args.order n c.args.t (layout_of l) named level l.lens.1 less c.requires.counts part) in
    told ∙ ap Some (sym c.short_at.ensures ∙ sym c.from-count.ensures)

pub returns-in_default : goal.returns-in_default
returns-in_default c =
    let l = c.args.level.now in
    let long : l.counts.kind ≡ Long = l.kinds.1 c.in_default.not-Short in
    record {
      offset = c.long_at-offset.ensures;
      count = rw long c.long_at-count.ensures;
      first = λ f n named level part. (
          let less : c.args.t < l.offsets.count = rw l.offset_of_each c.requires.tile in
          let told : level_value f n TILE_OFFSETS c.args.t ≡ Some (number_in c.args.order (c.args.t * 4) 4 c.args.offsets.now) =
          rw l.kinds.0 at (offset_told f c.args.offsets.now c.args.order n c.args.t (layout_of l) named level l.lens.0 less c.requires.offsets part) in
          told ∙ ap Some (sym c.long_at-offset.ensures));
      len = λ f n named level part. (
          let less : c.args.t < l.counts.count = rw l.count_of_each c.requires.tile in
          let told : level_value f n TILE_BYTE_COUNTS c.args.t ≡ Some (number_in c.args.order (c.args.t * 4) 4 c.args.counts.now) =
          rw long at (count_told f c.args.counts.now c.args.order n c.args.t (layout_of l) named level l.lens.1 less c.requires.counts part) in
          told ∙ ap Some (sym c.long_at-count.ensures));
    }
