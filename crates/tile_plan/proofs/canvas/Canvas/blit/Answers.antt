use Rattle.std.proofs.Common.{◌≡◌, ◌-◌, ◌*◌, ◌/◌, ◌%◌, ◌≤◌, length, refl, sym, ap, subst, ◌∙◌, arith}
use Rattle.std.proofs.lemmas.List.{with_items_is}
use Rattle.tiff_dir.specs.Level.{plain_size}
use Rattle.tiff_dir.specs.Described.{layout_of}
use Rattle.tile_plan.specs.Rows.{at, AreCopied}
use Rattle.tile_plan.specs.Canvas.{IsBlit}
use Rattle.tile_plan.proofs.BlitLemmas.{cut_of, sides_of, rows_read, rows_written, read_fits, written_fits, tile_size, tile_rows, picture_rows, picture, blit_none, blit_is}
use Rattle.tile_plan.proofs.canvas.Canvas.blit.Goals as goal
use Rattle.tile_plan.proofs.canvas.Canvas.blit.Goals.{then-columns-via-then-columns, then-columns-via-else-columns+then-rows}

pub returns-then-columns : goal.returns-then-columns
returns-then-columns g c =
    let l = c.self.inside.level in
    let r = c.self.inside.rect in
    let columns = c.common-columns.ensures in
    let rows = c.common-rows.ensures in
    let cut = cut_of r.w r.h r.x r.y l.tile_width l.tile_length columns.first columns.end rows.first rows.end in
    let same = blit_none l r (g.B.Bytes.bytes c.args.bytes.now) c.self.inside.bytes.items (record { across_is = c.tiles_across-across.ensures.count; x_is = refl; y_is = refl }) (sides_of l r c.self.invariant.0.inside) cut in
    elim c.then-columns.branch [
      | then-columns-via-then-columns w ↦ subst (λ p. IsBlit c.args.tile (g.B.Bytes.bytes c.args.bytes.now) p p) c.self.view_is (same (λ some more. absurd (omega (arith, some, w.if-columns.true))))
      | then-columns-via-else-columns+then-rows w ↦ subst (λ p. IsBlit c.args.tile (g.B.Bytes.bytes c.args.bytes.now) p p) c.self.view_is (same (λ some more. absurd (omega (arith, more, w.if-rows.true))))
    ]

pub from_pixel-read-requires-clause-fits : goal.from_pixel-read-requires-clause-fits
from_pixel-read-requires-clause-fits g c =
    let l = c.self.inside.level in
    let r = c.self.inside.rect in
    let columns = c.common-columns.ensures in
    let rows = c.common-rows.ensures in
    let cut = cut_of r.w r.h r.x r.y l.tile_width l.tile_length columns.first columns.end rows.first rows.end in
    let pixel = c.pixel_size-pixel.result in
    omega (arith, tile_size l pixel c.pixel_size-pixel.ensures.size, l.plain, read_fits pixel cut c.if-rows.false)

pub from_pixel-write-requires-clause-fits : goal.from_pixel-write-requires-clause-fits
from_pixel-write-requires-clause-fits g c =
    let l = c.self.inside.level in
    let r = c.self.inside.rect in
    let columns = c.common-columns.ensures in
    let rows = c.common-rows.ensures in
    let cut = cut_of r.w r.h r.x r.y l.tile_width l.tile_length columns.first columns.end rows.first rows.end in
    let pixel = c.pixel_size-pixel.result in
    let size : length c.self.inside.bytes.items ≡ r.w * r.h * pixel = c.self.invariant.1 ∙ ap (λ k. r.w * r.h * k) (sym c.pixel_size-pixel.ensures.size) in
    omega (arith, size, c.self.inside.bytes.ok.0, c.self.inside.bytes.ok.1, c.self.inside.bytes.small, written_fits pixel cut c.if-rows.false)

pub copy_rows-requires-clause-read : goal.copy_rows-requires-clause-read
copy_rows-requires-clause-read g c n less =
    let l = c.self.inside.level in
    let r = c.self.inside.rect in
    let columns = c.common-columns.ensures in
    let rows = c.common-rows.ensures in
    let cut = cut_of r.w r.h r.x r.y l.tile_width l.tile_length columns.first columns.end rows.first rows.end in
    let pixel = c.pixel_size-pixel.result in
    let size : length (g.B.Bytes.bytes c.args.bytes.now) ≡ l.tile_width * l.tile_length * pixel =
    c.requires.size ∙ ap (λ p. plain_size (layout_of p.level)) (sym c.self.view_is) ∙ sym (tile_size l pixel c.pixel_size-pixel.ensures.size) in
    subst (λ rows. at rows n ((c.common-columns.result.end - c.common-columns.result.start) * pixel) ≤ length (g.B.Bytes.bytes c.args.bytes.now)) (sym c.from_pixel-read.ensures)
    (omega (arith, size, rows_read pixel n cut c.if-columns.false less))

pub copy_rows-requires-clause-write : goal.copy_rows-requires-clause-write
copy_rows-requires-clause-write g c n less =
    let l = c.self.inside.level in
    let r = c.self.inside.rect in
    let columns = c.common-columns.ensures in
    let rows = c.common-rows.ensures in
    let cut = cut_of r.w r.h r.x r.y l.tile_width l.tile_length columns.first columns.end rows.first rows.end in
    let pixel = c.pixel_size-pixel.result in
    let size : length c.deref_mut.result.now ≡ r.w * r.h * pixel = ap length c.deref_mut.ensures.value ∙ c.self.invariant.1 ∙ ap (λ k. r.w * r.h * k) (sym c.pixel_size-pixel.ensures.size) in
    subst (λ rows. at rows n ((c.common-columns.result.end - c.common-columns.result.start) * pixel) ≤ length c.deref_mut.result.now) (sym c.from_pixel-write.ensures)
    (omega (arith, size, rows_written pixel n cut c.if-columns.false less))

pub returns : goal.returns
returns g c =
    let l = c.self.inside.level in
    let r = c.self.inside.rect in
    let columns = c.common-columns.ensures in
    let rows = c.common-rows.ensures in
    let cut = cut_of r.w r.h r.x r.y l.tile_width l.tile_length columns.first columns.end rows.first rows.end in
    let pixel = c.pixel_size-pixel.result in
    let count = c.common-rows.result.end - c.common-rows.result.start in
    let len = (c.common-columns.result.end - c.common-columns.result.start) * pixel in
    let left = c.common-columns.result.start in
    let top = c.common-rows.result.start in
    let bytes = g.B.Bytes.bytes c.args.bytes.now in
    let old = c.deref_mut.result.now in
    let new = c.copy_rows.new.to in
    let A = c.tiles_across-across.result in
    let read = tile_rows l (c.args.tile % A * l.tile_width) (c.args.tile / A * l.tile_length) left top pixel in
    let written = subst (λ write. AreCopied count len bytes c.from_pixel-read.result old new write) c.from_pixel-write.ensures c.copy_rows.ensures in
    let whole = subst (λ read. AreCopied count len bytes read old new (picture_rows r left top pixel)) c.from_pixel-read.ensures written in
    let copied = subst (λ old. AreCopied count len bytes read old new (picture_rows r left top pixel)) c.deref_mut.ensures.value whole in
    let back = with_items_is c.self.inside.bytes new (omega (arith, copied.size, c.self.inside.bytes.ok.0)) in
    subst (λ now. IsBlit c.args.tile bytes c.args.self.now (picture l r now)) (sym back)
    (subst (λ p. IsBlit c.args.tile bytes p (picture l r new)) c.self.view_is
    (blit_is l r pixel bytes c.self.inside.bytes.items new (record { across_is = c.tiles_across-across.ensures.count; x_is = refl; y_is = refl }) (sides_of l r c.self.invariant.0.inside) cut
    c.if-columns.false c.if-rows.false c.pixel_size-pixel.ensures.size copied))
