use Rattle.std.proofs.Common.{◌≡◌, sym, ap, length, subst, arith, IfSome, IfNone}
use Rattle.tiff_dir.specs.Packets.{Packs}
use Rattle.reference_support.specs.Unpacking.{IsNotPacked}
use Rattle.reference_support.specs.Modest.{layout_of}
use Rattle.reference_support.proofs.SampleLemmas.{no_tile}
use Rattle.reference_support.proofs.samples.plain_tile.Goals as goal
use Rattle.reference_support.proofs.samples.plain_tile.Goals.{in_default-via-in-Some+else-len-size, in_default-via-in_default}

pub returns-in_default-clause-none : goal.returns-in_default-clause-none
returns-in_default-clause-none c =
    let row = c.row_and_size-row.ensures.row in
    let bytes = c.args.bytes.now in
    no_tile (layout_of c.args.level.now) bytes c.in-Packed-PackBits.field-0 c.in-Packed-PackBits.is (λ plain size packs.
    let here = subst (λ n. Packs n bytes plain) (sym row) packs in
    elim c.in_default.branch [
      | in_default-via-in-Some+else-len-size w ↦
          let out = subst (λ o. IfSome o (λ out. Packs c.row_and_size-row.result.0 bytes out.items)) w.in-Some.is c.in_ok-plain-in-Packed-PackBits.ensures.packed in
          let same : w.in-Some.plain.items ≡ plain = c.law_one_text.ensures.text c.row_and_size-row.result.0 bytes w.in-Some.plain.items plain out here in
          w.if-len-size.false (omega (arith, w.len.ensures, w.in-Some.plain.ok, ap length same, size, c.row_and_size-row.ensures.size))
      | in_default-via-in_default w ↦
          subst (λ o. IfNone o (IsNotPacked c.row_and_size-row.result.0 bytes)) w.in_default.is c.in_ok-plain-in-Packed-PackBits.ensures.refused plain here
    ])
