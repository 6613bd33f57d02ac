use Rattle.std.proofs.Common.{drop, arith, subst, length-drop}
use Rattle.std.proofs.lemmas.List.{take_rest}
use Rattle.packbits.specs.Adding.{Adds}
use Rattle.packbits.proofs.PacketLemmas.{packs_added}
use Rattle.packbits.proofs.packing.pack_row.Goals as goal

pub loop-at-preserved : goal.loop-at-preserved
loop-at-preserved c =
    let row = c.args.row.now in
    let at = c.loop-at.at in
    let adds : Adds c.loop-at.packed.items c.push_packet.new.packed.items (drop at row) c.in_ok-at.field-0 =
    subst (λ l. Adds c.loop-at.packed.items c.push_packet.new.packed.items l c.in_ok-at.field-0) (take_rest row at) c.in_ok-at.ensures in
    record {
      inside = omega (arith, adds.within, length-drop at row, c.loop-at-test.true);
      packs = packs_added row c.loop-at.packed.items c.push_packet.new.packed.items at c.in_ok-at.field-0 c.loop-at.invariant.packs c.loop-at-test.true adds;
    }
