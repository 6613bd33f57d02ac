use Rattle.std.proofs.Common.{length, arith, ◌∙◌, sym}
use Rattle.tile_plan.proofs.PartLemmas.{part_of, length_of}
use Rattle.tile_plan.proofs.bytes.PartBytes.copy_to.Goals as goal

pub overflow_add-self : goal.overflow_add-self
overflow_add-self g c =
    let s = c.args.self.now in
    let size = length_of (g.B.Bytes.bytes s.of.now) s.first s.len s.within in
    omega (arith, c.requires, size, s.within, c.len-len.ensures)

pub returns : goal.returns
returns g c =
    let s = c.args.self.now in
    let size = length_of (g.B.Bytes.bytes s.of.now) s.first s.len s.within in
    c.copy_to.ensures ∙ sym (part_of (g.B.Bytes.bytes s.of.now) s.first s.len c.args.at (length c.args.out.now) (omega (arith, c.requires, size)))
