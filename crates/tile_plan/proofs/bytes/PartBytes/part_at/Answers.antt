use Rattle.std.proofs.Common.{arith, ◌∙◌, sym}
use Rattle.tile_plan.proofs.PartLemmas.{part_of, length_of}
use Rattle.tile_plan.proofs.bytes.PartBytes.part_at.Goals as goal

pub overflow_add-self : goal.overflow_add-self
overflow_add-self g c =
    let s = c.args.self.now in
    let size = length_of (g.B.Bytes.bytes s.of.now) s.first s.len s.within in
    omega (arith, c.requires.within, size, s.within, c.len-len.ensures)

pub part_at-requires-clause-within : goal.part_at-requires-clause-within
part_at-requires-clause-within g c =
    let s = c.args.self.now in
    let size = length_of (g.B.Bytes.bytes s.of.now) s.first s.len s.within in
    omega (arith, c.requires.within, size, s.within)

pub returns : goal.returns
returns g c =
    let s = c.args.self.now in
    let size = length_of (g.B.Bytes.bytes s.of.now) s.first s.len s.within in
    c.part_at.ensures ∙ sym (part_of (g.B.Bytes.bytes s.of.now) s.first s.len c.args.at c.args.len (omega (arith, c.requires.within, size)))
