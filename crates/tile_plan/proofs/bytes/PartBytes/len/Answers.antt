use Rattle.std.proofs.Common.{sym}
use Rattle.tile_plan.proofs.PartLemmas.{length_of}
use Rattle.tile_plan.proofs.bytes.PartBytes.len.Goals as goal

pub returns : goal.returns
returns g c =
    let s = c.args.self.now in
    sym (length_of (g.B.Bytes.bytes s.of.now) s.first s.len s.within)
