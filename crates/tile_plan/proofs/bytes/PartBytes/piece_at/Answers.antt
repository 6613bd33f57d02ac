use Rattle.std.proofs.Common.{◌≡◌, ◌+◌, ◌≤◌, length, take, arith, sym, ap, ◌∙◌}
use Rattle.std.specs.List.{slice_range}
use Rattle.std.proofs.lemmas.List.{length-take-le}
use Rattle.tile_plan.proofs.PartLemmas.{front_of, part_of, length_of}
use Rattle.tile_plan.proofs.bytes.PartBytes.piece_at.Goals as goal

pub returns-clause-piece : goal.returns-clause-piece
returns-clause-piece g c =
    let s = c.args.self.now in
    let of = g.B.Bytes.bytes s.of.now in
    let piece = c.piece_at-piece.result.now in
    let n = c.min.result in
    let size = length_of of s.first s.len s.within in
    let few : n ≤ length piece = omega arith in
    let room : c.args.at + n ≤ s.len = omega (arith, c.requires, size) in
    let long : length (take n piece) ≡ n = length-take-le n piece few in
    front_of of piece (s.first + c.args.at) n c.piece_at-piece.ensures.piece few
    ∙ sym (part_of of s.first s.len c.args.at n room)
    ∙ ap (λ k. slice_range (slice_range of s.first (s.first + s.len)) c.args.at (c.args.at + k)) (sym long)
