use Rattle.std.proofs.Common.{◌+◌, length-take-le, arith, sym, ap, ◌∙◌}
use Rattle.std.specs.List.{slice_range}
use Rattle.range_cache.specs.Cache.{bytes_at}
use Rattle.cog_reader.proofs.HeldLemmas.{length_of}
use Rattle.cog_reader.proofs.held.HeldRangeBytes.part_at.Goals as goal

pub slice_bounds-out-end : goal.slice_bounds-out-end
slice_bounds-out-end c =
    let r = c.args.self.now in
    sym (length-take-le c.args.len c.args.room.now (omega (arith, c.requires.within, c.requires.room, length_of r.cache.now r.first r.len)))

pub returns : goal.returns
returns c =
    let r = c.args.self.now in
    let size = length-take-le c.args.len c.args.room.now (omega (arith, c.requires.within, c.requires.room, length_of r.cache.now r.first r.len)) in
    c.copy_to.ensures ∙ ap (λ n. slice_range (bytes_at r.cache.now r.first r.len) c.args.at (c.args.at + n)) size
