use Rattle.std.proofs.Common.{length, arith, sym, ◌∙◌}
use Rattle.cog_reader.proofs.HeldLemmas.{length_of, part_of}
use Rattle.cog_reader.proofs.held.HeldRangeBytes.copy_to.Goals as goal

pub overflow_add-self : goal.overflow_add-self
overflow_add-self c = (let r = c.args.self.now in omega (arith, c.requires, length_of r.cache.now r.first r.len, r.fits))

pub copy_at-requires : goal.copy_at-requires
copy_at-requires c = (let r = c.args.self.now in omega (arith, c.requires, length_of r.cache.now r.first r.len, r.fits))

pub returns : goal.returns
returns c =
    let r = c.args.self.now in
    c.copy_at.ensures ∙ sym (part_of r.cache.now r.first r.len c.args.at (length c.args.out.now) (omega (arith, c.requires, length_of r.cache.now r.first r.len)))
