use Rattle.std.proofs.Common.{length, arith, sym, ◌∙◌}
use Rattle.cog_reader.proofs.HeldLemmas.{length_of, part_of}
use Rattle.cog_reader.proofs.held.HeldRangeBytes.piece_at.Goals as goal

pub overflow_add-self : goal.overflow_add-self
overflow_add-self c = (let r = c.args.self.now in omega (arith, c.requires, length_of r.cache.now r.first r.len, r.fits))

pub overflow_sub-self : goal.overflow_sub-self
overflow_sub-self c = (let r = c.args.self.now in omega (arith, c.requires, length_of r.cache.now r.first r.len))

pub piece_at-requires : goal.piece_at-requires
piece_at-requires c = (let r = c.args.self.now in omega (arith, c.requires, length_of r.cache.now r.first r.len, r.fits))

pub returns-clause-within : goal.returns-clause-within
returns-clause-within c = (let r = c.args.self.now in omega (arith, c.requires, length_of r.cache.now r.first r.len, c.piece_at.ensures.few))

pub returns-clause-piece : goal.returns-clause-piece
returns-clause-piece c =
    let r = c.args.self.now in
    c.piece_at.ensures.piece
    ∙ sym (part_of r.cache.now r.first r.len c.args.at (length c.piece_at.result.now) (omega (arith, c.requires, length_of r.cache.now r.first r.len, c.piece_at.ensures.few)))
