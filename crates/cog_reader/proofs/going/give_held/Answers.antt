use Rattle.std.proofs.Common.{sym, subst, ◌∙◌}
use Rattle.cog_reader.specs.Reader.{IsWanted}
use Rattle.cog_reader.proofs.HeldLemmas.{length_of}
use Rattle.cog_reader.proofs.going.give_held.Goals as goal

pub paint-requires-clause-wanted : goal.paint-requires-clause-wanted
paint-requires-clause-wanted c =
    let r = c.new.result in
    subst (IsWanted c.args.reader.now) (sym (length_of r.cache.now r.first r.len ∙ c.new.ensures.place.1)) c.requires.wanted

pub unpack-requires-clause-wanted : goal.unpack-requires-clause-wanted
unpack-requires-clause-wanted c =
    let r = c.new-in-Some-Packed.result in
    subst (IsWanted c.args.reader.now) (sym (length_of r.cache.now r.first r.len ∙ c.new-in-Some-Packed.ensures.place.1)) c.requires.wanted
