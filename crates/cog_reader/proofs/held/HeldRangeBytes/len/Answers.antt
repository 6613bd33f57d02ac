use Rattle.std.proofs.Common.{sym}
use Rattle.cog_reader.proofs.HeldLemmas.{length_of}
use Rattle.cog_reader.proofs.held.HeldRangeBytes.len.Goals as goal

pub returns : goal.returns
returns c = (let r = c.args.self.now in sym (length_of r.cache.now r.first r.len))
