use Rattle.std.proofs.Common.{sym, subst, arith, nat_eq}
use Rattle.std.proofs.lemmas.List.{length-map}
use Rattle.std.specs.List.{IsDistinct}
use Rattle.range_cache.specs.Cache.{IsSound}
use Rattle.range_cache.proofs.Entries.{numbers-blocks_in, block}
use Rattle.range_cache.proofs.cache.Cache.law.Goals as goal

pub returns : goal.returns
returns c =
    let valid = c.len-count.ensures.valid in
    let es = c.self.inside.blocks.entries in
    subst IsSound c.self.view_is (record {
      distinct = subst (IsDistinct nat_eq) (sym (numbers-blocks_in es)) valid.0;
      room = omega (arith, valid.1, length-map es block);
      least = c.self.invariant.0;
      most = c.self.invariant.1;
    })
