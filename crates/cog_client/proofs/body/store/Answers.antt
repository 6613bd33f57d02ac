use Rattle.std.proofs.Common.{◌≤◌, length, arith}
use Rattle.range_cache.specs.Cache.{stores}
use Rattle.range_cache.specs.Piece.{whole_blocks}
use Rattle.cog_client.proofs.body.store.Goals as goal

pub put-requires-clause-counted : goal.put-requires-clause-counted
put-requires-clause-counted c =
    let a = c.args in
    let new = whole_blocks a.complete a.first a.bytes.now a.span in
    let few : length new ≤ 65 = c.law_pieces_bring_blocks.ensures.few a.complete a.first a.bytes.now a.span 65 c.requires.few in
    let stored : stores a.cache.now.capacity new a.cache.now.entries ≤ length new = c.law_stores_are_counted.ensures.few a.cache.now.capacity new a.cache.now.entries in
    omega arith
