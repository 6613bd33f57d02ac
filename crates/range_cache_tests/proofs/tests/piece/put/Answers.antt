use Rattle.std.proofs.Common.{◌+◌, ◌/◌, arith}
use Rattle.range_cache.specs.Piece.{whole_blocks}
use Rattle.range_cache_tests.proofs.tests.piece.put.Goals as goal

pub put-requires-clause-counted : goal.put-requires-clause-counted
put-requires-clause-counted c =
    let whole = whole_blocks c.args.complete c.args.first c.args.bytes.now c.args.wanted in
    let few = c.law_pieces_bring_blocks.ensures.few c.args.complete c.args.first c.args.bytes.now c.args.wanted (c.args.wanted.last / 16384 + 1) (omega arith) in
    let stored = c.law_stores_are_counted.ensures.few c.args.cache.now.capacity whole c.args.cache.now.entries in
    omega (arith, few, stored)
