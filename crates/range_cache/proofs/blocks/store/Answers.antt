use Rattle.std.proofs.Common.{◌≡◌, true, false, ◌+◌, ◌-◌, ◌*◌, arith, sym, ap, ◌∙◌, refl, map}
use Rattle.std.specs.List.{range_with_len, slice_range}
use Rattle.extents.specs.Block.{end_of}
use Rattle.range_cache.specs.Numbers.{has}
use Rattle.range_cache.specs.Cache.{Block, blocks_in, numbers, stored, stores, put_one}
use Rattle.range_cache.specs.Piece.{block_in}
use Rattle.range_cache.proofs.Stored.{stored-more, stored-none, stores-next, stores-none, there_of_none}
use Rattle.range_cache.proofs.blocks.store.Goals as goal

pub loop-number-init : goal.loop-number-init
loop-number-init c = record {
  inside = omega arith;
  capacity = refl;
  entries = sym (stored-none c.args.blocks.now.cap c.args.file_length c.args.first c.args.bytes.now c.args.from (blocks_in c.args.blocks.now.entries));
  count = omega arith;
}

pub overflow_add-count : goal.overflow_add-count
overflow_add-count c =
    let n = c.loop-number.number in
    let next = stores-next c.args.blocks.now.cap c.args.file_length c.args.first c.args.bytes.now n c.args.to (blocks_in c.loop-number.blocks.entries) c.loop-number-test.true in
    let added = c.in_ok-count.ensures.ok.1 in
    omega (arith, next, added, c.loop-number.invariant.count, c.requires.counted)

pub loop-number-preserved : goal.loop-number-preserved
loop-number-preserved c =
    let n = c.loop-number.number in
    let cap = c.args.blocks.now.cap in
    let before : Block = block_in c.args.file_length c.args.first c.args.bytes.now n in
    let bs = blocks_in c.loop-number.blocks.entries in
    let ok = c.in_ok-count.ensures.ok in
    let kept = c.loop-number.invariant in
    let next = stores-next cap c.args.file_length c.args.first c.args.bytes.now n c.args.to bs c.loop-number-test.true in
    let end : c.last_of.result + 1 - c.args.first ≡ end_of c.args.file_length n - c.args.first = ap (λ k. k - c.args.first) c.last_of.ensures in
    let step : blocks_in c.store_one.new.blocks.entries ≡ put_one cap bs before =
    ok.0 ∙ ap (λ k. put_one k bs (n, slice_range c.args.bytes.now (n * 16384 - c.args.first) (c.last_of.result + 1 - c.args.first))) kept.capacity
    ∙ ap (λ k. put_one cap bs (n, slice_range c.args.bytes.now (n * 16384 - c.args.first) k)) end in
    let rest = ap (stores cap (map (block_in c.args.file_length c.args.first c.args.bytes.now) (range_with_len (n + 1) (c.args.to - (n + 1))))) step in
    record {
      inside = omega arith;
      capacity = c.in_ok-count.ensures.capacity ∙ kept.capacity;
      entries = step ∙ ap (λ l. put_one cap l before) kept.entries
          ∙ sym (stored-more cap c.args.file_length c.args.first c.args.bytes.now c.args.from n (blocks_in c.args.blocks.now.entries) (omega arith));
      count = omega (arith, next, rest, ok.1, kept.count);
    }

pub returns-clause-ok : goal.returns-clause-ok
returns-clause-ok c =
    let n = c.loop-number.number in
    let all : n - c.args.from ≡ c.args.to - c.args.from = omega (arith, c.loop-number.invariant.inside) in
    let none = stores-none c.args.blocks.now.cap c.args.file_length c.args.first c.args.bytes.now n c.args.to (blocks_in c.loop-number.blocks.entries) c.loop-number-test.false in (
      c.loop-number.invariant.entries ∙ ap (λ k. stored c.args.blocks.now.cap (map (block_in c.args.file_length c.args.first c.args.bytes.now) (range_with_len c.args.from k)) (blocks_in c.args.blocks.now.entries)) all,
      omega (arith, none, c.loop-number.invariant.count),
    )

-- what is left to store is nothing either, so the block is there
pub returns-in_err-count-clause-sure : goal.returns-in_err-count-clause-sure
returns-in_err-count-clause-sure c = λ none.
    let n = c.loop-number.number in
    let bs = blocks_in c.loop-number.blocks.entries in
    let next = stores-next c.args.blocks.now.cap c.args.file_length c.args.first c.args.bytes.now n c.args.to bs c.loop-number-test.true in
    let there : has n (numbers bs) ≡ true = there_of_none (has n (numbers bs)) (omega (arith, next, none, c.loop-number.invariant.count)) in
    absurd (let refused : false ≡ true = c.in_err-count.ensures.sure there in cc)
