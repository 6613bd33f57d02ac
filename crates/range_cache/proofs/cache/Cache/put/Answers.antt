use Rattle.std.proofs.Common.{◌-◌, ◌<◌, ◌^◌, map, ap, sym, ◌∙◌, arith, subst}
use Rattle.range_cache.specs.Cache.{Blocks, kept_blocks, stores, Holds}
use Rattle.range_cache.specs.Piece.{block_in, whole_blocks}
use Rattle.range_cache.proofs.Whole.{all_whole}
use Rattle.range_cache.proofs.Bytes.{IsOf}
use Rattle.range_cache.proofs.Putting.{Puts, puts_of, puts_hold, puts_stay}
use Rattle.range_cache.proofs.cache.Cache.put.Goals as goal

pub store-requires-clause-counted : goal.store-requires-clause-counted
unfolding whole_blocks
store-requires-clause-counted c =
    let fits : stores c.args.self.now.capacity (whole_blocks c.args.file_length c.args.first c.args.bytes.now c.args.wanted) c.args.self.now.entries < 2 ^ 32 = c.requires.counted in
    let same = ap (λ (v : Blocks). stores v.capacity (whole_blocks c.args.file_length c.args.first c.args.bytes.now c.args.wanted) v.entries) c.self.view_is in
    let run = ap (λ ns. stores c.self.inside.blocks.cap (map (block_in c.args.file_length c.args.first c.args.bytes.now) ns) (kept_blocks c.self.inside.blocks).entries) c.whole_run-from.ensures.run in
    omega (arith, fits, same, run)

-- what was kept, as the caller sees it
puts : (c : goal.After-store) → Puts c.args.self.now (kept_blocks c.store.new.blocks) (whole_blocks c.args.file_length c.args.first c.args.bytes.now c.args.wanted) c.store.result
unfolding whole_blocks
puts c =
    subst (λ (v : Blocks). Puts v (kept_blocks c.store.new.blocks) (whole_blocks c.args.file_length c.args.first c.args.bytes.now c.args.wanted) c.store.result) c.self.view_is
    (puts_of (kept_blocks c.self.inside.blocks) (kept_blocks c.store.new.blocks) (whole_blocks c.args.file_length c.args.first c.args.bytes.now c.args.wanted)
    (block_in c.args.file_length c.args.first c.args.bytes.now) c.whole_run-from.result.0 (c.whole_run-from.result.1 - c.whole_run-from.result.0) c.store.result
    (ap (map (block_in c.args.file_length c.args.first c.args.bytes.now)) c.whole_run-from.ensures.run)
    c.store.ensures.capacity c.store.ensures.ok c.store.ensures.err)

pub returns-clause-ok : goal.returns-clause-ok
returns-clause-ok c = (puts c).ok

pub returns-clause-err : goal.returns-clause-err
returns-clause-err c = (puts c).err

pub returns-clause-sure : goal.returns-clause-sure
unfolding whole_blocks
returns-clause-sure c = λ none.
    let same = ap (λ (v : Blocks). stores v.capacity (whole_blocks c.args.file_length c.args.first c.args.bytes.now c.args.wanted) v.entries) c.self.view_is in
    let run = ap (λ ns. stores c.self.inside.blocks.cap (map (block_in c.args.file_length c.args.first c.args.bytes.now) ns) (kept_blocks c.self.inside.blocks).entries) c.whole_run-from.ensures.run in
    c.store.ensures.sure (sym run ∙ same ∙ none)

pub returns-clause-holds : goal.returns-clause-holds
unfolding Holds
returns-clause-holds c = λ f file_length piece held.
    puts_hold c.args.self.now (kept_blocks c.store.new.blocks) (whole_blocks c.args.file_length c.args.first c.args.bytes.now c.args.wanted) c.store.result (IsOf f) (puts c)
    (all_whole f c.args.bytes.now c.args.file_length c.args.first c.args.wanted file_length piece) held

pub returns-clause-stays : goal.returns-clause-stays
returns-clause-stays c = λ n count gone room led.
    puts_stay c.args.self.now (kept_blocks c.store.new.blocks) (whole_blocks c.args.file_length c.args.first c.args.bytes.now c.args.wanted) c.store.result n count (puts c) gone room led
