use Rattle.std.proofs.Common.{◌≡◌, ◌+◌, ◌*◌, ◌<◌, Some, None, length, map, get_or, sym, ap, ◌∙◌, arith}
use Rattle.std.proofs.lemmas.List.{get_or-replicate}
use Rattle.std.specs.List.{range_with_len}
use Rattle.range_cache.specs.Cache.{blocks_in, byte_at}
use Rattle.range_cache.proofs.Bytes.{byte_found, mapped}
use Rattle.range_cache.proofs.blocks.copy_block.Goals as goal

pub returns-in-Some : goal.returns-in-Some
returns-in-Some c =
    let es = c.args.blocks.now.entries in
    let g = byte_at (blocks_in es) in
    let n = c.args.number in
    let skip = c.args.skip in
    let out = c.copy_part.new.out in
    let long : length out ≡ length c.args.out.now = c.copy_part.auto.out in
    mapped g out (n * 16384 + skip) (λ k less.
    c.copy_part.ensures k less ∙ ap (λ l. get_or l (skip + k) 0) c.deref.ensures.value
    ∙ sym (byte_found n (skip + k) (n * 16384 + skip + k) es (Some c.in-Some.block.now) c.in-Some.ensures (omega arith) (omega arith)))
    ∙ ap (λ m. map g (range_with_len (n * 16384 + skip) m)) long

pub returns-in-None : goal.returns-in-None
returns-in-None c =
    let es = c.args.blocks.now.entries in
    let g = byte_at (blocks_in es) in
    let n = c.args.number in
    let skip = c.args.skip in
    let out = c.fill.new.self in
    let long : length out ≡ length c.args.out.now = c.fill.auto.self in
    mapped g out (n * 16384 + skip) (λ k less.
    let less' : k < length c.args.out.now = omega (arith, less, long) in
    ap (λ l. get_or l k 0) (c.fill.ensures.after (λ y is. is)) ∙ get_or-replicate (length c.args.out.now) k 0 0 less'
    ∙ sym (byte_found n (skip + k) (n * 16384 + skip + k) es None c.in-None.ensures (omega arith) (omega arith)))
    ∙ ap (λ m. map g (range_with_len (n * 16384 + skip) m)) long
