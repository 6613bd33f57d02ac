use Rattle.std.proofs.Common.{◌≡◌, ◌+◌, ◌-◌, ◌*◌, ◌/◌, length, take, drop, map, min, max, sym, ap, ◌∙◌, arith, length-take, length-drop}
use Rattle.std.proofs.lemmas.List.{take_all}
use Rattle.std.specs.List.{range_with_len}
use Rattle.range_cache.specs.Cache.{blocks_in, byte_at}
use Rattle.range_cache.proofs.Bytes.{copied_more}
use Rattle.range_cache.proofs.blocks.copy.Goals as goal

pub loop-number-init : goal.loop-number-init
loop-number-init c =
    let first = c.args.first in
    let out = c.args.out.now in
    let nothing : min (max first (first / 16384 * 16384)) (first + length out) - first ≡ 0 = omega arith in
    ap (λ k. take k out) nothing ∙ sym (ap (λ k. map (byte_at (blocks_in c.args.blocks.now.entries)) (range_with_len first k)) nothing)

pub loop-number-preserved : goal.loop-number-preserved
loop-number-preserved c =
    let n = c.loop-number.number in
    let first = c.args.first in
    let end = first + length c.args.out.now in
    let out = c.loop-number.out in
    let part = c.copy_block.new.out in
    let g = byte_at (blocks_in c.args.blocks.now.entries) in
    let start = c.max-start.result in
    let stop = c.last_of-stop.result + 1 in
    let start_is : start ≡ max first (n * 16384) = c.max-start.ensures in
    let stop_is : stop ≡ min ((n + 1) * 16384) end = c.last_of-stop.ensures in
    let long : length out ≡ length c.args.out.now = c.loop-number.auto.out in
    let old = take (stop - first - (start - first)) (drop (start - first) out) in
    let same : length part ≡ length old = c.copy_block.auto.out in
    let size : length old ≡ stop - start =
    omega (arith, length-take (stop - first - (start - first)) (drop (start - first) out), length-drop (start - first) out) in
    let begins : n * 16384 + (start - n * 16384) ≡ start = omega arith in
    copied_more g out part first end n start stop (ap (λ k. first + k) long) (omega arith) (omega arith) start_is stop_is (same ∙ size)
    c.loop-number.invariant
    (c.copy_block.ensures ∙ ap (λ k. map g (range_with_len k (length old))) begins ∙ ap (λ k. map g (range_with_len start k)) (sym same))

pub returns : goal.returns
returns c =
    let n = c.loop-number.number in
    let first = c.args.first in
    let end = first + length c.args.out.now in
    let out = c.loop-number.out in
    let long : length out ≡ length c.args.out.now = c.loop-number.auto.out in
    let all : min (max first (n * 16384)) end - first ≡ length c.args.out.now = omega arith in
    sym (take_all (min (max first (n * 16384)) end - first) out (omega (arith, all, long))) ∙ c.loop-number.invariant
    ∙ ap (λ k. map (byte_at (blocks_in c.args.blocks.now.entries)) (range_with_len first k)) all
