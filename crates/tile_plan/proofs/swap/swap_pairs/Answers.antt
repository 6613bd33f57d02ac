use Rattle.std.proofs.Common.{◌+◌, ◌-◌, length, refl, arith}
use Rattle.tile_plan.proofs.PairLemmas.{exchanged_rest, exchanged_none, exchanged_on}
use Rattle.tile_plan.proofs.swap.swap_pairs.Goals as goal

pub loop-bytes-init : goal.loop-bytes-init
loop-bytes-init c = exchanged_none c.args.bytes.now

pub loop-bytes-preserved : goal.loop-bytes-preserved
loop-bytes-preserved c =
    let at = c.loop-bytes.at in
    exchanged_on c.args.bytes.now c.loop-bytes.bytes c.swap_lanes.new.bytes at (at + 16 - at) 16 8 (omega arith) refl
    (omega (arith, c.loop-bytes-test.true, c.loop-bytes.invariant.inside)) (omega (arith, c.loop-bytes.auto.bytes)) c.loop-bytes.invariant c.swap_lanes.ensures

pub returns : goal.returns
returns c =
    let at = c.loop-bytes.at in
    let kept = c.loop-bytes.invariant in
    exchanged_rest c.args.bytes.now c.loop-bytes.bytes c.swap_rest.new.bytes at (length c.loop-bytes.bytes - at) kept.pairs kept.even
    (omega (arith, kept.inside, c.loop-bytes.auto.bytes)) (omega (arith, c.loop-bytes.auto.bytes)) kept.parts c.swap_rest.ensures
