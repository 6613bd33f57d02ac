use Rattle.std.proofs.Common.{◌+◌, ◌-◌, refl, arith}
use Rattle.tile_plan.proofs.PairLemmas.{exchanged_all, exchanged_none, exchanged_on}
use Rattle.tile_plan.proofs.swap.swap_rest.Goals as goal

pub loop-bytes-init : goal.loop-bytes-init
loop-bytes-init c = exchanged_none c.args.bytes.now

pub loop-bytes-preserved : goal.loop-bytes-preserved
loop-bytes-preserved c =
    let at = c.loop-bytes.at in
    exchanged_on c.args.bytes.now c.loop-bytes.bytes c.swap_pair.new.pair at (at + 2 - at) 2 1 (omega arith) refl
    (omega (arith, c.loop-bytes-test.true, c.loop-bytes.invariant.inside)) (omega (arith, c.loop-bytes.auto.bytes)) c.loop-bytes.invariant c.swap_pair.ensures

pub returns : goal.returns
returns c =
    let kept = c.loop-bytes.invariant in
    exchanged_all c.args.bytes.now c.loop-bytes.bytes c.loop-bytes.at kept.pairs kept.even
    (omega (arith, kept.inside, c.loop-bytes.auto.bytes)) (omega (arith, c.loop-bytes-test.false, c.loop-bytes.auto.bytes)) kept.parts
