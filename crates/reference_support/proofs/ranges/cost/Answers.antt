use Rattle.reference_support.proofs.RangeLemmas.{cost_is, some_cost, no_cost}
use Rattle.reference_support.proofs.ranges.cost.Goals as goal

pub returns-in-Some-clause-cost : goal.returns-in-Some-clause-cost
returns-in-Some-clause-cost c = some_cost _ _ _ c.sum_blocks.ensures (cost_is c.args.file.now c.args.query c.deref.result.now (let told = rw c.in-Some.is at c.in_ok-ranges.ensures.ranges in rw c.deref.ensures.value told))

pub returns-in-Some-clause-none : goal.returns-in-Some-clause-none
returns-in-Some-clause-none c = no_cost _ _ _ _ c.sum_blocks.ensures (cost_is c.args.file.now c.args.query c.deref.result.now (let told = rw c.in-Some.is at c.in_ok-ranges.ensures.ranges in rw c.deref.ensures.value told))
