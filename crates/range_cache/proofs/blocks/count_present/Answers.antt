use Rattle.std.proofs.Common.{◌≡◌, ℕ, ◌+◌, ◌-◌, suc, cond, ap, ◌∙◌, arith}
use Rattle.range_cache.specs.Numbers.{has, missing}
use Rattle.range_cache.specs.Cache.{blocks_in, numbers}
use Rattle.range_cache.proofs.Entries.{told}
use Rattle.range_cache.proofs.Stored.{missing-next, missing-none}
use Rattle.range_cache.proofs.blocks.count_present.Goals as goal
use Rattle.range_cache.proofs.blocks.count_present.Goals.{then-contains, else-contains}

pub loop-number-preserved : goal.loop-number-preserved
loop-number-preserved c =
    let n = c.loop-number.number-counter in
    let to = c.args.to in
    let es = c.args.blocks.now.entries in
    let ns = numbers (blocks_in es) in
    let more : to - n ≡ suc (to - (n + 1)) = omega arith in
    let next : missing ns n (to - n) ≡ cond (has n ns) 0 1 + missing ns (n + 1) (to - (n + 1)) = ap (missing ns n) more ∙ missing-next ns n (to - (n + 1)) in
    elim c.if-contains.branch [
      | then-contains w ↦
          let count = w.count-is in
          let here : cond {A = ℕ} (has n ns) 0 1 ≡ 0 = ap {B = ℕ} (λ b. cond b 0 1) (told n es c.contains.result c.contains.ensures ∙ w.if-contains.true) in
          record { rest = omega (arith, next, count, here, c.loop-number.invariant.rest); few = omega (arith, count, c.loop-number.invariant.few) }
      | else-contains w ↦
          let count = w.count-is in
          let here : cond {A = ℕ} (has n ns) 0 1 ≡ 1 = ap {B = ℕ} (λ b. cond b 0 1) (told n es c.contains.result c.contains.ensures ∙ w.if-contains.false) in
          record { rest = omega (arith, next, count, here, c.loop-number.invariant.rest); few = omega (arith, count, c.loop-number.invariant.few) }
    ]

pub returns : goal.returns
returns c =
    let n = c.loop-number.number-counter in
    let ns = numbers (blocks_in c.args.blocks.now.entries) in
    let none : c.args.to - n ≡ 0 = omega arith in
    omega (arith, ap (missing ns n) none ∙ missing-none ns n, c.loop-number.invariant.rest)
