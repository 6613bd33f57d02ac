use Rattle.std.proofs.Common.{ap, ◌∙◌, arith, inl, inr}
use Rattle.std.proofs.lemmas.Bool.Decides.{eqb_tells}
use Rattle.range_cache.specs.Numbers.{has}
use Rattle.range_cache.specs.Cache.{blocks_in, numbers}
use Rattle.range_cache.proofs.Entries.{told}
use Rattle.range_cache.proofs.blocks.end_of_run.Goals as goal

pub returns-then-contains : goal.returns-then-contains
returns-then-contains c = record {
  begins = omega arith;
  within = omega arith;
  gone = c.loop-number.invariant;
  ends = λ _. told c.loop-number.number-counter c.args.blocks.now.entries c.contains.result c.contains.ensures ∙ c.if-contains.true;
}

pub loop-number-preserved : goal.loop-number-preserved
loop-number-preserved c = λ k low high.
    let n = c.loop-number.number-counter in
    let gone = told n c.args.blocks.now.entries c.contains.result c.contains.ensures ∙ c.if-contains.false in
    elim (eqb_tells k n) [
      | inl e ↦ ap (λ j. has j (numbers (blocks_in c.args.blocks.now.entries))) e.1 ∙ gone
      | inr e ↦ let other = e.1 in c.loop-number.invariant k low (omega arith)
    ]
