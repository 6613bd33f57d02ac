use Rattle.std.proofs.Common.{◌≡◌, ◌∙◌, sym, ap, Some, arith}
use Rattle.std.specs.Option.{option_map}
use Rattle.reference_support.specs.Modest.{layout_of, modest_level}
use Rattle.reference_support.specs.Tile.{IsRow}
use Rattle.reference_support.proofs.SampleLemmas.{layout_same}
use Rattle.reference_support.proofs.RowLemmas.{each_pushed, length_pushed, no_rows}
use Rattle.reference_support.proofs.unpacked.level_samples.Goals as goal

pub returns-in-None-clause-none : goal.returns-in-None-clause-none
returns-in-None-clause-none c = λ some.
    let l = layout_of c.in-Some.level in
    let modest : modest_level c.args.file.now c.args.n ≡ Some l = sym c.in_ok-level.ensures.level ∙ ap (option_map layout_of) c.in-Some.is in
    no_rows c.args.file.now c.args.n l c.loop-y.y modest c.loop-y-test.true (let told = rw c.in-None.is at c.in_ok-row.ensures.none in told)

pub loop-y-preserved : goal.loop-y-preserved
loop-y-preserved c = record {
  count = length_pushed c.loop-y.rows.items _ _ c.loop-y.y c.loop-y.invariant.count c.in_ok-push-in-Some-2.ensures.items;
  each = each_pushed (λ y row. IsRow c.args.file.now c.args.n (layout_of c.in-Some.level) y row.items) c.loop-y.rows.items _ _ c.loop-y.y
      c.loop-y.invariant.count c.in_ok-push-in-Some-2.ensures.items c.loop-y.invariant.each (let told = rw c.in-Some-2.is at c.in_ok-row.ensures.some in told);
}

pub returns-clause-some : goal.returns-clause-some
returns-clause-some c = record {
  layout = layout_of c.in-Some.level;
  layout_is = layout_same c.args.file.now c.args.n (layout_of c.in-Some.level) (sym c.in_ok-level.ensures.level ∙ ap (option_map layout_of) c.in-Some.is);
  count = omega (arith, c.loop-y.invariant.count, c.loop-y-test.false, c.loop-y.auto.y-end);
  each = c.loop-y.invariant.each;
}
