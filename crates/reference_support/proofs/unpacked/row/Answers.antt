use Rattle.std.proofs.Common.{◌≡◌, ◌<◌, ◌*◌, ◌/◌, ◌%◌, subst}
use Rattle.tiff_dir.specs.Window.{IsSample}
use Rattle.reference_support.specs.Modest.{layout_of}
use Rattle.reference_support.proofs.RowLemmas.{column_inside, length_pushed, no_row, numbers_pushed}
use Rattle.reference_support.proofs.unpacked.row.Goals as goal

pub returns-in-None-clause-none : goal.returns-in-None-clause-none
returns-in-None-clause-none c =
    let l = layout_of c.args.level.now in
    let samples : c.from-samples.result ≡ l.samples = c.from-samples.ensures in
    let before : c.loop-i.i < l.grid.width * l.samples =
    subst (λ k. c.loop-i.i < l.grid.width * k) samples (subst (λ k. c.loop-i.i < k * c.from-samples.result) c.from.ensures c.loop-i-test.true) in
    let told = rw samples at c.in-None.ensures.none in
    no_row c.args.file.now c.args.n l c.args.y c.loop-i.i before (told (column_inside c.loop-i.i l.grid.width l.samples before) c.requires.inside)

pub loop-i-preserved : goal.loop-i-preserved
loop-i-preserved c = record {
  size = length_pushed c.loop-i.row.items _ _ c.loop-i.i c.loop-i.invariant.size c.in_ok-push-in-Some.ensures.items;
  each = numbers_pushed (λ i v. IsSample c.args.file.now c.args.n (i / c.args.level.now.samples) c.args.y (i % c.args.level.now.samples) v)
      c.loop-i.row.items _ _ c.loop-i.i c.loop-i.invariant.size c.in_ok-push-in-Some.ensures.items c.loop-i.invariant.each (subst (λ k. IsSample c.args.file.now c.args.n (c.loop-i.i / k) c.args.y (c.loop-i.i % k) c.in-Some.value) c.from-samples.ensures c.in-Some.ensures.some);
}
