use Rattle.std.proofs.Common.{◌≡◌, ◌∙◌, sym, Some}
use Rattle.tiff_dir.specs.File.{value}
use Rattle.reference_support.proofs.RowLemmas.{length_pushed, numbers_pushed}
use Rattle.reference_support.proofs.info.values.Goals as goal

pub loop-i-preserved : goal.loop-i-preserved
loop-i-preserved c = record {
  size = length_pushed c.loop-i.values.items _ _ c.loop-i.i c.loop-i.invariant.size c.in_ok-push-in-Some-value.ensures.items;
  each = numbers_pushed (λ i v. value c.args.file.now c.args.k c.args.tag i ≡ Some v) c.loop-i.values.items _ _ c.loop-i.i c.loop-i.invariant.size
      c.in_ok-push-in-Some-value.ensures.items c.loop-i.invariant.each (sym c.value.ensures ∙ c.in-Some-value.is);
}
