use Rattle.std.proofs.Common.{◌≡◌, ◌∙◌, sym, ap, length, Some, arith}
use Rattle.reference_support.specs.Info.{sides_of}
use Rattle.reference_support.proofs.RowLemmas.{each_pushed, length_pushed}
use Rattle.reference_support.proofs.RowLemmas.{no_sides}
use Rattle.reference_support.proofs.info.level_sides.Goals as goal

pub loop-n-preserved : goal.loop-n-preserved
loop-n-preserved c = record {
  size = length_pushed c.loop-n.sides.items _ _ c.loop-n.n c.loop-n.invariant.size c.in_ok-push-in-Some.ensures.items;
  each = each_pushed (λ n s. sides_of c.args.file.now n ≡ Some s) c.loop-n.sides.items _ _ c.loop-n.n c.loop-n.invariant.size
      c.in_ok-push-in-Some.ensures.items c.loop-n.invariant.each (sym c.in_ok-pair.ensures ∙ c.in-Some.is);
}

pub returns-in-None-clause-none : goal.returns-in-None-clause-none
returns-in-None-clause-none c =
    no_sides c.args.file.now c.loop-n.n (sym c.in_ok-pair.ensures ∙ c.in-None.is)
    (omega (arith, c.loop-n-test.true, c.len-n-end.ensures, ap length c.in_ok-directories.ensures))
