use Rattle.std.proofs.Common.{◌/◌, arith, inl, inr, ap, ◌∙◌, refl}
use Rattle.std.specs.Int.{div_ceil}
use Rattle.range_cache.proofs.Whole.{run_between}
use Rattle.range_cache.proofs.blocks.whole_run.Goals as goal

pub returns-then-end-file_length-clause-run : goal.returns-then-end-file_length-clause-run
returns-then-end-file_length-clause-run c =
    run_between c.args.file_length c.args.first c.args.len c.args.wanted c.div_ceil-from.result (c.min-end.result / 16384) c.requires (record {
      end = c.min-end.result;
      end_is = omega (arith, c.min-end.ensures, c.saturating_add.ensures);
      from_is = c.div_ceil-from.ensures ∙ ap (λ k. div_ceil k 16384) c.max.ensures;
      to_is = inl (c.if-end-file_length.true, refl);
    })

pub returns-else-end-file_length-clause-run : goal.returns-else-end-file_length-clause-run
returns-else-end-file_length-clause-run c =
    run_between c.args.file_length c.args.first c.args.len c.args.wanted c.div_ceil-from.result c.div_ceil-to.result c.requires (record {
      end = c.min-end.result;
      end_is = omega (arith, c.min-end.ensures, c.saturating_add.ensures);
      from_is = c.div_ceil-from.ensures ∙ ap (λ k. div_ceil k 16384) c.max.ensures;
      to_is = inr (c.if-end-file_length.false, c.div_ceil-to.ensures);
    })
