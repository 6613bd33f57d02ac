use Rattle.std.proofs.Common.{◌+◌, arith, inl, inr, sym, subst}
use Rattle.std.specs.Prelude.{IsSomeAnd}
use Rattle.std.proofs.lemmas.Bool.{cases_lt}
use Rattle.cog_reader.specs.Going.{Touches}
use Rattle.cog_reader.proofs.ahead.reach.Goals as goal

pub loop-index-preserved : goal.loop-index-preserved
loop-index-preserved c =
    let before = c.loop-index.invariant in
    let end = c.loop-index.end in
    let r = c.reach_in-end.ensures in
    let range = c.in-Some.ensures in
    record {
      low = omega (arith, before.low, r.low);
      high = r.high;
      inside = elim (cases_lt end c.reach_in-end.result) [
        | inl more ↦ omega (arith, r.within more, range.known.1)
        | inr same ↦ omega (arith, before.inside, r.low)
      ];
      gone = λ k low high. elim (cases_lt k end) [ inl old ↦ before.gone k low old | inr new ↦ r.gone k new high ];
      wanted = λ k low high. elim (cases_lt k end) [
        | inl old ↦ before.wanted k low old
        | inr new ↦ (c.loop-index.index, subst (λ o. IsSomeAnd o (λ e. Touches e k)) (sym range.known.0) (r.touches k new high))
      ];
      needed = λ f agrees k low high. elim (cases_lt k end) [
        | inl old ↦ before.needed f agrees k low old
        | inr new ↦ (c.loop-index.index + 1, subst (λ o. IsSomeAnd o (λ e. Touches e k)) (sym (range.comes f agrees)) (r.touches k new high))
      ];
    }
