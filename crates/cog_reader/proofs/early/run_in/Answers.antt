use Rattle.std.proofs.Common.{◌≡◌, suc, ◌+◌, ◌-◌, ◌/◌, ◌∙◌, arith, ap, inl, inr, sym, subst}
use Rattle.std.specs.Prelude.{IsSomeAnd}
use Rattle.std.proofs.lemmas.Bool.{cases_lt, false≢true}
use Rattle.extents.specs.Extent.{extent_of_span}
use Rattle.extents.specs.Block.{blocks}
use Rattle.range_cache.specs.Cache.{numbers}
use Rattle.range_cache.specs.Numbers.{has, missing as absent}
use Rattle.cog_reader.specs.Going.{Touches}
use Rattle.cog_reader.proofs.AheadLemmas.{touched, touches_in}
use Rattle.cog_reader.proofs.early.run_in.Goals as goal

pub returns-clause-needed : goal.returns-clause-needed
returns-clause-needed c =
    let a = c.args in
    let end = c.run_end-end.result in
    let run = c.run_end-end.ensures in
    let r = c.reach-to.ensures in
    let begins = c.requires.begins in
    let later = run.begins in
    let within = run.within in
    let other = c.if-end-from.false in
    let low = r.low in
    let high = r.high in
    let ns = numbers a.cache.now.entries in
    let count = touched a.range in
    let present = c.present.result in
    let rest : a.range.last / 16384 + 1 - a.from ≡ a.range.first / 16384 + blocks a.range.first (extent_of_span a.range).len - a.from =
    omega (arith, count, begins, a.range.ascending) in
    let there : present + absent ns a.from (a.range.first / 16384 + blocks a.range.first (extent_of_span a.range).len - a.from)
    ≡ a.range.first / 16384 + blocks a.range.first (extent_of_span a.range).len - a.from =
    subst (λ n. present + absent ns a.from n ≡ n) rest c.present.ensures in
    let capacity = c.capacity.ensures.exact in
    record {
      some = omega (arith, later, other, low);
      few = omega (arith, high);
      inside = r.inside;
      gone = λ k from_k k_to. elim (cases_lt k end) [ inl old ↦ run.gone k from_k old | inr new ↦ r.gone k new k_to ];
      needed = λ f agrees k from_k k_to. elim (cases_lt k end) [
        | inl old ↦ (a.index, subst (λ o. IsSomeAnd o (λ e. Touches e k)) (sym (c.requires.comes f agrees)) (touches_in a.range k (omega (arith, begins, from_k)) (omega (arith, old, within))))
        | inr new ↦ r.needed f agrees k new k_to
      ];
      wanted = λ k from_k k_to. elim (cases_lt k end) [
        | inl old ↦ (a.index, subst (λ o. IsSomeAnd o (λ e. Touches e k)) (sym c.requires.known) (touches_in a.range k (omega (arith, begins, from_k)) (omega (arith, old, within))))
        | inr new ↦ let later = r.wanted k new k_to in (suc later.0, later.1)
      ];
      range = extent_of_span a.range;
      index = a.index;
      known = c.requires.known;
      comes = c.requires.comes;
      run = record {
        end = end;
        begins = begins;
        some = omega (arith, later, other);
        within = omega (arith, within, count, a.range.ascending);
        gone = run.gone;
        on = low;
        near = omega (arith, high);
        room = omega (arith, there, capacity, high, begins, c.requires.ends, count, a.range.ascending, later, other, low);
      };
    }

-- the range has more blocks than there is room for, where its block `from` is missing and still nothing has room
pub returns-then-end-from-clause-full : goal.returns-then-end-from-clause-full
returns-then-end-from-clause-full c = λ gone.
    let a = c.args in
    let run = c.run_end-end.ensures in
    let same = c.if-end-from.true in
    let ns = numbers a.cache.now.entries in
    let some = c.law_missing_is_exact.ensures.some ns a.from (a.range.last / 16384 + 1 - a.from) a.from (omega arith) (omega (arith, c.requires.ends)) gone in
    let count = touched a.range in
    elim (cases_lt c.run_end-end.result c.min-2.result) [
      | inl short ↦ absurd (false≢true (sym gone ∙ ap (λ n. has n ns) (sym same) ∙ run.ends short))
      | inr far ↦ omega (arith, far, same, some, count, c.capacity.ensures.exact, c.present.ensures, c.requires.begins, c.requires.ends, c.min.ensures, c.min-2.ensures)
    ]
