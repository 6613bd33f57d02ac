use Rattle.std.proofs.Common.{◌≡◌, ℕ, ◌+◌, ◌-◌, ◌/◌, ◌<◌, ◌≤◌, true, false, List, refl, ap, sym, ◌∙◌, subst, arith, inl, inr}
use Rattle.std.proofs.lemmas.Bool.Decides.{eqb_tells}
use Rattle.std.specs.List.{All, range_with_len}
use Rattle.extents.specs.Block.{first_block, blocks}
use Rattle.range_cache.specs.Numbers.{has, AreThere, IsGap, IsLed}
use Rattle.range_cache.specs.Cache.{Blocks, block_at, blocks_in, brought, numbers, bytes_at, Holds}
use Rattle.range_cache.proofs.Bytes.{IsOf, blocks-some, bytes_of}
use Rattle.range_cache.proofs.Fronts.{block_at-brought, has-brought, All-brought, led-brought}
use Rattle.range_cache.proofs.cache.Cache.touch.Goals as goal
use Rattle.range_cache.proofs.cache.Cache.touch.Goals.{in-None, in-Some}

-- the first missing block, and the end of the run of missing ones from it on
gap : (old new : List ℕ) (n count start end : ℕ) → ((k : ℕ) → has k new ≡ has k old) →
    n ≤ start → AreThere old n (start - n) → has start old ≡ false → start + 1 ≤ end → end ≤ n + count →
    ((k : ℕ) → start + 1 ≤ k → k < end → has k new ≡ false) → (end < n + count → has end new ≡ true) → IsGap old n count start end
gap old new n count start end same begins there first_gone some within gone ends = record {
  begins = begins;
  some = omega arith;
  within = within;
  before = λ k low high. there k low (omega arith);
  gone = λ k low high. elim (eqb_tells k start) [
    | inl e ↦ ap (λ j. has j old) e.1 ∙ first_gone
    | inr e ↦ let other = e.1 in sym (same k) ∙ gone k (omega arith) high
  ];
  ends = λ less. sym (same end) ∙ ends less;
}

-- the blocks of the range come to the front
moved : (c : goal.Joined-bring) → blocks_in c.bring.new.blocks.entries
    ≡ brought (range_with_len (first_block c.args.first) (blocks c.args.first c.args.len)) (blocks_in c.self.inside.blocks.entries)
moved c =
    let count = blocks-some c.args.first c.args.len c.requires.some in
    let all : (c.args.first + c.args.len - 1) / 16384 + 1 - c.args.first / 16384 ≡ blocks c.args.first c.args.len = omega (arith, count) in
    c.bring.ensures.entries ∙ ap (λ n. brought (range_with_len (first_block c.args.first) n) (blocks_in c.self.inside.blocks.entries)) all

pub returns-clause-exact : goal.returns-clause-exact
returns-clause-exact c =
    let first = c.args.first in
    let len = c.args.len in
    let from = first_block first in
    let count = blocks-some first len c.requires.some in
    let old = blocks_in c.self.inside.blocks.entries in
    let view : old ≡ c.args.self.now.entries = ap (λ (v : Blocks). v.entries) c.self.view_is in
    let same : (k : ℕ) → has k (numbers (blocks_in c.bring.new.blocks.entries)) ≡ has k (numbers old) =
    λ k. ap (λ bs. has k (numbers bs)) (moved c) ∙ has-brought k (range_with_len from (blocks first len)) old in
    elim c.match-bring.branch [
      | in-None w ↦ rw w.result-is (subst (λ bs. AreThere (numbers bs) from (blocks first len)) view
          (λ k low high. w.in-None.ensures.missing k low (omega (arith, high, count))))
      | in-Some w ↦
          let start = w.in-Some.start in
          let end = w.end_of_run-end.result in
          let missing = w.in-Some.ensures.missing in
          let run = w.end_of_run-end.ensures in
          rw w.result-is (record {
            from = start;
            to = end;
            gap = subst (λ bs. IsGap (numbers bs) from (blocks first len) start end) view
                (gap (numbers old) (numbers (blocks_in c.bring.new.blocks.entries)) from (blocks first len) start end same
                missing.0 missing.2 missing.3 run.begins (omega (arith, run.within, count)) run.gone (λ less. run.ends (omega (arith, less, count))));
            first_is = refl;
            last_is = w.last_of.ensures;
          })
    ]

pub returns-clause-bytes : goal.returns-clause-bytes
unfolding Holds bytes_at
returns-clause-bytes c =
    let first = c.args.first in
    let len = c.args.len in
    let from = first_block first in
    let count = blocks-some first len c.requires.some in
    let old = blocks_in c.self.inside.blocks.entries in
    let ns = range_with_len from (blocks first len) in
    elim c.match-bring.branch [
      | in-None w ↦ rw w.result-is (λ f within held.
          bytes_of f first len (blocks_in c.bring.new.blocks.entries) within c.requires.some
          (subst (All (IsOf f)) (sym (moved c)) (All-brought (IsOf f) ns old (subst (λ (v : Blocks). All (IsOf f) v.entries) (sym c.self.view_is) held)))
          (λ k low high. ap (λ bs. has k (numbers bs)) (moved c) ∙ has-brought k ns old ∙ w.in-None.ensures.missing k low (omega (arith, high, count))))
      | in-Some w ↦ rw w.result-is tt
    ]

pub returns-clause-kept : goal.returns-clause-kept
returns-clause-kept c = λ k. ap (block_at k) (moved c)
    ∙ block_at-brought k (range_with_len (first_block c.args.first) (blocks c.args.first c.args.len)) _
    ∙ ap (λ (v : Blocks). block_at k v.entries) c.self.view_is

pub returns-clause-same : goal.returns-clause-same
returns-clause-same c = λ k. ap (λ bs. has k (numbers bs)) (moved c)
    ∙ has-brought k (range_with_len (first_block c.args.first) (blocks c.args.first c.args.len)) _
    ∙ ap (λ (v : Blocks). has k (numbers v.entries)) c.self.view_is

pub returns-clause-holds : goal.returns-clause-holds
unfolding Holds
returns-clause-holds c = λ f held. subst (All (IsOf f)) (sym (moved c))
    (All-brought (IsOf f) (range_with_len (first_block c.args.first) (blocks c.args.first c.args.len)) (blocks_in c.self.inside.blocks.entries)
    (subst (λ (v : Blocks). All (IsOf f) v.entries) (sym c.self.view_is) held))

pub returns-clause-led : goal.returns-clause-led
returns-clause-led c = subst (λ bs. IsLed (numbers bs) (first_block c.args.first) (blocks c.args.first c.args.len)) (sym (moved c))
    (led-brought (first_block c.args.first) (blocks c.args.first c.args.len) (blocks_in c.self.inside.blocks.entries))
