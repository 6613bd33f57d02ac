use Rattle.std.proofs.Common.{◌≡◌, ℕ, ◌+◌, ◌-◌, ◌≤◌, List, [], ◌∷◌, ◌++◌, Option, Some, None, true, false, refl, sym, ap, ◌∙◌, arith, nat_eq, inl, inr}
use Rattle.std.proofs.lemmas.Bool.Decides.{eqb_tells}
use Rattle.std.specs.List.{range_with_len}
use Rattle.std.specs.Option.{option_or}
use Rattle.std.specs.Global.{Vec}
use Rattle.lru.specs.LruCache.{LruCache, promoted}
use Rattle.range_cache.specs.Numbers.{has}
use Rattle.range_cache.specs.Cache.{blocks_in, brought, numbers}
use Rattle.range_cache.proofs.Entries.{blocks_in-promoted, told}
use Rattle.range_cache.proofs.Fronts.{brought-none, brought-push, has-range_outside, has-brought, range-more}
use Rattle.range_cache.proofs.blocks.bring.Invariants.{IsMissed}
use Rattle.range_cache.proofs.blocks.bring.Goals as goal
use Rattle.range_cache.proofs.blocks.bring.Goals.{then-not-promote, else-not-promote}

-- the next number is missing
missed_more : (ns : List ℕ) (from n : ℕ) (m new : Option ℕ) → from ≤ n → IsMissed ns from n m → has n ns ≡ false → new ≡ option_or m (Some n) → IsMissed ns from (n + 1) new
missed_more ns from n None new low there gone is = rw is (low, omega arith, there, gone)
missed_more ns from n (Some k) new low (begins, less, there, is_gone) gone is = rw is (begins, omega arith, there, is_gone)

-- the next number is there
there_more : (ns : List ℕ) (from n : ℕ) (m new : Option ℕ) → from ≤ n → IsMissed ns from n m → has n ns ≡ true → new ≡ m → IsMissed ns from (n + 1) new
there_more ns from n None new low there is same = rw same (λ k begins less. elim (eqb_tells k n) [
  | inl e ↦ ap (λ j. has j ns) e.1 ∙ is
  | inr e ↦ let other = e.1 in there k begins (omega arith)
])
there_more ns from n (Some k) new low (begins, less, there, is_gone) is same = rw same (begins, omega arith, there, is_gone)

pub loop-number-init : goal.loop-number-init
loop-number-init c =
    let none : c.args.from - c.args.from ≡ 0 = omega arith in
    record {
      entries = sym (brought-none c.args.from (c.args.from - c.args.from) (blocks_in c.args.blocks.now.entries) none);
      capacity = refl;
      missed = λ k low high. absurd (omega arith);
    }

pub loop-number-preserved : goal.loop-number-preserved
loop-number-preserved c =
    let n = c.loop-number.number-counter in
    let from = c.args.from in
    let bs = blocks_in c.args.blocks.now.entries in
    let inv = c.loop-number.invariant in
    let place : from + (n - from) ≡ n = omega arith in
    let more : n - from + 1 ≡ n + 1 - from = omega arith in
    let same : has n (numbers bs) ≡ c.promote.result =
    sym (ap (λ es. has n (numbers es)) inv.entries ∙ has-brought n (range_with_len from (n - from)) bs)
    ∙ told n c.loop-number.blocks.entries _ c.promote.ensures.value in
    record {
      entries = ap (λ (k : LruCache ℕ (Vec ℕ)). blocks_in k.entries) c.promote.ensures.entries
          ∙ blocks_in-promoted n c.loop-number.blocks.entries
          ∙ ap (promoted (nat_eq n)) inv.entries
          ∙ brought-push n (range_with_len from (n - from)) bs c.requires.distinct (has-range_outside n from (n - from) (inr (omega arith)))
          ∙ ap (λ ns. brought ns bs) (sym (range-more from (n - from) ∙ ap (λ k. range_with_len from (n - from) ++ k ∷ []) place) ∙ ap (range_with_len from) more);
      capacity = ap (λ (k : LruCache ℕ (Vec ℕ)). k.cap) c.promote.ensures.entries ∙ inv.capacity;
      missed = elim c.if-not-promote.branch [
        | then-not-promote w ↦ missed_more (numbers bs) from n c.loop-number.missing _ (omega arith) inv.missed (same ∙ w.if-not-promote.true) (w.missing-is ∙ w.or-missing.ensures)
        | else-not-promote w ↦ there_more (numbers bs) from n c.loop-number.missing _ (omega arith) inv.missed (same ∙ w.if-not-promote.false) w.missing-is
      ];
    }
