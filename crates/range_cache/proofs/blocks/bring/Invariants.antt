use Rattle.std.proofs.Common.{◌≡◌, ℕ, List, ◌-◌, ◌<◌, ◌≤◌, false, Option}
use Rattle.std.specs.Prelude.{MatchOption}
use Rattle.std.specs.List.{range_with_len}
use Rattle.range_cache.specs.Numbers.{has, AreThere}
use Rattle.range_cache.specs.Cache.{blocks_in, brought, numbers}
use Rattle.range_cache.proofs.blocks.bring.Given as goal

-- of the numbers from one up to another, none is missing, or this is the first
abbrev pub IsMissed : List ℕ → (from to : ℕ) → Option ℕ → Type 0
IsMissed ns from to missing = MatchOption missing (AreThere ns from (to - from))
    (λ n. (from ≤ n) × (n < to) × AreThere ns from (n - from) × (has n ns ≡ false))

abbrev pub invariant-loop-number : goal.invariant-loop-number
invariant-loop-number l = record {
  entries : blocks_in l.blocks.entries ≡ brought (range_with_len l.from (l.number-counter - l.from)) (blocks_in l.fn.blocks.entries);
  capacity : l.blocks.cap ≡ l.fn.blocks.cap;
  missed : IsMissed (numbers (blocks_in l.fn.blocks.entries)) l.from l.number-counter l.missing;
}
