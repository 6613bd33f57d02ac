-- What a cache has and lacks of `count` blocks from `n` on. It is said of the numbers of its blocks, the most recently used first.
use Rattle.std.specs.Prelude.{◌≡◌, ℕ, ◌+◌, ◌<◌, ◌≤◌, Bool, true, false, not, ◌==◌, List, length, take}
use Rattle.std.specs.List.{filter, list_any, range_with_len}

-- block `n` is there
abbrev pub has : ℕ → List ℕ → Bool
has n ns = list_any (λ m. n == m) ns

-- how many of `count` blocks from `n` on are missing
unfoldable pub missing : List ℕ → ℕ → ℕ → ℕ
missing ns n count = length (filter (λ k. not (has k ns)) (range_with_len n count))

-- each of `count` blocks from `n` on is there
abbrev pub AreThere : List ℕ → ℕ → ℕ → Type 0
AreThere ns n count = (k : ℕ) → n ≤ k → k < n + count → has k ns ≡ true

-- Of `count` blocks from `n` on, `from` is the first missing one, and `to` is the end of the unbroken run of missing ones.
pub record IsGap (ns : List ℕ) (n count from to : ℕ) : Type 0 where
  pub begins : n ≤ from
  pub some : from < to
  pub within : to ≤ n + count
  pub before : (k : ℕ) → n ≤ k → k < from → has k ns ≡ true
  pub gone : (k : ℕ) → from ≤ k → k < to → has k ns ≡ false
  pub ends : to < n + count → has to ns ≡ true

-- Those of `count` blocks from `n` on that are there are among the first `front` blocks of the cache. `front` is at most their number.
pub record IsLed (ns : List ℕ) (n count : ℕ) : Type 0 where
  pub front : ℕ
  pub few : front + missing ns n count ≤ count
  pub there : (k : ℕ) → n ≤ k → k < n + count → has k ns ≡ true → has k (take front ns) ≡ true

-- Of the blocks from `from` up to `to`, those before `end` are missing. Block `end` is there, if it is one of them.
pub record IsRunEnd (ns : List ℕ) (from to end : ℕ) : Type 0 where
  pub begins : from ≤ end
  pub within : end ≤ to
  pub gone : (k : ℕ) → from ≤ k → k < end → has k ns ≡ false
  pub ends : end < to → has end ns ≡ true

-- none of the blocks `ms` is there
abbrev pub AreGone : List ℕ → List ℕ → Type 0
AreGone ns ms = (k : ℕ) → has k ms ≡ true → has k ns ≡ false

-- those of `count` blocks from `n` on that were there are still there
abbrev pub AreKept : List ℕ → List ℕ → ℕ → ℕ → Type 0
AreKept old new n count = (k : ℕ) → n ≤ k → k < n + count → has k old ≡ true → has k new ≡ true

-- None of `count` blocks from `n` on has left, and those that arrived are there.
pub record Stays (old new : List ℕ) (n count : ℕ) (arrived : List ℕ) : Type 0 where
  pub kept : AreKept old new n count
  pub came : (k : ℕ) → has k arrived ≡ true → has k new ≡ true
