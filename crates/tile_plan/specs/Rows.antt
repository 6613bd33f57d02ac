-- Rows of bytes, copied.
use Rattle.std.specs.Prelude.{◌≡◌, ◌≢◌, ℕ, ◌+◌, ◌*◌, ◌<◌, ◌≤◌, List, length, slice_index}
use Rattle.tile_plan.specs.declared.rows.Rows.{Rows}

-- where byte `s` of row `n` stands
abbrev pub at : Rows → ℕ → ℕ → ℕ
at r n s = r.first + n * r.step + s

-- the first `count` rows of `len` bytes end within `size` bytes
abbrev pub AreIn : Rows → (count len size : ℕ) → Type 0
AreIn r count len size = (n : ℕ) → n < count → at r n len ≤ size

-- the rows `write` of `new` are the rows `read` of `from`, and all other bytes are as before
pub record AreCopied (count len : ℕ) (from : List ℕ) (read : Rows) (old new : List ℕ) (write : Rows) : Type 0 where
  pub size : length new ≡ length old
  pub copied : (n s : ℕ) → n < count → s < len → slice_index new (at write n s) ≡ slice_index from (at read n s)
  pub others : (k : ℕ) → ((n s : ℕ) → n < count → s < len → k ≢ at write n s) → slice_index new k ≡ slice_index old k

-- the rows from one on
abbrev pub from_row : Rows → ℕ → Rows
from_row r n = record { first = r.first + n * r.step; step = r.step }
