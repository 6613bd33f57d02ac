-- The bytes that a cache lacks.
use Rattle.std.specs.Prelude.{◌≡◌, ℕ, ◌+◌, ◌-◌, ◌*◌}
use Rattle.range_cache.specs.declared.missing.Missing.{Missing}
use Rattle.extents.specs.declared.limits.TheConstants.{BLOCK_SIZE}
use Rattle.extents.specs.Block.{first_block, blocks, end_of}
use Rattle.range_cache.specs.Numbers.{IsGap}
use Rattle.range_cache.specs.Cache.{Blocks, numbers}

-- Take the blocks that the `len` bytes from `first` on touch. These are the bytes of the first run of missing blocks among them, and they
-- end with the file at the latest.
pub record IsFirstGap (c : Blocks) (file_length first len : ℕ) (m : Missing) : Type 0 where
  pub from : ℕ
  pub to : ℕ
  pub gap : IsGap (numbers c.entries) (first_block first) (blocks first len) from to
  pub first_is : m.first ≡ from * BLOCK_SIZE
  pub last_is : m.last + 1 ≡ end_of file_length (to - 1)
