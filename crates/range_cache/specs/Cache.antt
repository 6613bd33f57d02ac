-- What a contract sees of a cache: its blocks, the most recently used first, and how many it may have.
use Rattle.range_cache.specs.declared.cache.TheConstants.{MAX_CAPACITY, MIN_CAPACITY}
use Rattle.std.specs.Prelude.{◌≡◌, ℕ, ◌+◌, ◌-◌, ◌/◌, ◌%◌, ◌≤◌, min, not, ◌==◌, nat_eq, if◌then◌else◌, List, [], ◌∷◌, ◌++◌, length, take, map, reverse, slice_index, Option}
use Rattle.std.specs.List.{All, filter, filter_map, fold, range_with_len, IsDistinct}
use Rattle.std.specs.Map.{lookup_entry}
use Rattle.std.specs.Option.{option_map_or}
use Rattle.std.specs.Global.{Vec}
use Rattle.lru.specs.LruCache.{LruCache}
use Rattle.extents.specs.declared.limits.TheConstants.{BLOCK_SIZE}
use Rattle.extents.specs.Block.{block_of}
use Rattle.range_cache.specs.Numbers.{has}

-- a block's number and its bytes
abbrev pub Block : Type 0
Block = ℕ × List ℕ

pub record Blocks : Type 0 where
  pub entries : List Block
  pub capacity : ℕ

-- the pairs that are kept, as blocks
abbrev pub blocks_in : List (ℕ × Vec ℕ) → List Block
blocks_in es = map (λ e. (e.0, e.1.items)) es

abbrev pub kept_blocks : LruCache ℕ (Vec ℕ) → Blocks
kept_blocks c = record { entries = blocks_in c.entries; capacity = c.cap }

abbrev pub numbers : List Block → List ℕ
numbers bs = map (λ b. b.0) bs

-- no block is there twice, there are no more than the cache has room for, and that is 66 to 4,096
pub record IsSound (c : Blocks) : Type 0 where
  pub distinct : IsDistinct ◌==◌ (numbers c.entries)
  pub room : length c.entries ≤ c.capacity
  pub least : MIN_CAPACITY ≤ c.capacity
  pub most : c.capacity ≤ MAX_CAPACITY

-- each block has the bytes of `f` at its place
unfoldable pub Holds : List ℕ → Blocks → Type 0
Holds f c = All (λ b. b.1 ≡ block_of f b.0) c.entries

-- block `n`, if it is there
abbrev pub block_at : ℕ → List Block → Option Block
block_at n bs = lookup_entry (nat_eq n) bs

-- byte `k` of the file, as the blocks have it: 0 if they don't have it
abbrev pub byte_at : List Block → ℕ → ℕ
byte_at bs k = option_map_or (λ b. slice_index b.1 (k % BLOCK_SIZE)) (block_at (k / BLOCK_SIZE) bs) 0

-- `len` bytes from `first` on, as the blocks have them
unfoldable pub bytes_at : Blocks → ℕ → ℕ → List ℕ
bytes_at c first len = map (byte_at c.entries) (range_with_len first len)

-- how many of `len` bytes a block has from the place `at` in it on: 0 if the block isn't there
abbrev pub left_in : Option Block → ℕ → ℕ → ℕ
left_in b at len = option_map_or (λ b. min len (min BLOCK_SIZE (length b.1) - at)) b 0

-- those of the blocks `ns` that are there, in the order of `ns`
abbrev pub present : List ℕ → List Block → List Block
present ns bs = filter_map (λ n. block_at n bs) ns

-- The blocks `ns` that are there are brought to the front, one after another. The others follow in their order.
unfoldable pub brought : List ℕ → List Block → List Block
brought ns bs = reverse (present ns bs) ++ filter (λ b. not (has b.0 ns)) bs

-- a block is put at the front if it isn't there; the least recently used one leaves a full cache
abbrev pub put_one : ℕ → List Block → Block → List Block
put_one capacity bs b = if has b.0 (numbers bs) then bs else b ∷ take (capacity - 1) bs

-- blocks are put one after another
unfoldable pub stored : ℕ → List Block → List Block → List Block
stored capacity new bs = fold (put_one capacity) bs new

-- how many of the blocks were not there at their turn
unfoldable pub stores : ℕ → List Block → List Block → ℕ
stores capacity [] bs = 0
stores capacity (b ∷ new) bs = (if has b.0 (numbers bs) then 0 else 1) + stores capacity new (put_one capacity bs b)
