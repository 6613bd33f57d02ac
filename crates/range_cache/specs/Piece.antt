-- The blocks that a piece of a file brings.
use Rattle.std.specs.Prelude.{◌≡◌, ℕ, ◌+◌, ◌-◌, ◌*◌, Bool, not, ◌&&◌, List, length, map, slice_range}
use Rattle.std.specs.List.{filter, range_with_len}
use Rattle.extents.specs.declared.span.Span.{Span}
use Rattle.extents.specs.declared.limits.TheConstants.{BLOCK_SIZE}
use Rattle.extents.specs.Block.{end_of, block_count, is_whole}
use Rattle.range_cache.specs.Numbers.{has}
use Rattle.range_cache.specs.Cache.{Block, Blocks, numbers}

-- block `n` of a piece that begins at `first`
abbrev pub block_in : ℕ → ℕ → List ℕ → ℕ → Block
block_in file_length first bytes n = (n, slice_range bytes (n * BLOCK_SIZE - first) (end_of file_length n - first))

-- block `n` lies wholly within a piece of `len` bytes from `first` on, and wholly within what is wanted
abbrev pub is_brought : ℕ → ℕ → ℕ → Span → ℕ → Bool
is_brought file_length first len wanted n =
    is_whole file_length first (first + len) n && is_whole file_length wanted.first (wanted.last + 1) n

-- The blocks that a piece brings, in ascending order.
unfoldable pub whole_blocks : ℕ → ℕ → List ℕ → Span → List Block
whole_blocks file_length first bytes wanted =
    map (block_in file_length first bytes)
    (filter (is_brought file_length first (length bytes) wanted) (range_with_len 0 (block_count file_length)))

-- the bytes are those of `f` from `first` on
abbrev pub IsPieceOf : List ℕ → ℕ → List ℕ → Type 0
IsPieceOf f first bytes = bytes ≡ slice_range f first (first + length bytes)

-- block `n` lies wholly within what is wanted, and isn't there
unfoldable pub is_wanted : Blocks → ℕ → Span → ℕ → Bool
is_wanted c file_length wanted n = is_whole file_length wanted.first (wanted.last + 1) n && not (has n (numbers c.entries))
