-- The blocks of a file: 16,384 bytes each, the last one up to the end of the file.
use Rattle.extents.specs.declared.limits.TheConstants.{BLOCK_SIZE}
use Rattle.std.specs.Prelude.{ℕ, ◌+◌, ◌-◌, ◌*◌, ◌/◌, Bool, ◌&&◌, nat_lt, nat_le, ◌==◌, if◌then◌else◌, List, slice_range, min}
use Rattle.std.specs.Int.{div_ceil}

-- block `n` of a file; after the end of the file it is empty
abbrev pub block_of : List ℕ → ℕ → List ℕ
block_of f n = slice_range f (n * BLOCK_SIZE) ((n + 1) * BLOCK_SIZE)

-- where block `n` of a file of `complete` bytes ends
abbrev pub end_of : ℕ → ℕ → ℕ
end_of complete n = min ((n + 1) * BLOCK_SIZE) complete

-- how many blocks a file of `complete` bytes has; none begins at its end
abbrev pub block_count : ℕ → ℕ
block_count complete = div_ceil complete BLOCK_SIZE

-- the first block that `len` bytes from `first` on touch, and then how many they touch
abbrev pub first_block : ℕ → ℕ
first_block first = first / BLOCK_SIZE

abbrev pub blocks : ℕ → ℕ → ℕ
blocks first len = if len == 0 then 0 else (first + len - 1) / BLOCK_SIZE - first / BLOCK_SIZE + 1

-- `n` is a block of a file of `complete` bytes, and lies wholly within the bytes from `first` up to `end`
abbrev pub is_whole : ℕ → ℕ → ℕ → ℕ → Bool
is_whole complete first end n =
    nat_lt (n * BLOCK_SIZE) complete && nat_le first (n * BLOCK_SIZE) && nat_le (end_of complete n) end
