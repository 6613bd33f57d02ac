-- An extent of bytes, which may be empty, and the bytes of a file in it.
use Rattle.std.specs.Prelude.{ℕ, ◌+◌, ◌-◌, Bool, nat_lt, List, length, slice_range}
use Rattle.extents.specs.declared.span.Span.{Span}

-- `len` bytes from `first` on
pub record Extent : Type 0 where
  pub first : ℕ
  pub len : ℕ

-- the bytes of the file in the extent
abbrev pub bytes_in : List ℕ → Extent → List ℕ
bytes_in f r = slice_range f r.first (r.first + r.len)

-- the extent ends after the end of the file
abbrev pub ends_past : List ℕ → Extent → Bool
ends_past f r = nat_lt (length f) (r.first + r.len)

-- the extent of a span, which is never empty
abbrev pub extent_of_span : Span → Extent
extent_of_span s = record { first = s.first; len = s.last + 1 - s.first }
