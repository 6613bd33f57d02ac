-- Ranges as the definitions see them.
use Rattle.std.specs.Prelude.{ℕ, ◌+◌, nat_lt, if◌then◌else◌, List, map}
use Rattle.extents.specs.Extent as extent
use Rattle.tiff_dir.specs.Query.{blocks_of_extent}
use Rattle.reference_support.specs.declared.ranges.Extent.{Extent}

abbrev pub extent_of : Extent → extent.Extent
extent_of r = record { first = r.first; len = r.len }

abbrev pub extents_of : List Extent → List extent.Extent
extents_of rs = map extent_of rs

-- The number of blocks of a range that ends inside a file of `complete` bytes.
abbrev pub blocks_inside : ℕ → extent.Extent → ℕ
blocks_inside complete r = if nat_lt complete (r.first + r.len) then 0 else blocks_of_extent r
