-- Numbers of eight bytes (TIFF 6.0, section 2: DOUBLE).
use Rattle.std.specs.Prelude.{ℕ, ◌+◌, ◌*◌, ◌/◌, List, length, map, reverse}
use Rattle.std.specs.List.{range_with_len, slice_range}
use Rattle.tiff_dir.specs.declared.order.Order.{Order}
use Rattle.tiff_dir.specs.declared.order.Order.TheVariants.{Little, Big}

-- the bytes of an item, with the most significant one first
abbrev pub big_first : Order → List ℕ → List ℕ
big_first Little item = reverse item
big_first Big item = item

-- The items of eight bytes, each with its most significant byte first.
unfoldable pub doubles_in : Order → List ℕ → List (List ℕ)
doubles_in order bytes =
    map (λ i. big_first order (slice_range bytes (8 * i) (8 * i + 8))) (range_with_len 0 (length bytes / 8))
