-- Numbers in bytes (TIFF 6.0, section 2).
use Rattle.std.specs.Prelude.{ℕ, List}
-- `little_from` and `big_from`: the numbers of `n` bytes with the least and with the most significant byte first
pub use Rattle.byteorder.specs.Endian.{big_from, little_from}
use Rattle.tiff_dir.specs.declared.order.Order.{Order}
use Rattle.tiff_dir.specs.declared.order.Order.TheVariants.{Little, Big}

-- the number in the `n` bytes from `at` on, in this byte order
unfoldable pub number_in : Order → ℕ → ℕ → List ℕ → ℕ
number_in Little at n bytes = little_from at n bytes
number_in Big at n bytes = big_from at n bytes
