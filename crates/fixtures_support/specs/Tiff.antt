-- The parts of a file as bytes: its numbers, its header and its directories (TIFF 6.0, section 2).
use Rattle.std.specs.Prelude.{ℕ, List, ◌++◌, length, codes}
use Rattle.std.specs.Int.{bytes_low_first, bytes_high_first}
use Rattle.std.specs.List.{flat_map}
use Rattle.fixtures_support.specs.declared.build.Order.{Order}
use Rattle.fixtures_support.specs.declared.build.Order.TheVariants.{Little, Big}
use Rattle.fixtures_support.specs.declared.build.FieldType.{FieldType}
use Rattle.fixtures_support.specs.declared.build.FieldType.TheVariants as kind
use Rattle.fixtures_support.specs.declared.build.Values.{Values}
use Rattle.fixtures_support.specs.declared.build.Values.TheVariants as values
use Rattle.fixtures_support.specs.declared.build.Field.{Field}

-- The bytes of the number `v`, `size` of them.
unfoldable pub number : Order → ℕ → ℕ → List ℕ
number Little size v = bytes_low_first 0 size v
number Big size v = bytes_high_first size v

-- The two letters that name the order.
unfoldable pub letters : Order → List ℕ
letters Little = codes "II"
letters Big = codes "MM"

-- The header: the order, 42, and the offset of the first directory.
unfoldable pub header : Order → ℕ → List ℕ
header order first = letters order ++ number order 2 42 ++ number order 4 first

-- The number of a field type in an entry.
abbrev pub type_number : FieldType → ℕ
type_number kind.Ascii = 2
type_number kind.Short = 3
type_number kind.Long = 4
type_number kind.Double = 12

-- The type of a field's values.
abbrev pub type_of : Values → FieldType
type_of (values.Short v) = kind.Short
type_of (values.Long v) = kind.Long
type_of (values.At type count first) = type

-- The number of a field's values.
abbrev pub count_of : Values → ℕ
count_of (values.At type count first) = count
count_of _ = 1

-- The last four bytes of an entry: the offset of the values, or the value itself where it fits. A short value takes the first two of them.
abbrev pub value_offset : Order → Values → List ℕ
value_offset order (values.Short v) = number order 2 v ++ number order 2 0
value_offset order (values.Long v) = number order 4 v
value_offset order (values.At type count first) = number order 4 first

-- The 12 bytes of a field's entry: its tag, type, count and value offset.
unfoldable pub entry : Order → Field → List ℕ
entry order field =
    number order 2 field.tag ++ number order 2 (type_number (type_of field.values))
    ++ number order 4 (count_of field.values) ++ value_offset order field.values

-- A directory: the number of its entries, the entries, and the offset of the next directory.
unfoldable pub directory : Order → List Field → ℕ → List ℕ
directory order fields next =
    number order 2 (length fields) ++ flat_map (entry order) fields ++ number order 4 next
