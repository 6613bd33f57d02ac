-- What a file's bytes say: its numbers, directories, fields and values (TIFF 6.0, section 2).
use Rattle.tiff_dir.specs.declared.tags.TheConstants.{NEW_SUBFILE_TYPE, PLANAR_CONFIGURATION, SAMPLES_PER_PIXEL, SAMPLE_FORMAT}
use Rattle.tiff_dir.specs.declared.limits.TheConstants.{MAX_DIRECTORIES}
use Rattle.std.specs.Prelude.{ℕ, zero, suc, ◌+◌, ◌*◌, Bool, true, false, ◌&&◌, ◌||◌, nat_eq, nat_lt, nat_le, ◌==◌, if◌then◌else◌, List, [], ◌∷◌, length, codes, slice_get, Option, Some, None, unwrap_or}
use Rattle.std.specs.Option.{option_map_or}
use Rattle.std.specs.List.{cons_option, filter, find, range_with_len, starts_with}
use Rattle.tiff_dir.specs.declared.order.Order.{Order}
use Rattle.tiff_dir.specs.declared.order.Order.TheVariants.{Little, Big}
use Rattle.tiff_dir.specs.declared.level.Kind.{Kind}
use Rattle.tiff_dir.specs.declared.level.Kind.TheVariants as kind
use Rattle.tiff_dir.specs.Number.{number_in}

infixl 10 ◌>>=◌
abbrev pub ◌>>=◌ : {A B : Type 0} → Option A → (A → Option B) → Option B
(Some x) >>= f = f x
None >>= f = None

-- the byte order that the first two bytes name
unfoldable pub order_of : List ℕ → Option Order
order_of f =
    if starts_with nat_eq f (codes "II") then Some Little else if starts_with nat_eq f (codes "MM") then Some Big else None

-- The number in the `n` bytes from `at` on, in the file's byte order, if these are in the file.
unfoldable pub number : List ℕ → ℕ → ℕ → Option ℕ
number f at n = order_of f >>= λ order. if nat_le (at + n) (length f) then Some (number_in order at n f) else None

-- Where directory `k` begins. The header has the offset of the first one, and each directory that of the next.
unfoldable pub directory : List ℕ → ℕ → Option ℕ
directory f zero = number f 4 4
directory f (suc k) = do
  at ← directory f k
  entries ← number f at 2
  number f (at + 2 + 12 * entries) 4

-- no offset of the directories 1 to `k` is 0 or missing
unfoldable pub has_directory : List ℕ → ℕ → Bool
has_directory f zero = true
has_directory f (suc k) = has_directory f k && option_map_or (nat_lt 0) (directory f (suc k)) false

-- the file's directories, by their numbers: at most 16
unfoldable pub directories : List ℕ → List ℕ
directories f = filter (has_directory f) (range_with_len 0 MAX_DIRECTORIES)

-- how many entries directory `k` has
unfoldable pub entry_count : List ℕ → ℕ → Option ℕ
entry_count f k = directory f k >>= λ at. number f at 2

-- What an entry says of a field: its tag, type and count, and where the entry stands. Type and count are there if their own bytes are
-- in the file.
pub record Field : Type 0 where
  pub tag : ℕ
  pub kind : Option ℕ
  pub count : Option ℕ
  pub place : ℕ

-- the entry at this place, if its tag is in the file
unfoldable pub field_at : List ℕ → ℕ → Option Field
field_at f at =
    number f at 2 >>= λ tag. Some (record { tag = tag; kind = number f (at + 2) 2; count = number f (at + 4) 4; place = at })

-- of the `n` entries from this place on, those whose tags are in the file
unfoldable pub fields_from : List ℕ → ℕ → ℕ → List Field
fields_from f at zero = []
fields_from f at (suc n) = cons_option (field_at f at) (fields_from f (at + 12) n)

-- The entries of directory `k`: 12 bytes each, after the count.
unfoldable pub fields : List ℕ → ℕ → List Field
fields f k = unwrap_or (do
  at ← directory f k
  n ← entry_count f k
  Some (fields_from f (at + 2) n)) []

-- the tags of all its entries are in the file
unfoldable pub has_all_tags : List ℕ → ℕ → Bool
has_all_tags f k = option_map_or (λ n. length (fields f k) == n) (entry_count f k) false

-- the first entry with the tag
unfoldable pub field : List ℕ → ℕ → ℕ → Option Field
field f k tag = find (λ (e : Field). e.tag == tag) (fields f k)

-- the types 1 to 12
abbrev pub kinds : List Kind
kinds =
    kind.Byte ∷ kind.Ascii ∷ kind.Short ∷ kind.Long ∷ kind.Rational ∷ kind.SignedByte ∷ kind.Undefined
    ∷ kind.SignedShort ∷ kind.SignedLong ∷ kind.SignedRational ∷ kind.Float ∷ kind.Double ∷ []

abbrev pub kind_of : ℕ → Option Kind
kind_of zero = None
kind_of (suc n) = slice_get kinds n

-- how many bytes a value of the type has: 1 for each type that isn't named
abbrev pub size_of : Kind → ℕ
size_of kind.Short = 2
size_of kind.SignedShort = 2
size_of kind.Long = 4
size_of kind.SignedLong = 4
size_of kind.Float = 4
size_of kind.Rational = 8
size_of kind.SignedRational = 8
size_of kind.Double = 8
size_of kind = 1

-- Where values of `len` bytes in all begin. If they fit into the last four bytes of the entry, they stand there, left-justified. If not,
-- their offset stands there.
unfoldable pub values_at : List ℕ → Field → ℕ → Option ℕ
values_at f e len = if nat_le len 4 then Some (e.place + 8) else number f (e.place + 8) 4

-- value `i` of a field
unfoldable pub field_value : List ℕ → Field → ℕ → Option ℕ
field_value f e i = do
  kind ← e.kind >>= kind_of
  count ← e.count
  at ← values_at f e (count * size_of kind)
  if nat_lt i count then number f (at + i * size_of kind) (size_of kind) else None

-- the default of an absent field that the profile doesn't require (section 8, and section 19 for SampleFormat)
abbrev pub default_of : ℕ → Option ℕ
default_of tag =
    if tag == NEW_SUBFILE_TYPE then Some 0
    else if tag == SAMPLES_PER_PIXEL || tag == PLANAR_CONFIGURATION || tag == SAMPLE_FORMAT then Some 1 else None

-- Value `i` of the field with this tag in directory `k`, or the default of the field if it is absent. It is absent if all tags of its
-- directory are in the file, and none is its own.
unfoldable pub value : List ℕ → ℕ → ℕ → ℕ → Option ℕ
value f k tag i = option_map_or (λ e. field_value f e i) (field f k tag) (if has_all_tags f k then default_of tag else None)
