-- The value of a Range field, and the part of a content that it names (RFC 9110, sections 14.1 and 14.2).
use Rattle.std.specs.Prelude.{◌≡◌, ℕ, ◌-◌, ◌≤◌, ◌==◌, min, if◌then◌else◌, nat_lt, nat_le, List, [], ◌∷◌, ◌++◌, length, take, drop, codes, Option, Some, None, option_map}
use Rattle.std.specs.List.{before_first, after_first, position_or_len}
use Rattle.std.specs.Option.{option_map_or}
use Rattle.std.specs.Str.{bytes_eq, str_to_ascii_lowercase}
use Rattle.http_range.specs.declared.range.RangeSpec.{RangeSpec}
use Rattle.http_range.specs.declared.range.RangeSpec.TheVariants.{Between, From, Suffix}
use Rattle.http_range.specs.declared.range.Resolved.{Resolved}
use Rattle.http_range.specs.declared.range.Resolved.TheVariants.{Whole, Part, Unsatisfiable}
use Rattle.http_fields.specs.Digits.{number, capped}

-- ---- the three forms

-- `bytes=` in letters of any case
pub record IsUnit (text : List ℕ) : Type 0 where
  pub folded : str_to_ascii_lowercase text ≡ codes "bytes="

-- `text` is the unit, then `a`, a dash, and `b`
pub record HasEnds (text a b : List ℕ) : Type 0 where
  pub unit : List ℕ
  pub is_unit : IsUnit unit
  pub parts : text ≡ unit ++ a ++ 45 ∷ b

-- `text` is a range of the value `spec`: `bytes=a-b` with a ≤ b, `bytes=a-` or `bytes=-n`; each number has one or more digits
abbrev pub IsRangeText : List ℕ → RangeSpec → Type 0
IsRangeText text (Between a b) =
    (x : List ℕ) × (y : List ℕ) × HasEnds text x y × (number x ≡ Some a) × (number y ≡ Some b) × (a ≤ b)
IsRangeText text (From a) = (x : List ℕ) × HasEnds text x [] × (number x ≡ Some a)
IsRangeText text (Suffix n) = (y : List ℕ) × HasEnds text [] y × (number y ≡ Some n)

-- ---- the same, computed

-- the range of two numbers, if they are in order
abbrev pub between : Option ℕ → Option ℕ → Option RangeSpec
between (Some a) (Some b) = if nat_le a b then Some (Between a b) else None
between first last = None

-- the range of the texts before and after the dash
abbrev pub spec_by : List ℕ → List ℕ → Option RangeSpec
spec_by first last =
    if length first == 0 then option_map Suffix (number last)
    else if length last == 0 then option_map From (number first)
    else between (number first) (number last)

-- the range in what follows `bytes=`
abbrev pub spec_behind : List ℕ → Option RangeSpec
spec_behind text =
    if nat_lt (position_or_len (λ b. b == 45) text) (length text)
    then spec_by (before_first (λ b. b == 45) text) (after_first (λ b. b == 45) text) else None

-- the range in the value of a Range field
unfoldable pub range_spec : List ℕ → Option RangeSpec
range_spec text = if bytes_eq (str_to_ascii_lowercase (take 6 text)) (codes "bytes=") then spec_behind (drop 6 text) else None

-- ---- the part

-- The positions that a range names in a content of `len` bytes. The last one is clipped, and a suffix longer than the content
-- takes all of it. A first position past the end is unsatisfiable, and so is a suffix of 0.
abbrev pub resolved : RangeSpec → ℕ → Resolved
resolved (Between a b) len = if nat_lt a len then Part a (min b (len - 1)) else Unsatisfiable
resolved (From a) len = if nat_lt a len then Part a (len - 1) else Unsatisfiable
resolved (Suffix n) len = if n == 0 then Unsatisfiable else Part (len - n) (len - 1)

-- the whole content, if there is no range
abbrev pub resolved_or : Option RangeSpec → ℕ → Resolved
resolved_or spec len = option_map_or (λ s. resolved s len) spec Whole

-- the part that the value of a Range field names
abbrev pub part : List ℕ → ℕ → Resolved
part text len = resolved_or (range_spec text) len

-- a range as the code keeps it, in 64 bits
abbrev pub capped_spec : RangeSpec → RangeSpec
capped_spec (Between a b) = Between (capped a) (capped b)
capped_spec (From a) = From (capped a)
capped_spec (Suffix n) = Suffix (capped n)
