-- Numbers as digits: `1*DIGIT`, leading zeros allowed (RFC 9110, sections 8.6 and 14.1.1).
use Rattle.std.specs.Prelude.{ℕ, ◌-◌, ◌^◌, ◌&&◌, min, if◌then◌else◌, nat_lt, List, length, Option, Some, None, option_and_then}
use Rattle.std.specs.Str.{all_ascii_digits}
use Rattle.std.specs.Str.Parse.{digits_value}

-- the number of one or more digits, however many there are
abbrev pub number : List ℕ → Option ℕ
number text = if nat_lt 0 (length text) && all_ascii_digits text then Some (digits_value 10 text) else None

-- the number of one or more digits, if it is below 2^64
unfoldable pub number_64 : List ℕ → Option ℕ
number_64 text = option_and_then (λ n. if nat_lt n (2 ^ 64) then Some n else None) (number text)

-- a number as the code keeps it, in 64 bits
abbrev pub capped : ℕ → ℕ
capped n = min n (2 ^ 64 - 1)
