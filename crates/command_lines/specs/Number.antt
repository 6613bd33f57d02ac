-- Numbers of command lines.
use Rattle.std.specs.Prelude.{ℕ, ◌&&◌, if◌then◌else◌, nat_le, List, length, Option, Some, None, option_and_then}
use Rattle.http_fields.specs.Digits.{number_64}

-- the number of 1 to 10 decimal digits, if it is from `least` to `greatest`
abbrev pub number_from : ℕ → ℕ → List ℕ → Option ℕ
number_from least greatest word =
    option_and_then (λ n. if nat_le (length word) 10 && (nat_le least n && nat_le n greatest) then Some n else None)
    (number_64 word)
