-- Numbers in decimal are read as they were written.
use Rattle.std.proofs.Common.{◌≡◌, ℕ, ◌^◌, ◌<◌, true, List, [], ◌∷◌, length, Some}
use Rattle.std.specs.Prelude.{decimal}
use Rattle.std.specs.Char.{is_ascii_digit}
use Rattle.std.specs.Str.{all_ascii_digits}
use Rattle.std.specs.Str.Parse.{digits_value}
use Rattle.std.proofs.lemmas.Bool.{and_parts, lt-ltb}
use Rattle.std.proofs.lemmas.List.Elements.{All-nil, All-cons}
use Rattle.std.proofs.lemmas.Fmt.{digits_decimal, digits_value-decimal, decimal_nonempty}
use Rattle.std.proofs.lemmas.Str.Parse.{IsNumeralModel, numerals_by_value, tells_all_ascii_digits}
use Rattle.httparse.specs.Grammar.{AllPass, is_uri_byte}
use Rattle.http_fields.specs.Digits.{number, number_64}
use Rattle.http_fields.specs.Laws.{DecimalsAreRead}
use Rattle.http_fields.proofs.VisibleLemmas.{digit_uri}

digits_pass : (ds : List ℕ) → all_ascii_digits ds ≡ true → AllPass is_uri_byte ds
digits_pass [] h = All-nil _
digits_pass (d ∷ ds) h =
    let parts = and_parts (is_ascii_digit d) (all_ascii_digits ds) h in
    All-cons (λ b. is_uri_byte b ≡ true) d ds (digit_uri d parts.0) (digits_pass ds parts.1)

own : IsNumeralModel (λ ds. all_ascii_digits ds ≡ true) (digits_value 10)
own = numerals_by_value _ tells_all_ascii_digits

decimal_digits : (n : ℕ) → n < 2 ^ 64 → all_ascii_digits (decimal n) ≡ true
decimal_digits n small = digits_decimal own n small

decimal_pass : (n : ℕ) → n < 2 ^ 64 → AllPass is_uri_byte (decimal n)
decimal_pass n small = digits_pass (decimal n) (decimal_digits n small)

number_is : (text : List ℕ) (n : ℕ) → 0 < length text → all_ascii_digits text ≡ true → digits_value 10 text ≡ n
    → number text ≡ Some n
number_is text n some digits value = rw (lt-ltb 0 (length text) some, digits, value)

number-decimal : (n : ℕ) → n < 2 ^ 64 → number (decimal n) ≡ Some n
number-decimal n small =
    number_is (decimal n) n (decimal_nonempty n small) (decimal_digits n small) (digits_value-decimal own n small)

number_64-decimal : (n : ℕ) → n < 2 ^ 64 → number_64 (decimal n) ≡ Some n
unfolding number_64
number_64-decimal n small = rw (number-decimal n small, lt-ltb n (2 ^ 64) small)

pub decimals_are_read : DecimalsAreRead
decimals_are_read =
    record { digits = decimal_digits; visible = decimal_pass; number = number-decimal; number_64 = number_64-decimal }
