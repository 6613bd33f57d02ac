-- Numbers of scripts: what is parsed of decimal digits.
use Rattle.std.proofs.Common.{◌≡◌, ◌&&◌, ℕ, ◌^◌, ◌<◌, true, false, List, [], ◌∷◌, length, Some, None, Result, Ok, Err, refl, ap, subst, ⊎_elim, arith, lit<}
use Rattle.std.specs.Borrow.{Bor}
use Rattle.std.proofs.lemmas.Bool.Decides.{nat_tests}
use Rattle.std.proofs.lemmas.List.{get_or_past}
use Rattle.std.proofs.lemmas.Bool.{cases_lt}
use Rattle.std.proofs.lemmas.Str.Parse.{IsNumeralModel, digit_at, numerals_by_value, parse_digits, tells_all_ascii_digits}
use Rattle.std.specs.Char.{is_ascii_digit}
use Rattle.std.specs.List.{list_all}
use Rattle.std.specs.Result.{OkIff, MatchResult, result_ok}
use Rattle.std.specs.Str.{IsAscii, IsUtf8, IsValidUpTo, all_ascii_digits, valid_up_to}
use Rattle.std.specs.declared.str.Utf8Error.{Utf8Error}
use Rattle.std.specs.Str.Parse.{ParsesUnsigned, digits_value}
use Rattle.scripts.specs.Script.{number}

pub list_all-digits : (ds : List ℕ) → list_all is_ascii_digit ds ≡ all_ascii_digits ds
list_all-digits [] = refl
list_all-digits (d ∷ ds) = ap (λ b. is_ascii_digit d && b) (list_all-digits ds)

decimal : IsNumeralModel (λ ds. all_ascii_digits ds ≡ true) (digits_value 10)
decimal = numerals_by_value (λ ds. all_ascii_digits ds ≡ true) tells_all_ascii_digits

pub digits_are_ascii : (ds : List ℕ) → all_ascii_digits ds ≡ true → IsAscii ds
digits_are_ascii ds e i =
    ⊎_elim (λ lt. let h = digit_at ds i (decimal.to ds e) lt in omega arith) (λ ge. rw (get_or_past ds i 0 ge) (lit< tt)) (cases_lt i (length ds))

-- a word with another byte is no number
pub number_none : (word : List ℕ) → all_ascii_digits word ≡ false → number word ≡ None
number_none word e = grind (arith, nat_tests)

from_parsed : {E : Type 0} (word : List ℕ) (r : Result ℕ E) → all_ascii_digits word ≡ true → OkIff r ((0 < length word) × (digits_value 10 word < 2 ^ 32)) (digits_value 10 word) → result_ok r ≡ number word
from_parsed word (Ok n) e h = grind (arith, nat_tests)
from_parsed word (Err _) e h = grind (arith, nat_tests)

-- what is parsed is the number
pub number_parsed : {E : Type 0} (word : List ℕ) (r : Result ℕ E) → ParsesUnsigned 32 10 word r → all_ascii_digits word ≡ true → result_ok r ≡ number word
number_parsed word r h e = from_parsed word r e (parse_digits decimal 32 word r h e)

-- bytes that are ASCII are read as text
pub text_read : (word : List ℕ) (r : Result (Bor (List ℕ)) Utf8Error) (text : Bor (List ℕ)) → Some text ≡ result_ok r → MatchResult r (λ s. (s.now ≡ word) × IsUtf8 word) (λ e. ¬ (IsUtf8 word) × IsValidUpTo word (valid_up_to e)) → text.now ≡ word
text_read word (Ok s) text e h = let same : s ≡ text = cc in subst (λ (s : Bor (List ℕ)). s.now ≡ word) same h.0
text_read word (Err _) text e h = absurd (cc)

pub not_read : (word : List ℕ) (r : Result (Bor (List ℕ)) Utf8Error) → None ≡ result_ok r → MatchResult r (λ s. (s.now ≡ word) × IsUtf8 word) (λ e. ¬ (IsUtf8 word) × IsValidUpTo word (valid_up_to e)) → ¬ (IsUtf8 word)
not_read word (Ok s) e h = absurd (cc)
not_read word (Err _) e h = h.0
