-- Numbers of command lines, and words that are no numbers.
use Rattle.std.specs.Prelude.{◌≡◌, ℕ, List, Option, Some, None, string_bytes, ⊤}
use Rattle.command_lines.specs.Number.{number_from}
use Rattle.programs.specs.declared.exit.Exit.{Exit}
use Rattle.programs.specs.declared.exit.Exit.TheVariants.{NotANumber, OutOfRange, Memory}

-- the number of an option, or the default if it is left out
abbrev pub number_or : (least greatest default : ℕ) → Option (List ℕ) → Option ℕ
number_or least greatest default None = Some default
number_or least greatest default (Some word) = number_from least greatest word

-- the fault names the word, or memory ran out
abbrev pub Names : List ℕ → Exit → Type 0
Names word (NotANumber told range) = string_bytes told ≡ word
Names word Memory = ⊤
Names word fault = ⊥

-- the fault has the name and the range of the number, or memory ran out
abbrev pub HasRange : (name : List ℕ) (least greatest : ℕ) → Exit → Type 0
HasRange name least greatest (NotANumber told range) = (range.name.now ≡ name) × (range.least ≡ least) × (range.greatest ≡ greatest)
HasRange name least greatest Memory = ⊤
HasRange name least greatest fault = ⊥

-- the fault names a word that is no number of its range, or memory ran out
abbrev pub IsOfNumber : Exit → Type 0
IsOfNumber (NotANumber told range) = number_from range.least range.greatest (string_bytes told) ≡ None
IsOfNumber Memory = ⊤
IsOfNumber fault = ⊥

-- the same fault, whose line has the range, too
abbrev pub ranged : Exit → Exit
ranged (NotANumber word range) = OutOfRange word range
ranged fault = fault
