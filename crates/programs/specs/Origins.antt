-- Words that are to be origins.
use Rattle.std.specs.Prelude.{◌≡◌, true, false, ℕ, List, Option, Some, None, string_bytes, ⊤}
use Rattle.command_lines.specs.Origins.{is_origin}
use Rattle.programs.specs.declared.exit.Exit.{Exit}
use Rattle.programs.specs.declared.exit.Exit.TheVariants.{Memory, NotAnOrigin}

-- the word is an origin, or left out
abbrev pub IsOriginOrNone : Option (List ℕ) → Type 0
IsOriginOrNone None = ⊤
IsOriginOrNone (Some word) = is_origin word ≡ true

-- the fault names the word, which is no origin, or memory ran out
abbrev pub NamesNoOrigin : Option (List ℕ) → Exit → Type 0
NamesNoOrigin (Some word) (NotAnOrigin told) = (string_bytes told ≡ word) × (is_origin word ≡ false)
NamesNoOrigin word Memory = ⊤
NamesNoOrigin word fault = ⊥
