-- What is appended to a line that was begun.
use Rattle.std.specs.Prelude.{List, ◌++◌, ℕ, codes}
use Rattle.std.specs.List.{flat_map}
use Rattle.scripts.specs.LogText.{Words}

-- further words: a space before each
abbrev pub further : Words → List ℕ
further words = flat_map (λ word. codes " " ++ word) words
