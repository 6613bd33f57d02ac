-- The files that the words of `cogserve` name.
use Rattle.std.specs.Prelude.{◌≡◌, ◌⊎◌, ◌<◌, ◌≤◌, ◌==◌, ℕ, List, [], ◌∷◌, length, Option, string_bytes, ⊤}
use Rattle.std.specs.Borrow.{Bor}
use Rattle.std.specs.List.{AllZip, after_first, before_first, position_or_len}
use Rattle.disk_files.specs.Watching.{verify_of}
use Rattle.disk_files.specs.declared.watched.Watched.{Watched}
use Rattle.programs.specs.declared.exit.Exit.{Exit}
use Rattle.programs.specs.declared.exit.Exit.TheVariants.{NotAFile, Memory}

-- The word has a `=` (61). The file has the name before the first one and the path after it. `verify` says after how many milliseconds
-- its bytes are compared again, if ever.
abbrev pub IsFile : (verify : Option ℕ) → List ℕ → Watched → Type 0
IsFile verify word file = (position_or_len (λ b. b == 61) word < length word)
    × (file.name.now ≡ before_first (λ b. b == 61) word) × (file.path.now ≡ after_first (λ b. b == 61) word) × (verify_of file ≡ verify)

-- the word has no `=`
abbrev pub IsNoFile : List ℕ → Type 0
IsNoFile word = length word ≤ position_or_len (λ b. b == 61) word

-- the fault names the word, or memory ran out
abbrev pub NamesFile : List ℕ → Exit → Type 0
NamesFile word (NotAFile told) = string_bytes told ≡ word
NamesFile word Memory = ⊤
NamesFile word fault = ⊥

-- one of the words names no file, and the fault names this word; or memory ran out
abbrev pub NamesOneOf : List (Bor (List ℕ)) → Exit → Type 0
NamesOneOf [] fault = fault ≡ Memory
NamesOneOf (word ∷ words) fault = (IsNoFile word.now × NamesFile word.now fault) ⊎ NamesOneOf words fault

-- these are the files of the words, one for each, in their order
abbrev pub AreFiles : (verify : Option ℕ) → List (Bor (List ℕ)) → List Watched → Type 0
AreFiles verify words files = AllZip (λ (word : Bor (List ℕ)) file. IsFile verify word.now file) words files

-- a word names no file, or memory ran out
abbrev pub IsOfFiles : Exit → Type 0
IsOfFiles (NotAFile told) = ⊤
IsOfFiles Memory = ⊤
IsOfFiles fault = ⊥
