-- How the words of `cogread` name a file.
use Rattle.std.specs.Prelude.{◌≡◌, ◌&&◌, ◌||◌, ◌+◌, ◌++◌, ℕ, zero, suc, eqb, nat_lt, if◌then◌else◌, true, false, not, Bool, List, [], ◌∷◌, Option, None, Some, codes, length, slice_get, slice_index_or}
use Rattle.std.specs.List.{starts_with}
use Rattle.std.specs.Str.{bytes_eq}
use Rattle.command_lines.specs.FileUrl.{IsUrl}
use Rattle.command_lines.specs.QuickLine.{has_option}
use Rattle.command_lines.specs.declared.file_words.TheConstants.{BOUNDS_AFTER_THE_FIRST}
use Rattle.command_lines.specs.declared.file_words.Expected.{Expected}
use Rattle.command_lines.specs.declared.file_words.Expected.TheVariants.{Any, Value, Place}
use Rattle.command_lines.specs.declared.file_words.FileWord.{FileWord}
use Rattle.command_lines.specs.declared.file_words.FileWord.TheVariants.{ServerAndName, Alone, Single}

-- an option whose value is the next word
abbrev pub is_spaced_option : List ℕ → Bool
is_spaced_option word = bytes_eq word (codes "--requests") || (bytes_eq word (codes "--blocks") || (bytes_eq word (codes "--ahead")
    || (bytes_eq word (codes "--header") || (bytes_eq word (codes "--output") || (bytes_eq word (codes "--level") || bytes_eq word (codes "--columns"))))))

-- the word stands for itself: it doesn't begin with `-`, or is `-` alone
abbrev pub is_place : Expected → List ℕ → Bool
is_place Any word = not (starts_with eqb word (codes "-")) || bytes_eq word (codes "-")
is_place (Value more) word = false
is_place Place word = true

-- what is expected after a word that isn't a value: `--bounds` has four values
abbrev pub expected_after_any : List ℕ → Expected
expected_after_any word = if bytes_eq word (codes "--") then Place else if bytes_eq word (codes "--bounds") then Value BOUNDS_AFTER_THE_FIRST
    else if is_spaced_option word then Value 0 else Any

-- what is expected after a word
abbrev pub expected_after : Expected → List ℕ → Expected
expected_after Any word = expected_after_any word
expected_after (Value zero) word = Any
expected_after (Value (suc more)) word = Value more
expected_after Place word = Place

-- the indices of the words that stand for themselves; the first word has the index `k`
abbrev pub places : Expected → (k : ℕ) → List (List ℕ) → List ℕ
places expected k [] = []
places expected k (word ∷ words) = (if is_place expected word then k ∷ [] else []) ++ places (expected_after expected word) (k + 1) words

abbrev pub is_command : List ℕ → Bool
is_command word = bytes_eq word (codes "window") || (bytes_eq word (codes "info") || bytes_eq word (codes "describe"))

-- how many words stand for themselves in a complete line of this command; the sides of a window do only if no option gives them
abbrev pub words_needed : (command : List ℕ) (whole : Bool) → ℕ
words_needed command whole = if bytes_eq command (codes "window") && not whole then 8 else 4

-- the word after the program's own name
abbrev pub command_of : List (List ℕ) → List ℕ
command_of words = slice_index_or words 1 []

-- the index of the word that stands where the server does, if the line of a command lacks words
abbrev pub single_word : List (List ℕ) → Option ℕ
single_word words = if is_command (command_of words) && nat_lt (length (places Any 0 words)) (words_needed (command_of words) (has_option (codes "--whole") words || has_option (codes "--bounds") words))
    then slice_get (places Any 0 words) 2 else None

-- Only a URL may be the first word. Otherwise one word may stand for server and name, if the line of a command lacks words.
abbrev pub IsFileWord : List (List ℕ) → FileWord → Type 0
IsFileWord words (Alone k) = (k ≡ 1) × IsUrl (command_of words)
IsFileWord words (Single k) = ¬ IsUrl (command_of words) × (single_word words ≡ Some k)
IsFileWord words ServerAndName = ¬ IsUrl (command_of words) × (single_word words ≡ None)
