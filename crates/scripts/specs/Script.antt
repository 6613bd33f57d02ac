-- Scripts, as docs/SCRIPTS.md has them: numbers, the words of a line with their event, and the lines of a text. Names in capitals
-- are the words of the table there.
use Rattle.std.specs.Prelude.{◌≡◌, ℕ, ◌+◌, ◌↔◌, ◌&&◌, ⊤, Bool, true, not, if◌then◌else◌, ◌==◌, nat_eq, nat_lt, nat_le, List, [], ◌∷◌, ◌++◌, codes, length, filter, Option, Some, None, Ok}
use Rattle.std.specs.List.{AllZip, list_all, slice_split, starts_with, ends_with}
use Rattle.std.specs.Option.{option_map}
use Rattle.std.specs.Str.{all_ascii_digits, bytes_eq}
use Rattle.std.specs.Str.Parse.{digits_value}
use Rattle.hex.specs.Hex.{decode_of}
use Rattle.tiff_dir.specs.declared.query.Pick.{Pick}
use Rattle.tiff_dir.specs.declared.query.Query.{Query}
use Rattle.tiff_dir.specs.declared.query.Pick.TheVariants.{Level, Columns}
use Rattle.tiff_dir.specs.declared.query.Query.TheVariants.{Window, Info}
use Rattle.world.specs.declared.event.Event.{Event}
use Rattle.world.specs.declared.event.Event.TheVariants.{Publish, Epoch, NewClient, Open, Forget, Ask, AskFrom, Deliver, Exchange, Check}

-- ---- numbers

-- the number of one or more decimal digits, if it is at most 4,294,967,295
abbrev pub number : List ℕ → Option ℕ
number word =
    if nat_lt 0 (length word) && all_ascii_digits word && nat_le (digits_value 10 word) 4294967295
    then Some (digits_value 10 word)
    else None

-- these words are these numbers
abbrev pub AreNumbers : List (List ℕ) → List ℕ → Type 0
AreNumbers = AllZip (λ word n. number word ≡ Some n)

-- how many bytes of an answer come: `-` stands for all
abbrev pub cut : List ℕ → Option (Option ℕ)
cut word = if bytes_eq word (codes "-") then Some None else option_map Some (number word)

-- ---- lines

-- what a source may answer at a path: the bytes of a file, or `None` if it can't be read
abbrev pub Finds : Type 1
Finds = List ℕ → Option (List ℕ) → Type 0

-- `level N` or `columns C`
abbrev pub IsPick : List ℕ → List ℕ → Pick → Type 0
IsPick word N (Level n) = (word ≡ codes "level") × (number N ≡ Some n)
IsPick word C (Columns c) = (word ≡ codes "columns") × (number C ≡ Some c)

-- `level N X Y W H`, `columns C X Y W H` or `info`
abbrev pub IsQuery : List (List ℕ) → Query → Type 0
IsQuery words (Window x y w h pick) = (word N X Y W H : List ℕ) × (words ≡ word ∷ N ∷ X ∷ Y ∷ W ∷ H ∷ [])
    × IsPick word N pick × AreNumbers (X ∷ Y ∷ W ∷ H ∷ []) (x ∷ y ∷ w ∷ h ∷ [])
IsQuery words Info = words ≡ codes "info" ∷ []

-- The words of a line are those of this event, by the rows of the table. `finds` says what there is at a path.
abbrev pub IsEvent : Finds → List (List ℕ) → Event → Type 0
IsEvent finds words (Publish name file) =
    (PATH : List ℕ) × (words ≡ codes "publish" ∷ name.items ∷ PATH ∷ []) × finds PATH (Some file.items)
IsEvent finds words (Epoch n) = (N : List ℕ) × (words ≡ codes "epoch" ∷ N ∷ []) × (number N ≡ Some n)
IsEvent finds words (NewClient name blocks) =
    (BLOCKS : List ℕ) × (words ≡ codes "client" ∷ name.items ∷ BLOCKS ∷ []) × (number BLOCKS ≡ Some blocks)
IsEvent finds words (Open i query) =
    (I : List ℕ) × (QUERY : List (List ℕ)) × (words ≡ codes "open" ∷ I ∷ QUERY) × (number I ≡ Some i) × IsQuery QUERY query
IsEvent finds words (Forget i) = (I : List ℕ) × (words ≡ codes "forget" ∷ I ∷ []) × (number I ≡ Some i)
IsEvent finds words (Ask message) = (HEX : List ℕ) × (words ≡ codes "ask" ∷ HEX ∷ []) × (decode_of HEX ≡ Ok message.items)
IsEvent finds words (AskFrom i) = (I : List ℕ) × (words ≡ codes "askfrom" ∷ I ∷ []) × (number I ≡ Some i)
IsEvent finds words (Deliver i a c) =
    (I A CUT : List ℕ) × (words ≡ codes "deliver" ∷ I ∷ A ∷ CUT ∷ []) × (number I ≡ Some i) × (number A ≡ Some a)
    × (cut CUT ≡ Some c)
IsEvent finds words (Exchange i) = (I : List ℕ) × (words ≡ codes "exchange" ∷ I ∷ []) × (number I ≡ Some i)
IsEvent finds words (Check i) = (I : List ℕ) × (words ≡ codes "check" ∷ I ∷ []) × (number I ≡ Some i)

-- a source that may find any file at a path, or none
abbrev pub Anything : Finds
Anything _ _ = ⊤

-- a source finds exactly what it found before
abbrev pub FindsTheSame : Finds → Finds → Type 0
FindsTheSame old new = (path : List ℕ) (file : Option (List ℕ)) → new path file ↔ old path file

-- the words of a line, between single spaces
abbrev pub words : List ℕ → List (List ℕ)
words line = slice_split (λ b. b == 32) line

-- no word is empty: there are no two spaces side by side, and none stands at an end
abbrev pub are_filled : List (List ℕ) → Bool
are_filled words = list_all (λ word. not (length word == 0)) words

-- no word is empty, and no CR stands at the end
abbrev pub is_plain : List ℕ → Bool
is_plain line = not (ends_with nat_eq line (codes "\r")) && are_filled (words line)

-- the event of a line
abbrev pub IsEventOf : Finds → List ℕ → Event → Type 0
IsEventOf finds line event = (is_plain line ≡ true) × IsEvent finds (words line) event

-- a line that is no event, whatever there is at its path
abbrev pub IsNoEvent : List ℕ → Type 0
IsNoEvent line = (event : Event) → ¬ (IsEventOf Anything line event)

-- a line that publishes a file which can't be read
pub record IsUnreadable (finds : Finds) (line : List ℕ) : Type 0 where
  pub NAME : List ℕ
  pub PATH : List ℕ
  pub plain : is_plain line ≡ true
  pub publishes : words line ≡ codes "publish" ∷ NAME ∷ PATH ∷ []
  pub missing : finds PATH None

-- ---- scripts

-- the lines of a text
abbrev pub lines : List ℕ → List (List ℕ)
lines text = slice_split (λ b. b == 10) text

-- empty lines and those that begin with `#` are passed over
abbrev pub is_read : List ℕ → Bool
is_read line = not (length line == 0) && not (starts_with nat_eq line (codes "#"))

-- the events of lines, in order
abbrev pub AreEvents : Finds → List (List ℕ) → List Event → Type 0
AreEvents finds lines events = AllZip (IsEventOf finds) (filter is_read lines) events

-- line `number` of a text, counted from 1, is refused for this reason, and the lines before it are read
pub record IsFirstRefused (finds : Finds) (text : List ℕ) (number : ℕ) (IsRefused : List ℕ → Type 0) : Type 0 where
  pub before : List (List ℕ)
  pub line : List ℕ
  pub behind : List (List ℕ)
  pub events : List Event
  pub parted : lines text ≡ before ++ line ∷ behind
  pub counted : number ≡ length before + 1
  pub earlier : AreEvents finds before events
  pub asked : is_read line ≡ true
  pub refused : IsRefused line
