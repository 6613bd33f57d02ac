-- What the words of `cogread` ask for, and the numbers of its options and of `cogserve`'s.
use Rattle.std.specs.Prelude.{◌≡◌, ◌⊎◌, ℕ, ◌^◌, ◌-◌, Bool, true, false, List, Option, Some, None, IsSome, option_and_then, string_bytes, ⊤}
use Rattle.std.specs.Option.{option_copied}
use Rattle.tiff_dir.specs.declared.query.Query.{Query}
use Rattle.tiff_dir.specs.declared.query.Query.TheVariants.{Window, Info}
use Rattle.tiff_dir.specs.declared.query.Pick.{Pick}
use Rattle.tiff_dir.specs.declared.query.Pick.TheVariants.{Level, Columns}
use Rattle.text_description.specs.declared.description.Form.TheVariants.{Words, Json}
use Rattle.command_lines.specs.FileUrl.{IsFileUrlError}
use Rattle.command_lines.specs.Number.{number_from}
use Rattle.command_lines.specs.declared.read.AskedWords.{AskedWords}
use Rattle.command_lines.specs.declared.read.AskedWords.TheVariants as words
use Rattle.command_lines.specs.declared.read.BoundsWords.{BoundsWords}
use Rattle.command_lines.specs.declared.read.ReadLine.{ReadLine}
use Rattle.command_lines.specs.declared.read.WindowWords.{WindowWords}
use Rattle.cog_client.specs.Client.{IsUrlRefusal}
use Rattle.cog_client.specs.declared.error.ClientError.{ClientError}
use Rattle.programs.specs.declared.exit.Exit.{Exit}
use Rattle.programs.specs.declared.exit.Exit.TheVariants.{Memory, NotAFileUrl, RefusedClient, RefusedUrl}
use Rattle.read_command.specs.declared.part.Area.{Area}
use Rattle.read_command.specs.declared.part.Area.TheVariants as area
use Rattle.read_command.specs.declared.part.Part.{Part}
use Rattle.read_command.specs.declared.reading.Asked.{Asked}
use Rattle.read_command.specs.declared.reading.Asked.TheVariants as asked
use Rattle.programs.specs.Bounds.{IsBounds, IsNoBounds, IsOfRectangle}
use Rattle.programs.specs.Number.{number_or, IsOfNumber}

-- a number of 32 bits
abbrev pub number_32 : List ℕ → Option ℕ
number_32 word = number_from 0 (2 ^ 32 - 1) word

-- the number of a level: 0, the largest one, if it is left out
abbrev pub level_number : Option (List ℕ) → Option ℕ
level_number word = number_or 0 (2 ^ 32 - 1) 0 word

-- the level is picked by columns, or, without them, by its number
abbrev pub IsPick : (level columns : Option (List ℕ)) → Pick → Type 0
IsPick level columns (Columns n) = option_and_then number_32 columns ≡ Some n
IsPick level columns (Level n) = (columns ≡ None) × (level_number level ≡ Some n)

-- the window has the numbers of its words
abbrev pub IsWindow : WindowWords → Query → Type 0
IsWindow words (Window x y w h pick) = (number_32 words.x.now ≡ Some x) × (number_32 words.y.now ≡ Some y) × (number_32 words.w.now ≡ Some w)
    × (number_32 words.h.now ≡ Some h) × IsPick (option_copied words.level) (option_copied words.columns) pick
IsWindow words Info = ⊥

-- A window of a level is a part of the level if its world file is asked for, too.
abbrev pub asked_window : Query → (has_world : Bool) → Asked
asked_window (Window x y w h (Level level)) true = asked.Part (record { area = area.Pixels x y w h; level = level; has_world = true })
asked_window query has_world = asked.Query query

-- the window of the words, and their world file
abbrev pub AsksWindowOf : WindowWords → (has_world : Bool) → Asked → Type 0
AsksWindowOf words has_world a = (query : Query) × IsWindow words query × (a ≡ asked_window query has_world)

-- the part has the level of this word, and a world file or none
pub record HasLevel (level : Option (List ℕ)) (has_world : Bool) (part : Part) : Type 0 where
  pub number : level_number level ≡ Some part.level
  pub world : part.has_world ≡ has_world

-- the area is the rectangle of the words
abbrev pub IsBoundsOf : BoundsWords → Area → Type 0
IsBoundsOf words (area.Bounds b) = IsBounds words b
IsBoundsOf words a = ⊥

-- The words ask for this, with a world file or without.
abbrev pub IsAsked : AskedWords → (has_world : Bool) → Asked → Type 0
IsAsked words.Info has_world a = a ≡ asked.Query Info
IsAsked (words.Description true) has_world a = a ≡ asked.Description Json
IsAsked (words.Description false) has_world a = a ≡ asked.Description Words
IsAsked (words.Window window) has_world a = AsksWindowOf window has_world a
IsAsked (words.Whole level) has_world (asked.Part part) = (part.area ≡ area.Whole) × HasLevel (option_copied level) has_world part
IsAsked (words.Bounds bounds) has_world (asked.Part part) = IsBoundsOf bounds part.area × HasLevel (option_copied bounds.level) has_world part
IsAsked w has_world a = ⊥

-- these words pick no level: the number of columns is none, or, without columns, that of the level is none
abbrev pub IsNoPick : (level columns : Option (List ℕ)) → Type 0
IsNoPick level (Some word) = number_32 word ≡ None
IsNoPick level None = level_number level ≡ None

-- one of the window's words is no number
abbrev pub IsNoWindow : WindowWords → Type 0
IsNoWindow words = (number_32 words.x.now ≡ None) ⊎ (number_32 words.y.now ≡ None) ⊎ (number_32 words.w.now ≡ None)
    ⊎ (number_32 words.h.now ≡ None) ⊎ IsNoPick (option_copied words.level) (option_copied words.columns)

-- the words ask for nothing: one of them is no number, or the sides of a rectangle are the wrong way round
abbrev pub AsksNothing : AskedWords → Type 0
AsksNothing words.Info = ⊥
AsksNothing (words.Description json) = ⊥
AsksNothing (words.Window window) = IsNoWindow window
AsksNothing (words.Whole level) = level_number (option_copied level) ≡ None
AsksNothing (words.Bounds bounds) = IsNoBounds bounds ⊎ (level_number (option_copied bounds.level) ≡ None)

-- a rectangle is asked for
abbrev pub AsksBounds : AskedWords → Type 0
AsksBounds (words.Bounds bounds) = ⊤
AsksBounds w = ⊥

-- one of the words is no number, or those of a rectangle that is asked for are none, or memory ran out
abbrev pub IsOfWords : AskedWords → Exit → Type 0
IsOfWords w fault = IsOfNumber fault ⊎ (AsksBounds w × IsOfRectangle fault)

-- The greatest number of exchanges; how many blocks are kept; and how many blocks a request may ask for after those that are needed next.
-- The words of the options give them, or the defaults.
abbrev pub requests_number : Option (List ℕ) → Option ℕ
requests_number word = number_or 1 65536 64 word

abbrev pub blocks_number : Option (List ℕ) → Option ℕ
blocks_number word = number_or 66 4096 256 word

abbrev pub ahead_number : Option (List ℕ) → Option ℕ
ahead_number word = number_or 0 64 0 word

-- a word of the line is no number, or none within the bounds of its option
abbrev pub HasNoNumber : ReadLine → Type 0
HasNoNumber line = AsksNothing line.asked ⊎ (requests_number (option_copied line.requests) ≡ None)
    ⊎ (blocks_number (option_copied line.blocks) ≡ None) ⊎ (ahead_number (option_copied line.ahead) ≡ None)

-- Of the words of `cogserve`: after how many connections it ends, and how many it serves at once. Then for how many seconds a
-- connection without progress keeps its slot while another one waits.
abbrev pub connections_number : List ℕ → Option ℕ
connections_number word = number_from 1 (2 ^ 32 - 1) word

abbrev pub at_once_number : Option (List ℕ) → Option ℕ
at_once_number word = number_or 1 10000 256 word

abbrev pub patience_number : Option (List ℕ) → Option ℕ
patience_number word = number_or 1 3600 60 word

-- the least number of seconds after which the bytes of files that seem unchanged are compared again; 0 stands for never
abbrev pub verify_number : Option (List ℕ) → Option ℕ
verify_number word = number_or 1 86400 0 word

-- a word about connections is no number within its bounds
abbrev pub HasNoLimit : (connections : List ℕ) (at_once patience : Option (List ℕ)) → Type 0
HasNoLimit connections at_once patience = (connections_number connections ≡ None) ⊎ (at_once_number at_once ≡ None)
    ⊎ (patience_number patience ≡ None)

-- the epoch that a word gives, if there is one
abbrev pub IsGiven : Option (List ℕ) → Option ℕ → Type 0
IsGiven None given = given ≡ None
IsGiven (Some word) given = (number_32 word ≡ given) × IsSome given

-- No client is made of a server and a name. They are refused for this reason, or memory ran out if no reason holds.
abbrev pub IsNoClient : Option ClientError → Exit → Type 0
IsNoClient refusal (RefusedClient error) = refusal ≡ Some error
IsNoClient refusal Memory = refusal ≡ None
IsNoClient refusal fault = ⊥

-- No client is made of a URL, by its word, its authority and its target. They are refused for this reason, and the fault names the word.
-- Or memory ran out.
abbrev pub IsNoUrlClient : (word authority target : List ℕ) (blocks : ℕ) → Exit → Type 0
IsNoUrlClient word authority target blocks (RefusedUrl named error) = (string_bytes named ≡ word) × IsUrlRefusal authority target blocks error
IsNoUrlClient word authority target blocks Memory = ⊤
IsNoUrlClient word authority target blocks fault = ⊥

-- the word is no URL of a file for this reason, and the fault names it; or memory ran out
abbrev pub IsNoUrl : List ℕ → Exit → Type 0
IsNoUrl word (NotAFileUrl named error) = (string_bytes named ≡ word) × IsFileUrlError word error
IsNoUrl word Memory = ⊤
IsNoUrl word fault = ⊥
