-- The messages of a stream, and a server's answers to them (RFC 9112, sections 2.1, 2.2, 9.3 and 9.6).
use Rattle.std.specs.Prelude.{◌≡◌, ◌≢◌, ◌⊎◌, ℕ, suc, ◌<◌, ◌≤◌, Bool, true, false, ◌==◌, not, if◌then◌else◌, List, [], ◌∷◌, ◌++◌, codes, length, take, drop}
use Rattle.std.specs.List.{list_any, flat_map}
use Rattle.httparse.specs.Grammar.{AllPass}
use Rattle.http_fields.specs.declared.limits.TheConstants.{MESSAGE_LIMIT, ANSWERS_LIMIT}
use Rattle.http_range.specs.Book.{Catalogue}
use Rattle.http_range.specs.Response.{Response, text_of, IsAnswer}

-- ---- lines (section 2.2): LF ends a line, and CR before it belongs to that end

-- any byte of a line but LF
abbrev pub is_line_byte : ℕ → Bool
is_line_byte b = not (b == 10)

abbrev pub IsEmptyLine : List ℕ → Type 0
IsEmptyLine line = (line ≡ codes "\n") ⊎ (line ≡ codes "\r\n")

-- a line that isn't empty: before LF there is something other than a single CR
pub record IsFilledLine (line : List ℕ) : Type 0 where
  pub content : List ℕ
  pub one : AllPass is_line_byte content
  pub some : content ≢ []
  pub more : content ≢ codes "\r"
  pub ended : line ≡ content ++ codes "\n"

-- the text is empty, or ends with LF
abbrev pub AreLines : List ℕ → Type 0
AreLines text = (text ≡ []) ⊎ ((front : List ℕ) × (text ≡ front ++ codes "\n"))

-- the text ends with a line that isn't empty and then an empty line, as a head does (section 2.1)
pub record EndsHead (text : List ℕ) : Type 0 where
  pub before : List ℕ
  pub line : List ℕ
  pub empty : List ℕ
  pub lines : AreLines before
  pub filled : IsFilledLine line
  pub ends : IsEmptyLine empty
  pub joined : text ≡ before ++ (line ++ empty)

-- ---- messages

-- a message ends where its head does, or has 8,192 bytes
abbrev pub IsMessage : List ℕ → Type 0
IsMessage front = (length front ≡ MESSAGE_LIMIT) ⊎ EndsHead front

-- no front of at most `n` bytes is a message
abbrev pub HasNoMessage : List ℕ → ℕ → Type 0
HasNoMessage stream n = (k : ℕ) → k ≤ n → ¬ (IsMessage (take k stream))

-- the first message of a stream: its shortest front that is a message
pub record IsFirstMessage (stream message : List ℕ) : Type 0 where
  pub front : take (length message) stream ≡ message
  pub is_one : IsMessage message
  pub shortest : (k : ℕ) → k < length message → ¬ (IsMessage (take k stream))

-- a stream of which no front is a message is unfinished
abbrev pub IsUnfinished : List ℕ → Type 0
IsUnfinished stream = HasNoMessage stream (length stream)

-- ---- answers

-- the answers to the messages in order, at most `n`, up to the first that closes the connection, with this one
pub data AreAnswers (catalogue : Catalogue) : ℕ → List ℕ → List Response → Type 0 where
  full : (stream : List ℕ) → AreAnswers catalogue 0 stream []
  unfinished : (n : ℕ) (stream : List ℕ) → IsUnfinished stream → AreAnswers catalogue (suc n) stream []
  closed : (n : ℕ) (stream message : List ℕ) (r : Response) → IsFirstMessage stream message
      → IsAnswer catalogue message r → r.close ≡ true → AreAnswers catalogue (suc n) stream (r ∷ [])
  more : (n : ℕ) (stream message : List ℕ) (r : Response) (rs : List Response) → IsFirstMessage stream message
      → IsAnswer catalogue message r → r.close ≡ false → AreAnswers catalogue n (drop (length message) stream) rs
      → AreAnswers catalogue (suc n) stream (r ∷ rs)

-- a server's answers to a stream
abbrev pub IsAnswered : Catalogue → List ℕ → List Response → Type 0
IsAnswered catalogue stream rs = AreAnswers catalogue ANSWERS_LIMIT stream rs

-- the bytes that are sent
abbrev pub answers_text : List Response → List ℕ
answers_text rs = flat_map text_of rs

-- how the answers to a stream end: with one that closes, with the hundredth, or because no whole message is left
pub data Ending : Type 0 where
  Closed : Ending
  Limit : Ending
  EndOfInput : Ending

abbrev pub ending_of : List Response → Ending
ending_of rs =
    if list_any (λ r. r.close) rs then Closed else if length rs == ANSWERS_LIMIT then Limit else EndOfInput
