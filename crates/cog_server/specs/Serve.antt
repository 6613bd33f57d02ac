-- What a server answers on a stream (RFC 9112, sections 9.3 and 9.6).
use Rattle.std.specs.Prelude.{◌≡◌, ◌+◌, ◌<◌, ◌≤◌, ℕ, zero, suc, Bool, true, false, List, [], ◌∷◌, ◌++◌, drop, length, Result, Ok, Err}
use Rattle.http_fields.specs.declared.limits.TheConstants.{ANSWERS_LIMIT, MESSAGE_LIMIT}
use Rattle.http_range.specs.Book.{Catalogue}
use Rattle.http_range.specs.Honest.{IsFront}
use Rattle.http_range.specs.Response.{Response, text_of}
use Rattle.http_range.specs.Stream.{AreAnswers, IsAnswered, IsFirstMessage, answers_text, Ending, ending_of}
use Rattle.http_range.specs.Stream.Ending.{Closed, Limit, EndOfInput}
use Rattle.cog_server.specs.declared.served.Ended.{Ended}
use Rattle.cog_server.specs.declared.served.Ended.TheVariants.{Closed as told_closed, Limit as told_limit, EndOfInput as told_end}
use Rattle.cog_server.specs.declared.served.Served.{Served}
use Rattle.cog_server.specs.declared.served.ServeError.{ServeError}
use Rattle.cog_server.specs.declared.served.ServeError.TheVariants.{Read, Write, Memory}

-- In what follows `stream` is what was read, and `text` is what was written.

-- the answers to the first messages of a stream, one for each of these messages
pub record AreFirstAnswers (catalogue : Catalogue) (stream : List ℕ) (rs : List Response) : Type 0 where
  pub few : length rs ≤ ANSWERS_LIMIT
  pub answers : AreAnswers catalogue (length rs) stream rs

-- all answers to the stream begin with them
abbrev pub FirstAnswersBegin : Type 0
FirstAnswersBegin =
    (catalogue : Catalogue) (stream : List ℕ) (rs all : List Response) → AreFirstAnswers catalogue stream rs
    → IsAnswered catalogue stream all → (rest : List Response) × (rs ++ rest ≡ all)

-- `rest` follows the first `n` messages of the stream
abbrev pub IsBehind : ℕ → List ℕ → List ℕ → Type 0
IsBehind zero stream rest = stream ≡ rest
IsBehind (suc n) stream rest =
    (message : List ℕ) × IsFirstMessage stream message × IsBehind n (drop (length message) stream) rest

-- at most 8,191 bytes were read after the first `n` messages
pub record IsLittleAhead (n : ℕ) (stream : List ℕ) : Type 0 where
  pub rest : List ℕ
  pub behind : IsBehind n stream rest
  pub little : length rest < MESSAGE_LIMIT

abbrev pub ending_told : Ended → Ending
ending_told told_closed = Closed
ending_told told_limit = Limit
ending_told told_end = EndOfInput

-- All answers to the stream are written, and little was read after their messages. If they ended with the input, no more input comes.
pub record IsServed (catalogue : Catalogue) (stream text : List ℕ) (is_over : Type 0) (served : Served) : Type 0 where
  pub rs : List Response
  pub answers : IsAnswered catalogue stream rs
  pub written : text ≡ answers_text rs
  pub counted : served.answers ≡ length rs
  pub ending : ending_told served.ended ≡ ending_of rs
  pub over : ending_of rs ≡ EndOfInput → is_over
  pub ahead : IsLittleAhead (length rs) stream

-- all answers to the stream are written, and more may come
pub record IsReadSoFar (catalogue : Catalogue) (stream text : List ℕ) : Type 0 where
  pub rs : List Response
  pub answers : IsAnswered catalogue stream rs
  pub written : text ≡ answers_text rs
  pub ending : ending_of rs ≡ EndOfInput
  pub ahead : IsLittleAhead (length rs) stream

-- The first answers are written whole, and a front of the next one. Little was read after their messages.
pub record IsWrittenSoFar (catalogue : Catalogue) (stream text : List ℕ) : Type 0 where
  pub whole : List Response
  pub last : Response
  pub part : List ℕ
  pub answers : AreFirstAnswers catalogue stream (whole ++ last ∷ [])
  pub front : IsFront part (text_of last)
  pub written : text ≡ answers_text whole ++ part
  pub ahead : IsLittleAhead (length whole + 1) stream

-- the first answers are written whole
pub record AreWritten (catalogue : Catalogue) (stream text : List ℕ) : Type 0 where
  pub rs : List Response
  pub answers : AreFirstAnswers catalogue stream rs
  pub written : text ≡ answers_text rs

-- how serving ends; `is_over` means that nothing more comes
abbrev pub Serves : Catalogue → List ℕ → List ℕ → Type 0 → Result Served ServeError → Type 0
Serves catalogue stream text is_over (Ok served) = IsServed catalogue stream text is_over served
Serves catalogue stream text is_over (Err Read) = IsReadSoFar catalogue stream text
Serves catalogue stream text is_over (Err Write) = IsWrittenSoFar catalogue stream text
Serves catalogue stream text is_over (Err Memory) = AreWritten catalogue stream text

-- a read failed exactly if the result is `Read`, and a write exactly if it is `Write`
abbrev pub read_failed : Result Served ServeError → Bool
read_failed (Ok served) = false
read_failed (Err Read) = true
read_failed (Err Write) = false
read_failed (Err Memory) = false

abbrev pub write_failed : Result Served ServeError → Bool
write_failed (Ok served) = false
write_failed (Err Read) = false
write_failed (Err Write) = true
write_failed (Err Memory) = false

abbrev pub number_of_failure : ServeError → ℕ
number_of_failure Read = 1
number_of_failure Write = 2
number_of_failure Memory = 3
