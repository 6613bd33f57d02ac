-- What a client reads of an answer: a piece of a file, or why the answer isn't used.
use Rattle.std.specs.Prelude.{ℕ, ◌+◌, ◌<◌, ◌≤◌, ◌^◌, Bool, List, length, Result, Ok, Err}
use Rattle.http_range.specs.declared.reading.Why.{Why}
use Rattle.http_range.specs.declared.reading.Why.TheVariants.{Cut, Head, Status, NoTag, WeakTag, TagTooLong, NoRange, NoLength, Coding}
use Rattle.http_range.specs.declared.reading.Piece.{Piece}
use Rattle.http_range.specs.declared.reading.Reading.{Reading}
use Rattle.http_range.specs.declared.reading.Reading.TheVariants.{Piece as APiece, NotUsed}
use Rattle.http_range.specs.declared.check.CheckReading.{CheckReading}
use Rattle.http_range.specs.declared.check.CheckReading.TheVariants.{Seen, NotUsed as Unused}

-- a piece, without where it lies in memory
pub record SeenPiece : Type 0 where
  pub tag : List ℕ
  pub whole : Bool
  pub first : ℕ
  pub complete : ℕ
  pub body : List ℕ

-- The piece lies within its file, and the length of the file is below 2^64.
pub record IsInside (p : SeenPiece) : Type 0 where
  pub within : p.first + length p.body ≤ p.complete
  pub bounded : p.complete < 2 ^ 64

abbrev pub piece_seen : Piece → SeenPiece
piece_seen p = record { tag = p.tag; whole = p.whole; first = p.first; complete = p.complete; body = p.body.now }

abbrev pub reading_seen : Reading → Result SeenPiece Why
reading_seen (APiece p) = Ok (piece_seen p)
reading_seen (NotUsed why) = Err why

-- the ETag that is read of the answer to a check
abbrev pub check_seen : CheckReading → Result (List ℕ) Why
check_seen (Seen tag) = Ok tag
check_seen (Unused why) = Err why

-- the numbers of the reasons why an answer isn't used
abbrev pub number_of_why : Why → ℕ
number_of_why Cut = 1
number_of_why Head = 2
number_of_why (Status code) = 3
number_of_why NoTag = 4
number_of_why WeakTag = 5
number_of_why TagTooLong = 6
number_of_why NoRange = 7
number_of_why NoLength = 8
number_of_why Coding = 9

-- goes on with what was found, or stops with the reason why it isn't used
infixl 10 ◌>>=◌
abbrev pub ◌>>=◌ : {A B : Type 0} → Result A Why → (A → Result B Why) → Result B Why
(Ok x) >>= f = f x
(Err why) >>= f = Err why
