-- Answers as an honest network delivers them: whole, or cut anywhere.
use Rattle.std.specs.Prelude.{◌≡◌, ◌≤◌, ℕ, ◌+◌, IsTrue, List, ◌++◌, length, drop, IfSome, IsSomeAnd, Result, IfOk}
use Rattle.http_range.specs.declared.reading.Why.{Why}
use Rattle.http_range.specs.Piece.{SeenPiece}
use Rattle.http_range.specs.Reading.{ReadsAnswer}
use Rattle.http_range.specs.Book.{Publication, Book, In, Catalogue, IsCatalogue, published}
use Rattle.http_range.specs.Response.{Response, text_of, IsAnswer}

-- `whole` begins with `front`
abbrev pub IsFront : List ℕ → List ℕ → Type 0
IsFront front whole = (rest : List ℕ) × (front ++ rest ≡ whole)

-- `text` is a front of an answer of a server whose catalogue keeps the limits. If that answer has an ETag, it is that of the file
-- of this name in the catalogue, and the book has this file.
pub record IsHonest (text name : List ℕ) (book : Book) : Type 0 where
  pub catalogue : Catalogue
  pub message : List ℕ
  pub response : Response
  pub lawful : IsCatalogue catalogue
  pub answers : IsAnswer catalogue message response
  pub front : IsFront text (text_of response)
  pub named : IfSome response.name (λ n. (n ≡ name) × IsSomeAnd (published name catalogue) (λ p. In p book))

-- the piece has the ETag and the length of `p`, and its body stands in the file of `p` from the piece's first position on
pub record IsPieceOf (p : Publication) (piece : SeenPiece) : Type 0 where
  pub tag : piece.tag ≡ p.tag
  pub complete : piece.complete ≡ length p.file
  pub place : piece.first + length piece.body ≤ piece.complete
  pub from_start : IsTrue piece.whole → piece.first ≡ 0
  pub body : IsFront piece.body (drop piece.first p.file)

-- the piece is one of a publication of this name in the book
abbrev pub IsPieceOfBook : List ℕ → Book → SeenPiece → Type 0
IsPieceOfBook name book piece = (p : Publication) × In p book × (p.name ≡ name) × IsPieceOf p piece

-- the piece is one of a publication in the book, whatever its name
abbrev pub IsPieceOfSome : Book → SeenPiece → Type 0
IsPieceOfSome book piece = (p : Publication) × In p book × IsPieceOf p piece

-- if a piece is read of `text`, `P` holds of it
abbrev pub IsReadAs : (SeenPiece → Type 0) → List ℕ → Type 0
IsReadAs P text = (r : Result SeenPiece Why) → ReadsAnswer text r → IfOk r P

-- The same holds of each front of `text`, however it is cut. What else stands in `text` doesn't matter.
abbrev pub ShowsOnly : (SeenPiece → Type 0) → List ℕ → Type 0
ShowsOnly P text = (front : List ℕ) → IsFront front text → IsReadAs P front
