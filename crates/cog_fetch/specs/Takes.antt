-- What a client takes of an answer that comes in pieces, and what the whole answer leaves.
use Rattle.std.specs.Prelude.{◌≡◌, ◌<◌, ℕ, Bool, true, false, IsTrue, List, [], ◌++◌, length, take, Some, None}
use Rattle.http_range.specs.Book.{Book, HasDistinctTags}
use Rattle.http_range.specs.Honest.{IsFront, IsPieceOfBook, IsReadAs}
use Rattle.cog_client.specs.Calls.{SameClient}
use Rattle.cog_client.specs.Client.{ClientAgrees, ClientState, name_of}
use Rattle.cog_client.specs.FedClient.{Fed}
use Rattle.cog_client.specs.Keeps.{RequestsKeeping, StopsDelivery}
use Rattle.cog_client.specs.Transport.{Coming, FetchesOnce, UpTo}
use Rattle.cog_fetch.specs.declared.taking.TheConstants.{ANSWER_LIMIT}

-- In what follows `speaks` says for which books a source speaks. `rest` is what of its answer was still to come. `lost` is set if the
-- source has reported a loss by now.

-- The bytes are the next ones of the answer, if the source speaks for any book.
abbrev pub IsNextOf : (Book → Type 0) → List ℕ → List ℕ → Type 0
IsNextOf speaks rest bytes = (book : Book) → speaks book → IsFront bytes rest

-- after these bytes `after` is still to come
abbrev pub LeavesOf : (Book → Type 0) → List ℕ → List ℕ → List ℕ → Type 0
LeavesOf speaks rest bytes after = (book : Book) → speaks book → rest ≡ bytes ++ after

-- The bytes are the whole answer, up to the most that is taken of an answer.
abbrev pub AreAllOf : (Book → Type 0) → List ℕ → List ℕ → Type 0
AreAllOf speaks rest bytes = (book : Book) → speaks book → bytes ≡ take ANSWER_LIMIT rest

-- The next bytes came, and were fed.
pub record Takes (speaks : Book → Type 0) (rest : List ℕ) (old new : ClientState) : Type 0 where
  pub bytes : List ℕ
  pub next : IsNextOf speaks rest bytes
  pub fed : (s : ClientState) (p : List ℕ) → Fed s p old → Fed s (p ++ bytes) new

-- A piece of `n` bytes came. If it isn't empty, the answer goes on after it. If it is empty, the answer was at its end, or a loss was
-- reported.
pub record TakesPiece (speaks : Book → Type 0) (rest : List ℕ) (n : ℕ) (lost : Bool) (after : List ℕ) (old new : ClientState) : Type 0 where
  pub takes : Takes speaks rest old new
  pub size : length takes.bytes ≡ n
  pub goes : 0 < n → LeavesOf speaks rest takes.bytes after
  pub ends : n ≡ 0 → lost ≡ false → (book : Book) → speaks book → rest ≡ []

-- The pieces that came were fed. Unless a loss was reported, they are the whole answer, up to the most that is taken.
pub record TakesAll (speaks : Book → Type 0) (rest : List ℕ) (lost : Bool) (old new : ClientState) : Type 0 where
  pub takes : Takes speaks rest old new
  pub all : lost ≡ false → AreAllOf speaks rest takes.bytes

-- Memory ran out, and the rest of the answer is dropped.
pub record Stops (speaks : Book → Type 0) (rest : List ℕ) (old new : ClientState) : Type 0 where
  pub bytes : List ℕ
  pub next : IsNextOf speaks rest bytes
  pub stops : (s : ClientState) (p : List ℕ) → Fed s p old → StopsDelivery s (p ++ bytes) new

-- An answer came, in part or whole. Host, name, query and the options of requests stay. So does agreement with a book of distinct ETags.
-- For this the bytes have to be read as a piece of a file of the client's name in the book.
pub record TakesAnswer (speaks : Book → Type 0) (rest : List ℕ) (old new : ClientState) : Type 0 where
  pub bytes : List ℕ
  pub next : IsNextOf speaks rest bytes
  pub same : SameClient old new
  pub agrees : (book : Book) → HasDistinctTags book → ClientAgrees old book → IsReadAs (IsPieceOfBook (name_of old) book) bytes → ClientAgrees new book

-- Memory ran out after a beginning of what came of the answer to a request.
abbrev pub StopsWithin : Coming → List ℕ → ClientState → ClientState → Type 0
StopsWithin answers request old new = (text : List ℕ) × answers request (Some text) × StopsDelivery old text new

-- ---- what may come of a request, in pieces

-- The bytes are a front of an answer, if the source speaks for any book. Unless a loss was reported, they are the whole answer, up to the
-- most that is taken.
pub record IsTakenOf (speaks : Book → Type 0) (lost : Bool) (whole bytes : List ℕ) : Type 0 where
  pub front : IsNextOf speaks whole bytes
  pub all : lost ≡ false → AreAllOf speaks whole bytes

-- Such bytes come of an answer, or a loss is reported.
abbrev pub TakenOf : (Book → Type 0) → (List ℕ → List ℕ → Type 0) → Bool → Coming
TakenOf speaks answers lost request None = IsTrue lost
TakenOf speaks answers lost request (Some bytes) = (whole : List ℕ) × answers request whole × IsTakenOf speaks lost whole bytes

-- all of an answer comes, up to the most that is taken
abbrev pub AllOf : (List ℕ → List ℕ → Type 0) → Coming
AllOf answers = UpTo ANSWER_LIMIT answers

-- ---- one exchange

-- An exchange was made, or the client had no request.
abbrev pub ExchangesOnce : Coming → Bool → ClientState → ClientState → Type 0
ExchangesOnce answers true old new = FetchesOnce answers old new
ExchangesOnce answers false old new = RequestsKeeping old None new
