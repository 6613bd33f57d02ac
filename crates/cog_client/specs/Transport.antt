-- What a transport promises, and what a fetch over it keeps.
use Rattle.std.specs.Prelude.{◌≡◌, ℕ, zero, suc, ◌+◌, ◌⊎◌, Bool, IsTrue, List, take, Option, Some, None, ⊤}
use Rattle.tiff_dir.specs.declared.query.Query.{Query}
use Rattle.http_range.specs.Book.{Publication, Book, HasDistinctTags, In}
use Rattle.http_range.specs.Honest.{IsPieceOfSome, ShowsOnly}
use Rattle.cog_client.specs.declared.delivered.Delivered.{Delivered}
use Rattle.cog_client.specs.declared.report.Report.{Report}
use Rattle.cog_client.specs.Keeps.{DeliversKeeping, RequestsKeeping, StopsAsking, StopsDelivery}
use Rattle.cog_client.specs.Report.{IsTrueReport}
use Rattle.cog_client.specs.Client.{ClientState, ClientAgrees, name_of, query_of}
use Rattle.cog_client.specs.Calls.{SameClient}

-- In what follows `speaks` says for which books a transport speaks. `before` and `after` say so at two moments.

-- What came of an answer shows only pieces of publications of each book that the transport speaks for. So do the answers of any servers
-- that have one file of a name after another, each under its ETag, and say what is so.
abbrev pub IsTrueToAll : (Book → Type 0) → List ℕ → Type 0
IsTrueToAll speaks text = (book : Book) → speaks book → ShowsOnly (IsPieceOfSome book) text

-- the transport still speaks for each book that it spoke for
abbrev pub SpeaksOn : (Book → Type 0) → (Book → Type 0) → Type 0
SpeaksOn before after = (book : Book) → before book → after book

-- The transport speaks for a book of the client's name, no two of whose publications have one ETag, and the client agrees with it.
pub record ReadsBook (speaks : Book → Type 0) (c : ClientState) (book : Book) : Type 0 where
  pub named : (p : Publication) → In p book → p.name ≡ name_of c
  pub distinct : HasDistinctTags book
  pub spoken : speaks book
  pub agrees : ClientAgrees c book

-- Host, name, query and the options of requests stay, and so does each book that the client reads.
pub record KeepsReading (before after : Book → Type 0) (old new : ClientState) : Type 0 where
  pub same : SameClient old new
  pub reads : (book : Book) → ReadsBook before old book → ReadsBook after new book

-- The report is true of one publication of each book that the client reads: the one whose ETag the report has.
abbrev pub IsTrueOfBooks : (Book → Type 0) → ClientState → Report → Type 0
IsTrueOfBooks speaks c r = (book : Book) → ReadsBook speaks c book → IsTrueReport r (name_of c) (query_of c) book

-- there is no report: `tries` more exchanges are used up, or there is no query
abbrev pub IsInVain : Option Query → ℕ → ℕ → ℕ → Type 0
IsInVain query tries old new = (new ≡ old + tries) ⊎ (query ≡ None)

-- ---- what is exchanged

-- In what follows `answers` says what may come of a request. It is `Some` of a text of its answer, or `None` if the answer is lost.

-- what comes of a request
abbrev pub Coming : Type 1
Coming = List ℕ → Option (List ℕ) → Type 0

-- what may come later might have come before
abbrev pub AnswersOn : Coming → Coming → Type 0
AnswersOn before after = (request : List ℕ) (came : Option (List ℕ)) → after request came → before request came

-- what comes is such a text of the answer, or the answer is lost
abbrev pub OrLost : (List ℕ → List ℕ → Type 0) → Coming
OrLost answers request None = ⊤
OrLost answers request (Some text) = answers request text

-- all of the answer comes, up to `n` bytes
abbrev pub UpTo : ℕ → (List ℕ → List ℕ → Type 0) → Coming
UpTo n answers request None = ⊥
UpTo n answers request (Some bytes) = (whole : List ℕ) × answers request whole × (bytes ≡ take n whole)

-- what comes is as `answers` says, and an answer is lost only if `lost` is set
abbrev pub UnlessTold : Bool → Coming → Coming
UnlessTold lost answers request came = answers request came × (came ≡ None → IsTrue lost)

-- The answer to a request was lost on the way, or the client takes what came of it.
abbrev pub TakesOrLoses : Coming → List ℕ → ClientState → ClientState → Type 0
TakesOrLoses answers request old new =
    (answers request None × (new ≡ old)) ⊎ ((text : List ℕ) × (what : Delivered) × answers request (Some text) × DeliversKeeping old text what new)

-- The client is asked for its request, and takes what comes of the answer.
pub record FetchesOnce (answers : Coming) (old new : ClientState) : Type 0 where
  pub request : List ℕ
  pub asking : ClientState
  pub asks : RequestsKeeping old (Some request) asking
  pub takes : TakesOrLoses answers request asking new

-- This is done `n` times, and nothing else is done to the client.
abbrev pub Fetches : Coming → ℕ → ClientState → ClientState → Type 0
Fetches answers zero old new = new ≡ old
Fetches answers (suc n) old new = (mid : ClientState) × Fetches answers n old mid × FetchesOnce answers mid new

-- Nothing more is done to the client, or it is asked for a request and has none.
abbrev pub RestsOrHasNone : ClientState → ClientState → Type 0
RestsOrHasNone old new = (new ≡ old) ⊎ RequestsKeeping old None new

-- This is done as often as there were exchanges from `before` to `after`. Then the client may have been asked for a request, and had none.
pub record FetchesAll (answers : Coming) (before after : ℕ) (old new : ClientState) : Type 0 where
  pub times : ℕ
  pub counted : after ≡ before + times
  pub last : ClientState
  pub fetches : Fetches answers times old last
  pub ends : RestsOrHasNone last new

-- This is done some number of times.
abbrev pub FetchesSome : Coming → ClientState → ClientState → Type 0
FetchesSome answers old new = (n : ℕ) × FetchesAll answers 0 n old new

-- anything may come of a request
abbrev pub Anything : Coming
Anything request came = ⊤

-- ---- out of memory

-- The client's request was made, and memory ran out while the client took what came of the answer.
pub record StopsExchange (answers : Coming) (old new : ClientState) : Type 0 where
  pub request : List ℕ
  pub asking : ClientState
  pub asks : RequestsKeeping old (Some request) asking
  pub text : List ℕ
  pub came : answers request (Some text)
  pub stops : StopsDelivery asking text new

-- Memory ran out for the request, or after it.
abbrev pub StopsOnce : Coming → ClientState → ClientState → Type 0
StopsOnce answers old new = StopsAsking old new ⊎ StopsExchange answers old new

-- It ran out in one exchange, after some number of them.
abbrev pub StopsFetching : Coming → ClientState → ClientState → Type 0
StopsFetching answers old new = (n : ℕ) × (mid : ClientState) × Fetches answers n old mid × StopsOnce answers mid new
