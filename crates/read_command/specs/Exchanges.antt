-- What the exchanges for what is asked keep and do, and when they end.
use Rattle.std.specs.Prelude.{◌≡◌, ◌≢◌, ◌+◌, ◌≤◌, ◌⊎◌, ℕ, zero, suc, Bool, true, List, Option, Some, IfSome, IsSome, IsSomeAnd, ⊤}
use Rattle.tiff_dir.specs.declared.query.Query.{Query}
use Rattle.tiff_dir.specs.declared.query.Query.TheVariants.{Window, Info}
use Rattle.tiff_dir.specs.declared.query.Pick.TheVariants.{Level}
use Rattle.tiff_dir.specs.Query.{cost}
use Rattle.http_range.specs.Book.{Publication, Book, In}
use Rattle.http_range.specs.declared.reading.Why.{Why}
use Rattle.cog_client.specs.Client.{ClientState, query_of, report_of}
use Rattle.cog_client.specs.Keeps.{OpensKeeping}
use Rattle.cog_client.specs.Serves.{Serves}
use Rattle.cog_client.specs.Transport.{Anything, AnswersOn, FetchesSome, ReadsBook, StopsFetching}
use Rattle.cog_fetch.specs.Takes.{AllOf, TakenOf}
use Rattle.read_progress.specs.declared.noted.Noted.{Noted}
use Rattle.read_progress.specs.Noted.{IsRefused}
use Rattle.text_description.specs.Covering.{IsOfLevel}
use Rattle.text_description.specs.declared.world.WorldFile.{WorldFile}
use Rattle.read_command.specs.declared.part.Area.{Area}
use Rattle.read_command.specs.declared.part.Area.TheVariants as area
use Rattle.read_command.specs.declared.part.Part.{Part}
use Rattle.read_command.specs.declared.error.ReadError.{ReadError}
use Rattle.read_command.specs.declared.error.ReadError.TheVariants.{Memory, NotUsed}
use Rattle.read_command.specs.declared.reading.Asked.{Asked}
use Rattle.read_command.specs.declared.reading.Asked.TheVariants as asked
use Rattle.read_command.specs.Text.{IsFor, GivesWindow, StaysWithin}

-- the client still reads each book that it read and that the source spoke for
abbrev pub StillReads : (Book → Type 0) → (Book → Type 0) → ClientState → ClientState → Type 0
StillReads before after old new = (book : Book) → ReadsBook before old book → ReadsBook after new book

-- If there is a report, the client's query is one for what is asked of a file, with this world file. The file is that in the book with
-- the report's ETag.
abbrev pub AsksOf : Book → Asked → ClientState → Option WorldFile → Type 0
AsksOf book a c world =
    IfSome (report_of c) (λ r. (p : Publication) → In p book → p.tag ≡ r.tag → IfSome (query_of c) (λ q. IsFor p.file a q world))

-- one query is enough for what is asked
abbrev pub IsAtOnce : Asked → Type 0
IsAtOnce a = (part : Part) → a ≢ asked.Part part

-- The query is for a window of the level. For the whole level the window begins at the first sample.
abbrev pub IsWindowFor : Area → (level : ℕ) → Query → Type 0
IsWindowFor area.Whole level q = (width height : ℕ) × q ≡ Window 0 0 width height (Level level)
IsWindowFor (area.Bounds b) level q = IsOfLevel level q
IsWindowFor (area.Pixels x y w h) level q = q ≡ Window x y w h (Level level)

-- The query is one that is put for what is asked: for a part of a level Info, or a window of that level.
abbrev pub IsAskedFor : Asked → Query → Type 0
IsAskedFor (asked.Query query) q = q ≡ query
IsAskedFor (asked.Part part) q = (q ≡ Info) ⊎ IsWindowFor part.area part.level q
IsAskedFor (asked.Description form) q = q ≡ Info

-- `n` queries for what is asked are put one after another, with exchanges for each, and nothing else is done to the client.
abbrev pub ReadsQueries : Asked → ℕ → ClientState → ClientState → Type 0
ReadsQueries a zero old new = new ≡ old
ReadsQueries a (suc n) old new = (mid opened : ClientState) × (query : Query) × IsAskedFor a query
    × ReadsQueries a n old mid × OpensKeeping query mid opened × FetchesSome Anything opened new

-- some number of queries is put so
abbrev pub ReadsSome : Asked → ClientState → ClientState → Type 0
ReadsSome a old new = (n : ℕ) × ReadsQueries a n old new

-- Memory ran out in the exchanges for one query, after some number of queries.
abbrev pub StopsReading : Asked → ClientState → ClientState → Type 0
StopsReading a old new = (mid opened : ClientState) × (query : Query) × IsAskedFor a query
    × ReadsSome a old mid × OpensKeeping query mid opened × StopsFetching Anything opened new

-- ---- a source that serves one file

-- what is taken of the answers later might have been taken before
abbrev pub GoesOn : (speaks_before speaks_after : Book → Type 0) → (before after : List ℕ → List ℕ → Type 0) → Type 0
GoesOn speaks_before speaks_after before after = (lost : Bool) → AnswersOn (TakenOf speaks_before before lost) (TakenOf speaks_after after lost)

-- The client reads a book for which the source speaks, and the source brings only answers of one publication in it. What is taken of each
-- answer has all that is asked for, or is the whole file.
pub record ServesFile (speaks : Book → Type 0) (answers : List ℕ → List ℕ → Type 0) (c : ClientState) (p : Publication) : Type 0 where
  pub book : Book
  pub reads : ReadsBook speaks c book
  pub among : In p book
  pub serves : Serves (AllOf answers) p

-- Exchanges are left for what is asked of the file: as many as it costs, and `spare` more.
abbrev pub CostsWithin : Asked → (file : List ℕ) → (spare count most : ℕ) → Type 0
CostsWithin a file spare count most = (q : Query) → IsAskedFor a q → count + cost file q + spare ≤ most

-- ---- answers that aren't used

-- A URL names the file, and at most one exchange was begun. Its answer isn't used, for this reason, which is expected to stay.
pub record IsUnused {R P : Type 0} (is_url : Bool) (before after : ℕ) (noted : Noted R P) (why : Why) : Type 0 where
  pub asked : is_url ≡ true
  pub few : StaysWithin 1 before after
  pub refused : IsRefused why noted

-- this holds if the error is that of such an answer; or else memory ran out
abbrev pub EndsUnused : {R P : Type 0} → (is_url : Bool) → (before after : ℕ) → Noted R P → ReadError → Type 0
EndsUnused is_url before after noted (NotUsed why) = IsUnused is_url before after noted why
EndsUnused is_url before after noted Memory = ⊤
EndsUnused is_url before after noted error = ⊥

-- ---- when they end

-- the two reports have different ETags: the file was replaced between them
abbrev pub IsReplaced : ClientState → ClientState → Type 0
IsReplaced old new = IsSomeAnd (report_of old) (λ r. IsSomeAnd (report_of new) (λ s. s.tag ≢ r.tag))

-- The file was replaced `n` times between two reports while what is asked was read, and nothing else is done to the client.
abbrev pub FindsReplaced : Asked → ℕ → ClientState → ClientState → Type 0
FindsReplaced a zero old new = new ≡ old
FindsReplaced a (suc n) old new = (mid told : ClientState)
    × FindsReplaced a n old mid × ReadsSome a mid told × ReadsSome a told new × IsReplaced told new

-- The file was replaced at least `most` times, and then what is asked was put anew.
abbrev pub IsReplacedOften : Asked → (most : ℕ) → ClientState → ClientState → Type 0
IsReplacedOften a most old new = (n : ℕ) × (mid : ClientState) × (most ≤ n) × FindsReplaced a n old mid × ReadsSome a mid new

-- there is a report, and it isn't one of Info that only gives a window
abbrev pub AnswersPart : Part → ClientState → Type 0
AnswersPart part c = IsSomeAnd (report_of c) (λ r. query_of c ≡ Some Info → GivesWindow (asked.Part part) r.outcome → ⊥)

-- All exchanges are used up, or there is a report. For a part of a level it is one that does more than give its window.
abbrev pub IsAnswered : Asked → (most count : ℕ) → ClientState → Type 0
IsAnswered (asked.Part part) most count c = (most ≤ count) ⊎ AnswersPart part c
IsAnswered a most count c = (most ≤ count) ⊎ IsSome (report_of c)

-- The exchanges end when all are used up, or there is a report. For a part of a level this has to be one that does more than give its
-- window. These exchanges also end when the file was replaced as often as there may be exchanges.
abbrev pub Ends : Asked → (most count : ℕ) → (old new : ClientState) → Type 0
Ends (asked.Part part) most count old new =
    (most ≤ count) ⊎ (AnswersPart part new ⊎ IsReplacedOften (asked.Part part) most old new)
Ends a most count old new = (most ≤ count) ⊎ IsSome (report_of new)
