-- Pieces that come one after another, and what an answer leaves of a client that reads one publication.
use Rattle.std.proofs.Common.{◌≡◌, ℕ, ◌≤◌, Bool, true, false, List, [], ◌++◌, Some, None, length, take, sym, ap, subst, ◌∙◌, Result, Ok, Err, IfOk, OnErr}
use Rattle.std.proofs.Math.Seq.{take-append_seam}
use Rattle.std.proofs.lemmas.Bool.{false≢true}
use Rattle.std.proofs.lemmas.List.{append_assoc, append-nil, nil_from_length, take_all}
use Rattle.http_range.specs.Book.{Book, Publication, HasDistinctTags, In}
use Rattle.http_range.specs.declared.reading.Why.{Why}
use Rattle.http_range.specs.Piece.{SeenPiece}
use Rattle.http_range.specs.Honest.{IsFront, IsPieceOfBook, IsPieceOfSome, IsReadAs, ShowsOnly}
use Rattle.cog_client.specs.Calls.{SameClient}
use Rattle.cog_client.specs.Client.{ClientAgrees, ClientState, name_of}
use Rattle.cog_client.specs.FedClient.{Fed}
use Rattle.cog_client.specs.Keeps.{StopsDelivery}
use Rattle.cog_client.specs.Transport.{AnswersOn, IsTrueToAll, KeepsReading, OrLost, SpeaksOn}
use Rattle.cog_fetch.specs.declared.taking.TheConstants.{ANSWER_LIMIT}
use Rattle.cog_fetch.specs.Takes.{AreAllOf, IsNextOf, IsTakenOf, LeavesOf, Stops, StopsWithin, TakenOf, Takes, TakesAnswer, TakesPiece}

-- behind a front, the next bytes of what is left make a longer front
pub next_on : (before after : Book → Type 0) (rest left xs ys : List ℕ) → SpeaksOn before after → LeavesOf before rest xs left
    → IsNextOf after left ys → IsNextOf before rest (xs ++ ys)
next_on before after rest left xs ys on leaves next p speaks =
    let n = next p (on p speaks) in
    (n.0, append_assoc xs ys n.0 ∙ ap (λ (t : List ℕ). xs ++ t) n.1 ∙ sym (leaves p speaks))

-- so does what is left behind them
pub leaves_on : (before after : Book → Type 0) (rest left later xs ys : List ℕ) → SpeaksOn before after → LeavesOf before rest xs left
    → LeavesOf after left ys later → LeavesOf before rest (xs ++ ys) later
leaves_on before after rest left later xs ys on leaves next p speaks =
    leaves p speaks ∙ ap (λ (t : List ℕ). xs ++ t) (next p (on p speaks)) ∙ sym (append_assoc xs ys later)

-- pieces, and a piece behind them
abbrev pub takes_on : (before after : Book → Type 0) (rest left : List ℕ) (old mid new : ClientState) → SpeaksOn before after
    → (first : Takes before rest old mid) → LeavesOf before rest first.bytes left → Takes after left mid new → Takes before rest old new
takes_on before after rest left old mid new on first leaves then = record {
  bytes = first.bytes ++ then.bytes;
  next = next_on before after rest left first.bytes then.bytes on leaves then.next;
  fed = λ s p fed. subst (λ (t : List ℕ). Fed s t new) (append_assoc p first.bytes then.bytes) (then.fed s (p ++ first.bytes) (first.fed s p fed));
}

-- pieces, and one that meets want of memory
pub stops_on : (before after : Book → Type 0) (rest left : List ℕ) (old mid new : ClientState) → SpeaksOn before after
    → (first : Takes before rest old mid) → LeavesOf before rest first.bytes left → Stops after left mid new → Stops before rest old new
stops_on before after rest left old mid new on first leaves then = record {
  bytes = first.bytes ++ then.bytes;
  next = next_on before after rest left first.bytes then.bytes on leaves then.next;
  stops = λ s p fed. subst (λ (t : List ℕ). StopsDelivery s t new) (append_assoc p first.bytes then.bytes) (then.stops s (p ++ first.bytes) (first.fed s p fed));
}

-- as many bytes as are taken at most are all of an answer
pub all_of_most : (rest bytes left : List ℕ) → rest ≡ bytes ++ left → length bytes ≡ ANSWER_LIMIT → bytes ≡ take ANSWER_LIMIT rest
all_of_most rest bytes left is long =
    sym (take-append_seam bytes left) ∙ ap (λ n. take n (bytes ++ left)) long ∙ ap (λ (t : List ℕ). take ANSWER_LIMIT t) (sym is)

-- so are the bytes to its end
pub all_to_end : (before after : Book → Type 0) (rest left : List ℕ) (lost : Bool) (n : ℕ) (later : List ℕ) (old mid new : ClientState) (on : SpeaksOn before after)
    (first : Takes before rest old mid) (leaves : LeavesOf before rest first.bytes left) (then : TakesPiece after left n lost later mid new)
    → n ≡ 0 → length first.bytes ≤ ANSWER_LIMIT → lost ≡ false → AreAllOf before rest (takes_on before after rest left old mid new on first leaves then.takes).bytes
all_to_end before after rest left lost n later old mid new on first leaves then none few kept book spoken =
    let over : left ≡ [] = then.ends none kept book (on book spoken) in
    let empty : then.takes.bytes ≡ [] = nil_from_length then.takes.bytes (then.size ∙ none) in
    let whole : rest ≡ first.bytes = leaves book spoken ∙ ap (λ (t : List ℕ). first.bytes ++ t) over ∙ append-nil first.bytes in
    ap (λ (t : List ℕ). first.bytes ++ t) empty ∙ append-nil first.bytes ∙ sym whole
    ∙ sym (take_all ANSWER_LIMIT rest (subst (λ (t : List ℕ). length t ≤ ANSWER_LIMIT) (sym whole) few))

-- what is taken of an answer that came of a request came of that
pub taken_of : (before mid : Book → Type 0) (answers : List ℕ → List ℕ → Type 0) (lost : Bool) (request rest left bytes : List ℕ) → SpeaksOn before mid
    → answers request rest → left ≡ rest → IsTakenOf mid lost left bytes → TakenOf before answers lost request (Some bytes)
taken_of before mid answers lost request rest left bytes on came same taken = (
  rest,
  came,
  subst (λ r. IsTakenOf before lost r bytes) same (record {
    front = λ book spoken. taken.front book (on book spoken);
    all = λ kept book spoken. taken.all kept book (on book spoken);
  }),
)

-- what may come later might have come before
pub taken_on : (before after : Book → Type 0) (answers later : List ℕ → List ℕ → Type 0) → SpeaksOn before after → AnswersOn (OrLost answers) (OrLost later)
    → (lost : Bool) → AnswersOn (TakenOf before answers lost) (TakenOf after later lost)
taken_on before after answers later on goes lost request None is = is
taken_on before after answers later on goes lost request (Some bytes) (whole, came, taken) = (
  whole,
  goes request (Some whole) came,
  record {
    front = λ book spoken. taken.front book (on book spoken);
    all = λ kept book spoken. taken.all kept book (on book spoken);
  },
)

-- and so did what was taken before memory was wanting
pub stops_of : (before mid : Book → Type 0) (answers : List ℕ → List ℕ → Type 0) (request rest left bytes : List ℕ) (old new : ClientState) → SpeaksOn before mid
    → answers request rest → left ≡ rest → IsNextOf mid left bytes → StopsDelivery old bytes new → StopsWithin (TakenOf before answers true) request old new
stops_of before mid answers request rest left bytes old new on came same next stops =
    (bytes, taken_of before mid answers true request rest left bytes on came same (record { front = next; all = λ kept. absurd (false≢true (sym kept)) }), stops)

-- a piece that is read of a front of what shows only pieces of a book's publications is of the book, where they have the name
read_front : (bytes text name : List ℕ) (book : Book) → ((p : Publication) → In p book → p.name ≡ name) → IsFront bytes text → ShowsOnly (IsPieceOfSome book) text
    → IsReadAs (IsPieceOfBook name book) bytes
read_front bytes text name book named cut shows r reads = of r (shows bytes cut r reads)
  where
    of : (r : Result SeenPiece Why) → IfOk r (IsPieceOfSome book) → IfOk r (IsPieceOfBook name book)
    of (Ok x) (p, among, is) = (p, among, named p among, is)
    of (Err why) is = tt

-- what holds after every refusal
pub refused : {A E : Type 0} (r : Result A E) (P : Type 0) → P → OnErr r P
refused (Ok a) P h = tt
refused (Err e) P h = h

-- what came of an answer is taken, whatever becomes of it
pub keeps_taking : (before mid after : Book → Type 0) (rest : List ℕ) (old new : ClientState) → SpeaksOn before mid → SpeaksOn mid after
    → IsTrueToAll before rest → TakesAnswer mid rest old new → KeepsReading before after old new
keeps_taking before mid after rest old new on later shows takes = record {
  same = takes.same;
  reads = λ book is.
      let front = takes.next book (on book is.spoken) in
      record {
        named = λ p among. is.named p among ∙ sym takes.same.name;
        distinct = is.distinct;
        spoken = later book (on book is.spoken);
        agrees = takes.agrees book is.distinct is.agrees (read_front takes.bytes rest (name_of old) book is.named front (shows book is.spoken));
      };
}

-- an answer that came at once
pub keeps_whole : (before after : Book → Type 0) (old new : ClientState) (text : List ℕ) → SpeaksOn before after
    → IsTrueToAll before text → SameClient old new
    → ((book : Book) → HasDistinctTags book → ClientAgrees old book → IsReadAs (IsPieceOfBook (name_of old) book) text → ClientAgrees new book)
    → KeepsReading before after old new
keeps_whole before after old new text on shows same agrees =
    keeps_taking before before after text old new (λ p spoken. spoken) on shows
    (record { bytes = text; next = λ p spoken. ([], append-nil text); same = same; agrees = agrees })

-- what is kept from a moment on is kept from before it
pub keeps_later : (before mid after : Book → Type 0) (old new : ClientState) → SpeaksOn before mid → KeepsReading mid after old new
    → KeepsReading before after old new
keeps_later before mid after old new on keeps = record {
  same = keeps.same;
  reads = λ book is. keeps.reads book (record { named = is.named; distinct = is.distinct; spoken = on book is.spoken; agrees = is.agrees });
}
