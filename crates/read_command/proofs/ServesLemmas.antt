-- A source that serves a file goes on to serve it, and a report stands.
use Rattle.std.proofs.Common.{◌≡◌, ◌≤◌, ◌+◌, ℕ, false, List, Option, Some, None, Result, Ok, Err, refl, subst, sym, ◌++◌, drop, arith, rules}
use Rattle.std.specs.Prelude.{IfOk, IsSome, min}
use Rattle.std.proofs.lemmas.List.{take-append-drop}
use Rattle.http_range.specs.Book.{Book, Publication}
use Rattle.cog_client.specs.Client.{ClientState, report_of}
use Rattle.cog_client.specs.declared.report.Report.{Report}
use Rattle.cog_client.specs.Keeps.{Stands}
use Rattle.cog_fetch.specs.Takes.{AllOf, TakenOf}
use Rattle.cog_fetch.specs.declared.taking.TheConstants.{ANSWER_LIMIT}
use Rattle.read_command.specs.declared.reading.Asked.{Asked}
use Rattle.read_command.specs.declared.reading.Asked.TheVariants as asked
use Rattle.read_command.specs.Exchanges.{GoesOn, IsAtOnce, ServesFile, StillReads}
use Rattle.read_command.specs.Text.{HasNothing, StaysWithin}

-- all of an answer may be taken
taken : (speaks : Book → Type 0) (answers : List ℕ → List ℕ → Type 0) (request bytes : List ℕ) → AllOf answers request (Some bytes) → TakenOf speaks answers false request (Some bytes)
taken speaks answers request bytes (whole, comes, is) = (
  whole,
  comes,
  record {
    front = λ book spoken. (drop ANSWER_LIMIT whole, subst (λ (t : List ℕ). t ++ drop ANSWER_LIMIT whole ≡ whole) (sym is) (take-append-drop ANSWER_LIMIT whole));
    all = λ lost book spoken. is;
  },
)

-- where the source speaks for a book and tells no loss, what is taken is all of an answer
all_taken : (speaks : Book → Type 0) (answers : List ℕ → List ℕ → Type 0) (request bytes : List ℕ) (book : Book) → speaks book
    → TakenOf speaks answers false request (Some bytes) → AllOf answers request (Some bytes)
all_taken speaks answers request bytes book spoken (whole, comes, is) = (whole, comes, is.all refl book spoken)

-- the source goes on to serve the file
pub serves_on : (sb sa : Book → Type 0) (before after : List ℕ → List ℕ → Type 0) (old new : ClientState) (p : Publication)
    → ServesFile sb before old p → StillReads sb sa old new → GoesOn sb sa before after → ServesFile sa after new p
serves_on sb sa before after old new p serves still goes = record {
  book = serves.book;
  reads = still serves.book serves.reads;
  among = serves.among;
  serves = λ c span request text asks comes. serves.serves c span request text asks
      (all_taken sb before request text serves.book serves.reads.spoken (goes false request (Some text) (taken sa after request text comes)));
}

-- the report that was returned stands
pub reported : {T E : Type 0} (r : Result T E) (x : T) (c : ClientState) (o : T → Option Report) (Q : T → Type 0) → r ≡ Ok x
    → IfOk r (λ t. Stands c (o t) × Q t) → IfOk r (λ t. IsSome (o t)) → IsSome (report_of c)
reported (Ok t) x c o Q is (stands, q) some = subst (λ (p : Option Report). IsSome p) stands.standing some
reported (Err e) x c o Q is none some = cc

-- what is asked at once is there where a report stands
pub something : (a : Asked) (o : Option Report) → IsAtOnce a → IsSome o → HasNothing a o → ⊥
something a None once some nothing = cc
something (asked.Query query) (Some r) once some nothing = nothing
something (asked.Part part) (Some r) once some nothing = once part refl
something (asked.Description form) (Some r) once some nothing = nothing

-- after one exchange at most there are enough left
pub near : (most before after cost : ℕ) → StaysWithin (min most 1) before after → before + cost + 2 ≤ most → after + cost + 1 ≤ most
near most before after cost few within = search (rules, arith)
