-- What each call of a client keeps of the file that the client knows, beside what a caller sees of the call.
use Rattle.std.specs.Prelude.{◌≡◌, ℕ, ◌⊎◌, false, List, [], ◌∷◌, ◌++◌, Option, Some, None, IfSome, IsSome, slice_get, IfOk, Result}
use Rattle.tiff_dir.specs.declared.query.Query.{Query}
use Rattle.extents.specs.declared.span.Span.{Span}
use Rattle.extents.specs.Extent.{Extent}
use Rattle.tiff_dir.specs.Needs.{IsEndOf}
use Rattle.tiff_dir.specs.Query.{needs}
use Rattle.http_range.specs.declared.reading.Why.{Why}
use Rattle.http_fields.specs.Text.{FieldLine}
use Rattle.http_range.specs.Ask.{CanAsk}
use Rattle.http_range.specs.Book.{Book, HasDistinctTags}
use Rattle.http_range.specs.Honest.{IsPieceOfBook, IsReadAs}
use Rattle.http_range.specs.Piece.{SeenPiece}
use Rattle.http_range.specs.Reading.{ReadsAnswer}
use Rattle.range_cache.specs.Piece.{IsPieceOf}
use Rattle.cog_client.specs.declared.delivered.Delivered.{Delivered}
use Rattle.cog_client.specs.declared.report.Report.{Report}
use Rattle.cog_client.specs.Case.{Revision, case_of}
use Rattle.cog_client.specs.AnswerPhase.{TakesNoBody, nothing_fed}
use Rattle.cog_client.specs.Take.{IsIgnored, asked_or_first, base_of, first_span, stored_front, take}
use Rattle.cog_client.specs.Report.{IsTrueReport}
use Rattle.cog_client.specs.declared.request_options.RequestOptions.{RequestOptions}
use Rattle.cog_client.specs.Client.{ClientState, Knows, ClientAgrees, ahead_of, asked_of, blocks_of, feed_of, fields_of, holding, host_of, how_of, name_of, query_of, report_of, revision_of, tag_of, to_come, unread}
use Rattle.cog_reader.specs.Reader.{AreOfOneLevel}
use Rattle.cog_reader.specs.Going.{AreSame, AreTouched, HasRoom, IsMissing}
use Rattle.cog_client.specs.Calls.{Delivers, GoesOn, IsIdle, Opens, Requests, SameClient}

-- What the query needs is still to come, except for what the client holds. That stays.
pub record OpensKeeping (query : Query) (old new : ClientState) : Type 0 where
  pub seen : Opens query old new
  pub knows : (f : List ℕ) → Knows f old → Knows f new
  pub come : (f : List ℕ) → Knows f old → IsEndOf (to_come new f) (needs f query)
  pub held : (f : List ℕ) → to_come new f ≡ unread old f query
  pub kept : (f : List ℕ) (q : Query) → unread new f q ≡ unread old f q
  pub agrees : (book : Book) → ClientAgrees old book → ClientAgrees new book

-- ---- going on

-- No query of the level of the client's query needs more of the file than before.
abbrev pub KeepsRead : List ℕ → ClientState → ClientState → Type 0
KeepsRead f old new = (asked q : Query) → query_of old ≡ Some asked → AreOfOneLevel f asked q → IsEndOf (unread new f q) (unread old f q)

-- what the client holds is still the file's, and the ranges to come are an end of those before
pub record StaysOf (f : List ℕ) (old new : ClientState) : Type 0 where
  pub knows : Knows f new
  pub come : IsEndOf (to_come new f) (to_come old f)
  pub held : KeepsRead f old new

pub record GoesOnKeeping (old new : ClientState) : Type 0 where
  pub seen : GoesOn old new
  pub file : (f : List ℕ) → Knows f old → StaysOf f old new
  pub agrees : (book : Book) → ClientAgrees old book → ClientAgrees new book

-- the range is the first in the list
abbrev pub ComesFirst : Extent → List Extent → Type 0
ComesFirst r rs = slice_get rs 0 ≡ Some r

-- The range that the client needs next, of whatever file it knows, isn't all there. The span is its first run of missing blocks, and at
-- most `ahead` blocks after it, of ranges that are needed later.
pub record Lacks (c : ClientState) (v : Revision) (ahead : ℕ) (span : Span) : Type 0 where
  pub range : Extent
  pub next : (f : List ℕ) → Knows f c → ComesFirst range (to_come c f)
  pub missing : IsMissing (blocks_of c) v.complete range ahead span
  pub room : HasRoom (blocks_of c) v.complete range ahead span missing
  pub needed : (f : List ℕ) → Knows f c → AreTouched (to_come c f) span

-- What a client asks for that looks `ahead` blocks ahead. Without a revision that is the first 65,536 bytes. With one it is what
-- `Lacks` says of the next range and of later ones.
abbrev pub AsksFor : ClientState → Option Revision → ℕ → Span → Type 0
AsksFor c None ahead span = span ≡ first_span
AsksFor c (Some v) ahead span = Lacks c v ahead span

-- the span that the client lacks; there is none if there is nothing to do
abbrev pub Misses : ClientState → Option Span → Type 0
Misses c None = IsIdle c
Misses c (Some span) = AsksFor c (revision_of c) (ahead_of c) span

-- the client has gone on as far as its blocks reach
abbrev pub Rests : ClientState → Type 0
Rests c = (o : Option Span) × Misses c o

-- ---- the options of requests

-- From now on the client's requests have these options. All else stays, and what it asked for is still what it lacks.
pub record AsksLike (how : RequestOptions) (old new : ClientState) : Type 0 where
  pub seen : new ≡ record old { how = how }
  pub knows : (f : List ℕ) → Knows f old → Knows f new
  pub come : (f : List ℕ) → to_come new f ≡ to_come old f
  pub agrees : (book : Book) → ClientAgrees old book → ClientAgrees new book
  pub asks : (v : Option Revision) (ahead : ℕ) (span : Span) → AsksFor old v ahead span → AsksFor new v ahead span

-- Its requests let the connection go on.
abbrev pub KeepsOpen : ClientState → ClientState → Type 0
KeepsOpen old new = AsksLike (record (how_of old) { closes = false }) old new

-- This field line is added to its requests and checks, after those that were added before.
abbrev pub AddsField : FieldLine → ClientState → ClientState → Type 0
AddsField l old new = AsksLike (record (how_of old) { fields = fields_of old ++ l ∷ [] }) old new

-- It looks `blocks` blocks ahead.
abbrev pub LooksAhead : ℕ → ClientState → ClientState → Type 0
LooksAhead blocks old new = AsksLike (record (how_of old) { ahead = blocks }) old new

-- ---- request

pub record RequestsKeeping (old : ClientState) (request : Option (List ℕ)) (new : ClientState) : Type 0 where
  pub seen : Requests old request new
  pub lawful : IfSome (asked_of new) (λ s. CanAsk (host_of old) (name_of old) (fields_of old) s.first s.last (tag_of old))
  pub goes : GoesOnKeeping old new
  pub asks : IfSome (asked_of new) (AsksFor new (revision_of new) (ahead_of new))

-- Memory ran out for a query that has no report: then nothing is asked for.
pub record StopsAsking (old new : ClientState) : Type 0 where
  pub busy : IsIdle old → ⊥
  pub goes : GoesOnKeeping old new
  pub asked : asked_of new ≡ None
  pub report : report_of new ≡ None
  pub feed : feed_of new ≡ nothing_fed

-- ---- deliver

pub record DeliversKeeping (old : ClientState) (text : List ℕ) (what : Delivered) (new : ClientState) : Type 0 where
  pub seen : Delivers old text what new
  -- after an answer that isn't ignored the client has gone on: it has its report, or lacks something
  pub rests : IsIgnored what ⊎ Rests new
  pub file : (f : List ℕ) → revision_of new ≡ revision_of old → IfOk seen.reading (λ p. IsPieceOf f p.first p.body)
      → Knows f old → StaysOf f old new
  pub agrees : (book : Book) → HasDistinctTags book → ClientAgrees old book → IsReadAs (IsPieceOfBook (name_of old) book) text → ClientAgrees new book

-- Memory ran out, as it never does for an answer that is ignored. The revision and the asked span are those that the answer leaves.
-- Some of its blocks are stored, and what was known of the same file is still known.
pub record StopsDelivery (old : ClientState) (text : List ℕ) (new : ClientState) : Type 0 where
  pub same : SameClient old new
  pub reading : Result SeenPiece Why
  pub reads : ReadsAnswer text reading
  pub used : IsIgnored (take (holding old) reading).says → ⊥
  pub revision : revision_of new ≡ (take (holding old) reading).leaves.revision
  pub asked : asked_of new ≡ (take (holding old) reading).leaves.asked
  pub report : report_of new ≡ None
  pub feed : TakesNoBody (feed_of new)
  pub blocks : IfOk reading (λ p. (k : ℕ) × AreSame (stored_front k p (asked_or_first (asked_of new))
      (base_of (case_of (revision_of old) (asked_of old) p) (blocks_of old))) (blocks_of new))
  pub file : (f : List ℕ) → revision_of new ≡ revision_of old → IfOk reading (λ p. IsPieceOf f p.first p.body) → Knows f old → StaysOf f old new
  pub agrees : (book : Book) → HasDistinctTags book → ClientAgrees old book → IsReadAs (IsPieceOfBook (name_of old) book) text → ClientAgrees new book

-- ---- report

-- The report, if there is one, is of the revision that is read. It is true for each book that the client agrees with.
pub record Stands (c : ClientState) (report : Option Report) : Type 0 where
  pub standing : report ≡ report_of c
  pub read : IsSome report → IsSome (revision_of c)
  pub holds : (book : Book) → ClientAgrees c book → IfSome report (λ r. IsTrueReport r (name_of c) (query_of c) book)
  pub tagged : (book : Book) → ClientAgrees c book → IfSome report (λ r. tag_of c ≡ Some r.tag)
