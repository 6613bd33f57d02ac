-- The steps within a client's calls.
use Rattle.std.specs.Prelude.{◌≡◌, ℕ, List, length, Option, Some, None, IfSome, IsSome, IsSomeAnd}
use Rattle.tiff_dir.specs.declared.query.Query.{Query}
use Rattle.extents.specs.declared.span.Span.{Span}
use Rattle.http_range.specs.Piece.{SeenPiece}
use Rattle.range_cache.specs.Piece.{IsPieceOf}
use Rattle.cog_reader.specs.Outcome.{IsTrueOf}
use Rattle.cog_reader.specs.Reader as reader
use Rattle.cog_client.specs.declared.report.Report.{Report}
use Rattle.cog_client.specs.declared.revision_reader.RevisionReader.{RevisionReader}
use Rattle.cog_client.specs.Case.{Revision}
use Rattle.cog_client.specs.Take.{asked_or_first, stored_count, emptied, stored_front, stored_of}
use Rattle.cog_client.specs.Client.{ClientState, Knows, asked_of, blocks_of, feed_of, report_of, revision_of}
use Rattle.cog_client.specs.AnswerPhase.{TakesNoBody, nothing_fed}
use Rattle.cog_reader.specs.Going.{AreSame}
use Rattle.cog_client.specs.Calls.{SameClient, unless_reported}
use Rattle.cog_client.specs.Keeps.{Rests, StaysOf}

-- the report is the reader's answer to the query, with the ETag of the revision that is read
abbrev pub IsReportBy : Query → RevisionReader → Report → Type 0
IsReportBy q s r = (q ≡ r.query) × (r.tag ≡ s.tag) × (reader.outcome_of s.reader ≡ Some r.outcome)

-- If the reader has an answer, it becomes the report. If not, the reader stays as it was.
pub record Concludes (query : Query) (old : RevisionReader) (r : Option Report) (new : RevisionReader) : Type 0 where
  pub tag : new.tag ≡ old.tag
  pub complete : new.complete ≡ old.complete
  pub length : reader.file_length_of new.reader ≡ reader.file_length_of old.reader
  pub tiles : reader.tiles_of new.reader ≡ reader.tiles_of old.reader
  pub buffer : new.buffer ≡ old.buffer
  pub report : IfSome r (IsReportBy query old)
  pub unasked : IsSome r → reader.query_of new.reader ≡ None
  pub told : IsSome (reader.outcome_of old.reader) → IsSome r
  pub silent : r ≡ None → new ≡ old
  pub held : (f : List ℕ) (q : Query) → reader.unread new.reader f q ≡ reader.unread old.reader f q
  pub true_of : (f : List ℕ) → reader.ReaderAgrees old.reader f
      → IfSome r (λ r. IsSomeAnd (reader.query_of old.reader) (λ q. IsTrueOf f q r.outcome))
  pub agrees : (f : List ℕ) → reader.ReaderAgrees old.reader f → reader.ReaderAgrees new.reader f

-- A revision is read from now on, of which only ETag and length are known.
pub record Adopts (v : Revision) (asked : Option Span) (old new : ClientState) : Type 0 where
  pub same : SameClient old new
  pub asks : asked_of new ≡ asked
  pub revision : revision_of new ≡ Some v
  pub blocks : blocks_of new ≡ emptied (blocks_of old)
  pub report : report_of new ≡ None
  pub knows : (f : List ℕ) → length f ≡ v.complete → Knows f new

-- Of the blocks that a piece brings of the asked span, the first `k` are stored.
pub record Stores (p : SeenPiece) (span : Span) (k : ℕ) (old new : ClientState) : Type 0 where
  pub same : SameClient old new
  pub asked : asked_of new ≡ asked_of old
  pub revision : revision_of new ≡ revision_of old
  pub report : report_of new ≡ report_of old
  pub blocks : blocks_of new ≡ stored_front k p span (blocks_of old)
  pub file : (f : List ℕ) → p.complete ≡ length f → IsPieceOf f p.first p.body → Knows f old → StaysOf f old new

-- Of a piece of the revision that is read, `count` blocks are stored, and the client goes on.
pub record AcceptsPiece (p : SeenPiece) (old new : ClientState) (count : ℕ) : Type 0 where
  pub same : SameClient old new
  pub asked : asked_of new ≡ unless_reported (report_of new) (asked_of old)
  pub revision : revision_of new ≡ revision_of old
  pub blocks : AreSame (stored_of p (asked_or_first (asked_of old)) (blocks_of old)) (blocks_of new)
  pub counted : count ≡ stored_count p (asked_or_first (asked_of old)) (blocks_of old)
  pub feed : feed_of new ≡ nothing_fed
  pub rests : Rests new
  pub file : (f : List ℕ) → p.complete ≡ length f → IsPieceOf f p.first p.body → Knows f old → StaysOf f old new

-- The same until memory ran out: only the first of the blocks are stored.
pub record StopsStoring (p : SeenPiece) (old new : ClientState) : Type 0 where
  pub same : SameClient old new
  pub asked : asked_of new ≡ asked_of old
  pub revision : revision_of new ≡ revision_of old
  pub report : report_of new ≡ None
  pub feed : TakesNoBody (feed_of new)
  pub blocks : (k : ℕ) × AreSame (stored_front k p (asked_or_first (asked_of old)) (blocks_of old)) (blocks_of new)
  pub file : (f : List ℕ) → p.complete ≡ length f → IsPieceOf f p.first p.body → Knows f old → StaysOf f old new
