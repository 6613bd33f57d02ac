-- How many blocks of a file a client still lacks for its query, and how its calls change that.
use Rattle.std.specs.Prelude.{◌≡◌, ◌⊎◌, ℕ, zero, suc, ◌+◌, ◌-◌, ◌*◌, ◌<◌, ◌≤◌, true, false, min, not, if◌then◌else◌, List, [], ◌∷◌, length, take, sum_by, Option, Some, IfSome, IsSome, IsTrue, IsOkAnd, Result}
use Rattle.std.specs.List.{filter, IsAmong}
use Rattle.tiff_dir.specs.declared.query.Query.{Query}
use Rattle.extents.specs.declared.span.Span.{Span}
use Rattle.extents.specs.Extent.{Extent, ends_past}
use Rattle.tiff_dir.specs.Query.{blocks_of_extent as touched, cost, needs}
use Rattle.http_fields.specs.declared.limits.TheConstants.{HEAD_LIMIT}
use Rattle.http_range.specs.Ask.{CanAsk, request_with}
use Rattle.http_range.specs.declared.reading.Why.{Why}
use Rattle.http_range.specs.Book.{Publication, Book, Catalogue, HasDistinctTags, In, IsCatalogue, published}
use Rattle.http_range.specs.Honest.{IsPieceOf}
use Rattle.http_range.specs.Piece.{SeenPiece}
use Rattle.http_range.specs.Reading.{ReadsAnswer}
use Rattle.http_range.specs.Response.{Response, IsAnswer, is_current, text_of}
use Rattle.extents.specs.declared.limits.TheConstants.{BLOCK_SIZE}
use Rattle.extents.specs.Block.{first_block, blocks, end_of}
use Rattle.range_cache.specs.Numbers.{has, missing}
use Rattle.range_cache.specs.Cache.{numbers}
use Rattle.cog_reader.specs.declared.ahead.TheConstants.{MAX_BLOCKS}
use Rattle.cog_reader.specs.Going.{AreTouched}
use Rattle.cog_client.specs.declared.request_options.RequestOptions.{RequestOptions}
use Rattle.cog_client.specs.declared.delivered.Delivered.{Delivered}
use Rattle.cog_client.specs.Case.{Revision}
use Rattle.cog_client.specs.Take.{IsIgnored}
use Rattle.cog_client.specs.Client.{ClientAgrees, ClientState, Knows, asked_of, blocks_of, closes, fields_of, host_of, name_of, query_of, report_of, revision_of, tag_of, to_come}
use Rattle.cog_client.specs.Keeps.{AsksFor, AsksLike, DeliversKeeping, GoesOnKeeping, LooksAhead, OpensKeeping, RequestsKeeping}

-- ---- counting

-- the blocks of those ranges that end within the file; for all that a query needs this is its cost
abbrev pub blocks_of_ranges : List ℕ → List Extent → ℕ
blocks_of_ranges f rs = sum_by touched (filter (λ r. not (ends_past f r)) rs)

-- the blocks of a range that are missing: 0 if the range ends after the file
abbrev pub missing_of_range : List ℕ → List ℕ → Extent → ℕ
missing_of_range f there r = if ends_past f r then 0 else missing there (first_block r.first) (blocks r.first r.len)

-- of ranges in the order in which they are needed: the missing blocks of the first one, and all blocks of the later ones
abbrev pub left_of : List ℕ → List ℕ → List Extent → ℕ
left_of f there [] = 0
left_of f there (r ∷ rs) = missing_of_range f there r + blocks_of_ranges f rs

-- How many blocks are left for a client to get of a file.
unfoldable pub left : List ℕ → ClientState → ℕ
left f c = left_of f (numbers (blocks_of c).entries) (to_come c f)

-- A client that knows the file has at most the cost of its query left.
abbrev pub CostIsMost : Type 0
CostIsMost = (c : ClientState) (f : List ℕ) → Knows f c → IfSome (query_of c) (λ q. left f c ≤ cost f q)

-- This is so after an opening, too.
abbrev pub OpeningLeavesCost : Type 0
OpeningLeavesCost = (old new : ClientState) (q : Query) (f : List ℕ) → OpensKeeping q old new → Knows f old → left f new ≤ cost f q

-- Going on, as each request does, never leaves more.
abbrev pub GoingOnLeavesNoMore : Type 0
GoingOnLeavesNoMore = (old new : ClientState) (f : List ℕ) → GoesOnKeeping old new → Knows f old → left f new ≤ left f old

-- Whatever the options of requests, as much is left.
abbrev pub AskingLeavesAsMuch : Type 0
AskingLeavesAsMuch = (how : RequestOptions) (old new : ClientState) (f : List ℕ) → AsksLike how old new → left f new ≡ left f old

-- ---- nothing left

-- The client has a revision and a query, and all that it holds is of this file.
pub record IsAtWork (f : List ℕ) (c : ClientState) : Type 0 where
  pub revision : IsSome (revision_of c)
  pub knows : Knows f c
  pub query : IsSome (query_of c)

-- After a request that leaves nothing, the client has its report.
abbrev pub RequestReports : Type 0
RequestReports = (old new : ClientState) (request : Option (List ℕ)) (f : List ℕ) →
    RequestsKeeping old request new → IsAtWork f new → left f new ≡ 0 → IsSome (report_of new)

-- After an answer that isn't ignored and leaves nothing, it has it, too.
abbrev pub DeliveryReports : Type 0
DeliveryReports = (old new : ClientState) (text : List ℕ) (what : Delivered) (f : List ℕ) →
    DeliversKeeping old text what new → (IsIgnored what → ⊥) → IsAtWork f new → left f new ≡ 0 → IsSome (report_of new)

-- ---- what is asked for

-- The span has whole blocks, all of which touch one range that the query needs of the file.
pub record IsOfNeeded (f : List ℕ) (q : Query) (s : Span) : Type 0 where
  pub range : Extent
  pub needed : IsAmong (needs f q) range
  pub from : ℕ
  pub to : ℕ
  pub first : s.first ≡ from * BLOCK_SIZE
  pub last : s.last + 1 ≡ end_of (length f) (to - 1)
  pub begins : first_block range.first ≤ from
  pub some : from < to
  pub ends : to ≤ first_block range.first + blocks range.first range.len

-- no block that begins in the span is there
abbrev pub IsGone : List ℕ → Span → Type 0
IsGone there s = (k : ℕ) → s.first ≤ k * BLOCK_SIZE → k * BLOCK_SIZE ≤ s.last → has k there ≡ false

-- A client with a revision asks for blocks each of which touches a range that its query needs. None of them is there.
abbrev pub NeededAreAsked : Type 0
NeededAreAsked = (c : ClientState) (v : Revision) (ahead : ℕ) (f : List ℕ) (s : Span) → revision_of c ≡ Some v → Knows f c →
    AsksFor c (Some v) ahead s → IfSome (query_of c) (λ q. AreTouched (needs f q) s) × IsGone (numbers (blocks_of c).entries) s

-- If it looks no block ahead, they are of one range.
abbrev pub OneRangeIsAsked : Type 0
OneRangeIsAsked = (c : ClientState) (v : Revision) (f : List ℕ) (s : Span) → revision_of c ≡ Some v → Knows f c →
    AsksFor c (Some v) 0 s → IfSome (query_of c) (λ q. IsOfNeeded f q s)

-- ---- the answer to what is asked for

-- The text is a server's whole answer to what the client asks for, and the server has `p` under the client's name. `ahead` is how far
-- the client looked ahead when it asked, which may differ now.
pub record IsOwnAnswer (c : ClientState) (p : Publication) (span : Span) (text : List ℕ) : Type 0 where
  pub catalogue : Catalogue
  pub lawful : IsCatalogue catalogue
  pub has : published (name_of c) catalogue ≡ Some p
  pub asked : asked_of c ≡ Some span
  pub ahead : ℕ
  pub asks : AsksFor c (revision_of c) ahead span
  pub can : CanAsk (host_of c) (name_of c) (fields_of c) span.first span.last (tag_of c)
  pub response : Response
  pub answers : IsAnswer catalogue (request_with (closes c) (host_of c) (name_of c) (fields_of c) span.first span.last (tag_of c)) response
  pub shown : text ≡ text_of response

-- The piece is of `p`, and answers a request for these bytes, made under the ETag `known` or none. If `known` is the ETag of `p`, or there
-- is none, the piece has all of the bytes that the file has. It may be a part with more beside them, or the whole file, as of a server that
-- ignores Range (RFC 9110, section 14.2). If `known` is another ETag, the piece is read as the whole file (section 13.1.5), and any front
-- of it is enough. A part with less than was asked for doesn't count, though HTTP lets a server send one (section 15.3.7).
pub record IsGiven (p : Publication) (s : Span) (known : Option (List ℕ)) (piece : SeenPiece) : Type 0 where
  pub of : IsPieceOf p piece
  pub begins : is_current known p.tag ≡ true → piece.first ≤ s.first
  pub ends : is_current known p.tag ≡ true → min (s.last + 1) (length p.file) ≤ piece.first + length piece.body
  pub all : is_current known p.tag ≡ false → IsTrue piece.whole

-- The text is read as such an answer to what the client asks for, whichever server wrote it. `p` has the client's name. `ahead` is how far
-- the client looked ahead when it asked, which may differ now.
pub record IsServed (c : ClientState) (p : Publication) (span : Span) (text : List ℕ) : Type 0 where
  pub named : p.name ≡ name_of c
  pub asked : asked_of c ≡ Some span
  pub ahead : ℕ
  pub asks : AsksFor c (revision_of c) ahead span
  pub read : (r : Result SeenPiece Why) → ReadsAnswer text r → IsOkAnd r (IsGiven p span (tag_of c))

-- This server's own answers are such answers.
abbrev pub OwnAnswersAreServed : Type 0
OwnAnswersAreServed = (c : ClientState) (p : Publication) (span : Span) (text : List ℕ) →
    IsOwnAnswer c p span text → (tag_of c ≡ Some p.tag → Knows p.file c) → IsServed c p span text

-- room for a head, and for as many blocks as a client asks for at once
abbrev pub answer_room : ℕ
answer_room = HEAD_LIMIT + MAX_BLOCKS * BLOCK_SIZE

-- So is each front of such an answer, if it is cut only after this many bytes.
abbrev pub OwnFrontsAreServed : Type 0
OwnFrontsAreServed = (c : ClientState) (p : Publication) (span : Span) (whole : List ℕ) (n : ℕ) →
    answer_room ≤ n → IsOwnAnswer c p span whole → (tag_of c ≡ Some p.tag → Knows p.file c) →
    IsServed c p span (take n whole)

-- The answer is not ignored, and the client has the revision of `p` then. If it had this revision before, less is left.
pub record BringsOn (p : Publication) (old new : ClientState) (what : Delivered) : Type 0 where
  pub used : IsIgnored what → ⊥
  pub revision : revision_of new ≡ Some (record { tag = p.tag; complete = length p.file })
  pub less : tag_of old ≡ Some p.tag → left p.file new + 1 ≤ left p.file old

-- Such an answer is never ignored, and brings the client on.
abbrev pub ServedBringOn : Type 0
ServedBringOn = (old new : ClientState) (p : Publication) (span : Span) (text : List ℕ) (what : Delivered) →
    IsServed old p span text → (tag_of old ≡ Some p.tag → Knows p.file old) →
    DeliversKeeping old text what new → BringsOn p old new what

-- ---- whole answers, one after another

-- In what follows `Answers` says which texts answer a client, for the server's `p` and the span that was asked for.

-- One exchange. The client gets options for its requests, and asks. Then it may get another number of blocks to look ahead. Last it takes
-- an answer to what it asked for.
pub record Exchanges (Answers : ClientState → Publication → Span → List ℕ → Type 0) (p : Publication) (old new : ClientState) : Type 0 where
  pub how : RequestOptions
  pub told : ClientState
  pub tells : AsksLike how old told
  pub request : Option (List ℕ)
  pub asking : ClientState
  pub requests : RequestsKeeping told request asking
  pub ahead : ℕ
  pub waiting : ClientState
  pub looks : LooksAhead ahead asking waiting
  pub span : Span
  pub text : List ℕ
  pub answered : Answers waiting p span text
  pub what : Delivered
  pub delivers : DeliversKeeping waiting text what new

-- `n` exchanges, one after another
abbrev pub AreExchanges : (ClientState → Publication → Span → List ℕ → Type 0) → Publication → ℕ → ClientState → ClientState → Type 0
AreExchanges Answers p zero old new = new ≡ old
AreExchanges Answers p (suc n) old new = (mid : ClientState) × Exchanges Answers p old mid × AreExchanges Answers p n mid new

-- After an opening there are at most cost + 1 such exchanges, where the cost is that of the query for the file of `p`. After cost + 1 the
-- client has its report. How far it looks ahead at each of them doesn't matter.
abbrev pub AnswersReport : (ClientState → Publication → Span → List ℕ → Type 0) → Type 0
AnswersReport Answers = (book : Book) (p : Publication) (q : Query) (old opened new : ClientState) (n : ℕ) →
    HasDistinctTags book → In p book → ClientAgrees old book → OpensKeeping q old opened → AreExchanges Answers p n opened new →
    (n ≤ cost p.file q + 1) × (IsSome (report_of new) ⊎ (n ≤ cost p.file q))
