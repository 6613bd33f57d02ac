-- What callers know of a client, and when what it holds is of a published file.
use Rattle.cog_reader.specs.declared.ahead.TheConstants.{MAX_BLOCKS}
use Rattle.cog_reader.specs.Going.{CachedReader, work}
use Rattle.std.specs.Prelude.{◌≡◌, ℕ, ◌+◌, ◌*◌, ◌<◌, ◌≤◌, Bool, false, not, ◌||◌, nat_lt, IsTrue, if◌then◌else◌, List, [], ◌∷◌, length, Option, Some, None, IfSome, IsSomeAnd, is_some, ⊤}
use Rattle.std.specs.Option.{option_map, option_map_or}
use Rattle.tiff_dir.specs.declared.query.Query.{Query}
use Rattle.extents.specs.declared.span.Span.{Span}
use Rattle.extents.specs.Extent.{Extent}
use Rattle.http_range.specs.Names.{is_host, is_name}
use Rattle.http_fields.specs.Target.{IsAuthority, is_authority_text, is_target}
use Rattle.http_fields.specs.Text.{FieldLine}
use Rattle.http_range.specs.Book.{Publication, Book, In}
use Rattle.range_cache.specs.declared.cache.TheConstants.{MAX_CAPACITY, MIN_CAPACITY}
use Rattle.extents.specs.declared.limits.TheConstants.{BLOCK_SIZE, MAX_RANGE_BYTES}
use Rattle.range_cache.specs.Cache.{Blocks, Holds}
use Rattle.cog_reader.specs.Outcome.{IsTrueOf}
use Rattle.cog_reader.specs.Reader as reader
use Rattle.tile_plan.specs.TileCache.{KeptTile}
use Rattle.cog_client.specs.declared.request_options.RequestOptions.{RequestOptions}
use Rattle.cog_client.specs.declared.error.ClientError.{ClientError}
use Rattle.cog_client.specs.declared.error.ClientError.TheVariants.{Host, Name, Blocks as BadBlocks, Memory}
use Rattle.cog_client.specs.declared.error.UrlError.{UrlError}
use Rattle.cog_client.specs.declared.error.UrlError.TheVariants as url
use Rattle.cog_client.specs.declared.report.Report.{Report}
use Rattle.cog_client.specs.declared.revision_reader.RevisionReader.{RevisionReader}
use Rattle.cog_client.specs.Case.{Revision}
use Rattle.cog_client.specs.AnswerPhase.{Feed, TakesNoBody}
use Rattle.cog_client.specs.Take.{Holding}

-- ---- making a client

-- the numbers of the reasons why no client is made
abbrev pub number_of_client_error : ClientError → ℕ
number_of_client_error Host = 1
number_of_client_error Name = 2
number_of_client_error BadBlocks = 3
number_of_client_error Memory = 4

-- why no client is made: the first reason that holds
abbrev pub client_refusal : List ℕ → List ℕ → ℕ → Option ClientError
client_refusal host name blocks =
    if not (is_host host) then Some Host
    else if not (is_name name) then Some Name
    else if nat_lt blocks MIN_CAPACITY || nat_lt MAX_CAPACITY blocks then Some BadBlocks
    else None

-- The client is refused for this reason. The reason is memory only where no other one holds.
abbrev pub IsClientRefusal : Option ClientError → ClientError → Type 0
IsClientRefusal refusal Memory = refusal ≡ None
IsClientRefusal refusal error = refusal ≡ Some error

-- a client with `blocks` blocks may be made for a URL of this authority and this target
abbrev pub MayStartByUrl : List ℕ → List ℕ → ℕ → Type 0
MayStartByUrl authority target blocks =
    IsAuthority authority × IsTrue (is_target target) × (MIN_CAPACITY ≤ blocks) × (blocks ≤ MAX_CAPACITY)

-- The client is refused for this reason, the first that holds. The reason is memory only where no other one holds.
abbrev pub IsUrlRefusal : List ℕ → List ℕ → ℕ → UrlError → Type 0
IsUrlRefusal authority target blocks url.Authority = ¬ (IsAuthority authority)
IsUrlRefusal authority target blocks url.Target = IsAuthority authority × (is_target target ≡ false)
IsUrlRefusal authority target blocks url.Blocks =
    IsAuthority authority × IsTrue (is_target target) × (MIN_CAPACITY ≤ blocks → MAX_CAPACITY < blocks)
IsUrlRefusal authority target blocks url.Memory = MayStartByUrl authority target blocks

-- ---- what callers know of a client

-- The options of its requests, its host and its name. The query, and the span that is asked for. The revision that is read, the blocks and
-- the report. What is kept of an answer that comes in pieces.
pub record ClientState : Type 0 where
  pub how : RequestOptions
  pub host : List ℕ
  pub name : List ℕ
  pub query : Option Query
  pub asked : Option Span
  pub source : Option RevisionReader
  pub cache : Blocks
  pub report : Option Report
  pub feed : Feed

-- The options of its requests.
unfoldable pub how_of : ClientState → RequestOptions
how_of c = c.how

unfoldable pub host_of : ClientState → List ℕ
host_of c = c.host

unfoldable pub name_of : ClientState → List ℕ
name_of c = c.name

-- its requests ask that the connection end with the answer
abbrev pub closes : ClientState → Bool
closes c = (how_of c).closes

-- how many blocks it looks ahead
abbrev pub ahead_of : ClientState → ℕ
ahead_of c = (how_of c).ahead

-- The field lines that are added to its requests and checks.
abbrev pub fields_of : ClientState → List FieldLine
fields_of c = (how_of c).fields

-- It is like a client that was made by a host and a name, without added field lines.
abbrev pub IsPlain : ClientState → Type 0
IsPlain c = IsTrue (is_host (host_of c)) × IsTrue (is_name (name_of c)) × (fields_of c ≡ [])

-- The query of the last opening.
unfoldable pub query_of : ClientState → Option Query
query_of c = c.query

-- The span that is asked for, if one is.
unfoldable pub asked_of : ClientState → Option Span
asked_of c = c.asked

abbrev pub revision_in : RevisionReader → Revision
revision_in s = record { tag = s.tag; complete = s.complete }

-- The ETag and the length of the file that is read.
unfoldable pub revision_of : ClientState → Option Revision
revision_of c = option_map revision_in c.source

-- The blocks, the most recently used first, and how many there may be.
unfoldable pub blocks_of : ClientState → Blocks
blocks_of c = c.cache

-- The report, if there is one.
unfoldable pub report_of : ClientState → Option Report
report_of c = c.report

-- What is kept of an answer that comes in pieces.
unfoldable pub feed_of : ClientState → Feed
feed_of c = c.feed

-- The reader of the file, with the blocks that it reads from. There is none without a revision.
unfoldable pub reader_of : ClientState → Option CachedReader
reader_of c = option_map (λ (s : RevisionReader). work s.reader c.cache) c.source

-- The tiles that are kept unpacked. There are none without a revision.
unfoldable pub tiles_of : ClientState → List KeptTile
tiles_of c = option_map_or (λ (s : RevisionReader). (reader.tiles_of s.reader).tiles) c.source []

-- How many bytes of the file the reader has in its buffer, beside blocks and tiles: 0 without a revision.
unfoldable pub buffer_of : ClientState → ℕ
buffer_of c = option_map_or (λ (s : RevisionReader). length s.buffer.items) c.source 0

-- The ranges of the file that the query still needs. There are none without a revision.
unfoldable pub to_come : ClientState → List ℕ → List Extent
to_come c f = option_map_or (λ (s : RevisionReader). reader.to_come s.reader f) c.source []

-- What a query needs of the file, except for the directories and the arrays that the reader holds.
unfoldable pub unread : ClientState → List ℕ → Query → List Extent
unread c f q = option_map_or (λ (s : RevisionReader). reader.unread s.reader f q) c.source []

-- There is a revision, and all directories of its file are known.
unfoldable pub AreDirectoriesKnown : ClientState → Type 0
AreDirectoriesKnown c = IsSomeAnd c.source (λ s. reader.AreDirectoriesRead s.reader)

abbrev pub tag_of : ClientState → Option (List ℕ)
tag_of c = option_map (λ (v : Revision). v.tag) (revision_of c)

-- what the client holds of a server's file
abbrev pub holding : ClientState → Holding
holding c = record { revision = revision_of c; asked = asked_of c; blocks = blocks_of c }

-- ---- what holds of each client

-- without a revision there is no block and no report, and no body is taken
abbrev pub IsAlone : Option RevisionReader → Blocks → Option Report → Feed → Type 0
IsAlone None b r e = (b.entries ≡ []) × ((r ≡ None) × TakesNoBody e)
IsAlone (Some s) b r e = ⊤

-- the reader has the length of the file, and is asked the query until its answer is the client's report
abbrev pub IsReadingOf : Option Query → Option Report → RevisionReader → Type 0
IsReadingOf q r s =
    (s.complete ≡ reader.file_length_of s.reader) × (reader.query_of s.reader ≡ (if is_some r then None else q))

-- a report answers the client's query, and ends what is asked for
abbrev pub IsStanding : Option Query → Option Span → Report → Type 0
IsStanding q a r = (q ≡ Some r.query) × (a ≡ None)

-- the tiles that are kept unpacked may have as many bytes as the blocks
abbrev pub MayKeep : Blocks → RevisionReader → Type 0
MayKeep b s = (reader.tiles_of s.reader).most ≡ b.capacity * BLOCK_SIZE

-- the reader's buffer is no longer than a range may be
abbrev pub KeepsOneRange : RevisionReader → Type 0
KeepsOneRange s = length s.buffer.items ≤ MAX_RANGE_BYTES

-- at most 65 blocks are asked for
abbrev pub IsFew : Span → Type 0
IsFew s = s.last < s.first + MAX_BLOCKS * BLOCK_SIZE

pub record IsClient (c : ClientState) : Type 0 where
  pub hosted : IsTrue (is_authority_text c.host)
  pub named : IsTrue (is_target (47 ∷ c.name))
  pub alone : IsAlone c.source c.cache c.report c.feed
  pub reading : IfSome c.source (IsReadingOf c.query c.report)
  pub tiles : IfSome c.source (MayKeep c.cache)
  pub buffer : IfSome c.source KeepsOneRange
  pub standing : IfSome c.report (IsStanding c.query c.asked)
  pub few : IfSome c.asked IsFew

-- ---- what a client knows

-- the report has the ETag of the revision that is read, and is true of the file `f`
abbrev pub IsReportOf : List ℕ → RevisionReader → Report → Type 0
IsReportOf f s r = (r.tag ≡ s.tag) × IsTrueOf f r.query r.outcome

pub record KnowsBy (f : List ℕ) (c : ClientState) (s : RevisionReader) : Type 0 where
  pub reader : reader.ReaderAgrees s.reader f
  pub blocks : Holds f c.cache
  pub report : IfSome c.report (IsReportOf f s)
  pub sound : IsClient c

-- All that the client holds is of the file `f`. A client without a revision holds nothing.
unfoldable pub Knows : List ℕ → ClientState → Type 0
Knows f c = IfSome c.source (KnowsBy f c)

-- what the client holds is of one publication in the book, which has the client's name and the revision's ETag
pub record KnowsOne (c : ClientState) (book : Book) (v : Revision) : Type 0 where
  pub source : Publication
  pub published : In source book
  pub of_name : source.name ≡ name_of c
  pub of_tag : source.tag ≡ v.tag
  pub knows : Knows source.file c

-- The client agrees with the book: what it holds is of one publication there, if it has a revision.
unfoldable pub ClientAgrees : ClientState → Book → Type 0
ClientAgrees c book = IfSome (revision_of c) (KnowsOne c book)

-- If a client has a revision, its name, ETag and length are those of one publication in the book. Its blocks are of that file.
abbrev pub IsOfBook : ClientState → Book → Type 0
IsOfBook c book = IfSome (revision_of c) (λ v. (p : Publication)
    × In p book × (p.name ≡ name_of c) × (p.tag ≡ v.tag) × (length p.file ≡ v.complete) × Holds p.file (blocks_of c))

-- This is so if the client agrees with the book.
abbrev pub AgreementIsSeen : Type 0
AgreementIsSeen = (c : ClientState) (book : Book) → ClientAgrees c book → IsOfBook c book
