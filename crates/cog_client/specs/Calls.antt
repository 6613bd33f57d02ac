-- What a caller sees of each call of a client: from one state to the next.
use Rattle.std.specs.Prelude.{◌≡◌, ℕ, ◌⊎◌, true, if◌then◌else◌, List, [], drop, Option, Some, None, IfSome, IsSome, is_some, Result}
use Rattle.std.specs.Option.{option_map}
use Rattle.tiff_dir.specs.declared.query.Query.{Query}
use Rattle.extents.specs.declared.span.Span.{Span}
use Rattle.extents.specs.Extent.{Extent}
use Rattle.http_range.specs.declared.reading.Why.{Why}
use Rattle.http_range.specs.Ask.{request_with}
use Rattle.http_fields.specs.Text.{FieldLine}
use Rattle.range_cache.specs.Cache.{Blocks}
use Rattle.http_range.specs.Piece.{SeenPiece}
use Rattle.http_range.specs.Reading.{ReadsAnswer}
use Rattle.cog_client.specs.declared.delivered.Delivered.{Delivered}
use Rattle.cog_client.specs.declared.report.Report.{Report}
use Rattle.cog_client.specs.Case.{Revision}
use Rattle.cog_client.specs.AnswerPhase.{nothing_fed}
use Rattle.cog_client.specs.Take.{IsIgnored, emptied, first_span, take}
use Rattle.cog_client.specs.Client.{ClientState, ahead_of, asked_of, blocks_of, closes, feed_of, fields_of, holding, host_of, how_of, name_of, query_of, report_of, revision_of, tag_of}
use Rattle.cog_reader.specs.Going.{AreSame, IsMissing}

-- host, name, query and the options of requests stay
pub record SameClient (old new : ClientState) : Type 0 where
  pub host : host_of new ≡ host_of old
  pub name : name_of new ≡ name_of old
  pub query : query_of new ≡ query_of old
  pub how : how_of new ≡ how_of old

-- ---- new, open, forget

-- The client has no query and no revision. Its requests close the connection, and it looks no block ahead.
abbrev pub started : List ℕ → List ℕ → List FieldLine → Blocks → ClientState
started host name fields cache = record {
  how = record { closes = true; ahead = 0; fields = fields };
  host = host;
  name = name;
  query = None;
  asked = None;
  source = None;
  cache = cache;
  report = None;
  feed = nothing_fed;
}

-- A new client has no block either, and no field is added to its requests.
abbrev pub Starts : List ℕ → List ℕ → ℕ → ClientState → Type 0
Starts host name blocks new = new ≡ started host name [] (record { entries = []; capacity = blocks })

-- A client that is made by a URL is the same, but these fields are added. Its name is the target without the first `/`.
abbrev pub StartsByUrl : List ℕ → List ℕ → List FieldLine → ℕ → ClientState → Type 0
StartsByUrl authority target fields blocks new =
    new ≡ started authority (drop 1 target) fields (record { entries = []; capacity = blocks })

-- The query is asked. Revision and blocks stay. An unfinished answer is dropped, as in each call from here on.
abbrev pub Opens : Query → ClientState → ClientState → Type 0
Opens query old new = (revision_of new ≡ revision_of old)
    × (new ≡ record old { query = Some query; asked = None; source = new.source; report = None; feed = nothing_fed })

-- The client keeps host, name, query and the options of requests.
abbrev pub Forgets : ClientState → ClientState → Type 0
Forgets old new = new ≡ record old { asked = None; source = None; cache = emptied old.cache; report = None; feed = nothing_fed }

-- ---- going on

-- The client goes on as far as its blocks reach. Only the order of its blocks changes.
pub record GoesOn (old new : ClientState) : Type 0 where
  pub same : SameClient old new
  pub revision : revision_of new ≡ revision_of old
  pub blocks : AreSame (blocks_of old) (blocks_of new)

-- there is nothing to do: the client has no query, or has its report
abbrev pub IsIdle : ClientState → Type 0
IsIdle c = (query_of c ≡ None) ⊎ IsSome (report_of c)

-- What a client asks for that looks `ahead` blocks ahead. Without a revision that is the first 65,536 bytes. With one it is the first run
-- of missing blocks of one range, and at most `ahead` missing blocks after it.
abbrev pub IsAsked : ClientState → Option Revision → ℕ → Span → Type 0
IsAsked c None ahead span = span ≡ first_span
IsAsked c (Some v) ahead span = (range : Extent) × IsMissing (blocks_of c) v.complete range ahead span

-- ---- request

-- The text of a client's request for a span, if there is a span. With a revision it has the condition that the file still has its ETag.
-- If `closes` holds, the connection ends with the answer.
abbrev pub request_for : ClientState → Option Span → Option (List ℕ)
request_for c span = option_map (λ (s : Span). request_with (closes c) (host_of c) (name_of c) (fields_of c) s.first s.last (tag_of c)) span

pub record Requests (old : ClientState) (request : Option (List ℕ)) (new : ClientState) : Type 0 where
  pub goes : GoesOn old new
  pub text : request ≡ request_for old (asked_of new)
  pub asks : IfSome (asked_of new) (IsAsked new (revision_of new) (ahead_of new))
  -- there is no request exactly where the client has no query, or has its report, from before or from now on
  pub silent : asked_of new ≡ None → IsIdle new
  pub idle : IsIdle new → asked_of new ≡ None
  pub report : IsSome (report_of old) → report_of new ≡ report_of old
  pub feed : feed_of new ≡ nothing_fed

-- ---- deliver

-- with a report nothing is asked for
abbrev pub unless_reported : Option Report → Option Span → Option Span
unless_reported r asked = if is_some r then None else asked

-- An answer does what `take` says of it. Then the client goes on.
pub record Delivers (old : ClientState) (text : List ℕ) (what : Delivered) (new : ClientState) : Type 0 where
  pub same : SameClient old new
  pub reading : Result SeenPiece Why
  pub reads : ReadsAnswer text reading
  pub answers : what ≡ (take (holding old) reading).says
  pub revision : revision_of new ≡ (take (holding old) reading).leaves.revision
  pub asked : asked_of new ≡ unless_reported (report_of new) (take (holding old) reading).leaves.asked
  pub blocks : AreSame (take (holding old) reading).leaves.blocks (blocks_of new)
  pub feed : feed_of new ≡ nothing_fed
  -- an answer that is ignored changes nothing else
  pub ignored : IsIgnored what → new ≡ record old { feed = nothing_fed }
