-- The requests that a client makes early: before the answer came to its last request.
use Rattle.std.specs.Prelude.{◌≡◌, ℕ, ◌+◌, ◌-◌, ◌*◌, ◌<◌, ◌≤◌, ◌⊎◌, false, true, List, [], Some, IfSome, IsSomeAnd, slice_get}
use Rattle.std.specs.List.{All, AllZip}
use Rattle.extents.specs.declared.span.Span.{Span}
use Rattle.extents.specs.declared.limits.TheConstants.{BLOCK_SIZE}
use Rattle.extents.specs.Extent.{Extent}
use Rattle.extents.specs.Block.{end_of}
use Rattle.http_range.specs.Ask.{CanAsk}
use Rattle.range_cache.specs.Cache.{numbers}
use Rattle.range_cache.specs.Numbers.{has}
use Rattle.cog_reader.specs.declared.ahead.TheConstants.{MAX_BLOCKS}
use Rattle.cog_reader.specs.Going.{OneTouches}
use Rattle.cog_reader.specs.Early.{AreApart, IsRunIn, LeavesNothing, LeavesNothingInReach}
use Rattle.cog_client.specs.Client.{ClientState, Knows, ahead_of, asked_of, blocks_of, closes, fields_of, host_of, name_of, reader_of, revision_of, tag_of, to_come}
use Rattle.cog_client.specs.Calls.{request_for}

-- The span of an early request, in a file of `complete` bytes. It has the blocks from number `from` up to `to`: at most 65, which begin in
-- the file. It lies after `asked`, what is asked for now. None of its blocks is there. Each touches a range that the client still needs,
-- whatever file it knows. The blocks begin in one of those ranges. They go on after their run in it by at most as many blocks as the client
-- looks ahead. All have room beside the blocks of that range that are there then.
pub record IsNeededEarly (c : ClientState) (complete : ℕ) (asked span : Span) : Type 0 where
  pub from : ℕ
  pub to : ℕ
  pub some : from < to
  pub few : to ≤ from + MAX_BLOCKS
  pub inside : to * BLOCK_SIZE < complete + BLOCK_SIZE
  pub first : span.first ≡ from * BLOCK_SIZE
  pub last : span.last + 1 ≡ end_of complete (to - 1)
  pub behind : asked.last < span.first
  pub gone : (k : ℕ) → from ≤ k → k < to → has k (numbers (blocks_of c).entries) ≡ false
  pub needed : (f : List ℕ) → Knows f c → (k : ℕ) → from ≤ k → k < to → OneTouches (to_come c f) k
  pub range : Extent
  pub place : ℕ
  pub comes : (f : List ℕ) → Knows f c → slice_get (to_come c f) place ≡ Some range
  pub run : IsRunIn (blocks_of c) range (ahead_of c) from to

-- such a span of the revision that is read, if the client asks for something now
abbrev pub IsEarly : ClientState → Span → Type 0
IsEarly c span = IsSomeAnd (asked_of c) (λ asked. IsSomeAnd (revision_of c) (λ v. IsNeededEarly c v.complete asked span))

-- Nothing is asked early: requests close their connections, or the client looks no block ahead.
abbrev pub AsksNothingEarly : ClientState → Type 0
AsksNothingEarly c = (closes c ≡ true) ⊎ (ahead_of c ≡ 0)

-- Before each of these spans, nothing that the client's reader wants from now on is left out.
abbrev pub LeaveNothing : ClientState → List Span → Type 0
LeaveNothing c spans = IfSome (reader_of c) (λ w. IfSome (asked_of c) (λ asked. All (LeavesNothing w asked spans) spans))

-- These spans leave out nothing in reach that the client's reader wants from now on.
abbrev pub LeaveNothingInReach : ClientState → List Span → Type 0
LeaveNothingInReach c spans = IfSome (reader_of c) (λ w. IfSome (asked_of c) (λ asked. LeavesNothingInReach w asked spans))

-- Such spans, each of which lies after all those before it. Nothing is left out between them. There are none if nothing is asked early.
pub record AreEarly (c : ClientState) (spans : List Span) : Type 0 where
  pub each : All (IsEarly c) spans
  pub apart : AreApart spans
  pub order : LeaveNothing c spans
  pub none : AsksNothingEarly c → spans ≡ []

-- The text is the client's request for the span. With a revision it has the condition that the file still has its ETag.
pub record IsRequestFor (c : ClientState) (span : Span) (text : List ℕ) : Type 0 where
  pub asks : Some text ≡ request_for c (Some span)
  pub lawful : CanAsk (host_of c) (name_of c) (fields_of c) span.first span.last (tag_of c)

-- The texts are requests for such spans: one for each, in order.
pub record AreEarlyRequests (c : ClientState) (texts : List (List ℕ)) : Type 0 where
  pub spans : List Span
  pub early : AreEarly c spans
  pub asks : AllZip (IsRequestFor c) spans texts

-- The texts are requests for such spans. If the client asks early, the spans leave out nothing in reach.
pub record AreAllInReach (c : ClientState) (texts : List (List ℕ)) : Type 0 where
  pub requests : AreEarlyRequests c texts
  pub end : ¬ AsksNothingEarly c → LeaveNothingInReach c requests.spans
