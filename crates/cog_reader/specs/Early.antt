-- What may be asked for early: before the answer to the last request came.
use Rattle.std.specs.Prelude.{◌≡◌, ℕ, ◌+◌, ◌-◌, ◌*◌, ◌/◌, ◌<◌, ◌≤◌, ◌⊎◌, false, true, List, Some, IsSomeAnd, slice_get}
use Rattle.std.specs.List.{AllPairs, Any}
use Rattle.extents.specs.declared.span.Span.{Span}
use Rattle.extents.specs.declared.limits.TheConstants.{BLOCK_SIZE}
use Rattle.extents.specs.Extent.{Extent}
use Rattle.extents.specs.Block.{end_of, first_block, blocks}
use Rattle.range_cache.specs.Cache.{Blocks, numbers}
use Rattle.range_cache.specs.Numbers.{has, missing as absent}
use Rattle.cog_reader.specs.Reader.{ReaderAgrees, file_length_of, to_come}
use Rattle.cog_reader.specs.declared.ahead.TheConstants.{MAX_BLOCKS}
use Rattle.cog_reader.specs.Going.{CachedReader, known_at, IsWantedFromNow, OneTouches, Touches}

-- The blocks from number `from` up to `to` begin within the range, with blocks of it that aren't there. At most `ahead` more follow these.
-- They have room beside the blocks of the range that are there then: all before `from`, and those of the others that are there.
pub record IsRunIn (b : Blocks) (r : Extent) (ahead from to : ℕ) : Type 0 where
  pub end : ℕ
  pub begins : first_block r.first ≤ from
  pub some : from < end
  pub within : end ≤ first_block r.first + blocks r.first r.len
  pub gone : (k : ℕ) → from ≤ k → k < end → has k (numbers b.entries) ≡ false
  pub on : end ≤ to
  pub near : to ≤ end + ahead
  pub room : blocks r.first r.len - absent (numbers b.entries) from (first_block r.first + blocks r.first r.len - from) + (to - from) ≤ b.capacity

-- The blocks from number `from` up to `to` begin in the file, and are at most 65. None of them is there. Each touches a range that the
-- reader wants from now on, as far as it knows it. Each also touches one that is still to come, whatever file is read. The blocks begin
-- in a range that the reader wants from now on, with its first missing blocks among them. At most `ahead` more follow these.
pub record AreNeededLater (w : CachedReader) (ahead from to : ℕ) : Type 0 where
  pub some : from < to
  pub few : to ≤ from + MAX_BLOCKS
  pub inside : to * BLOCK_SIZE < file_length_of w.reader + BLOCK_SIZE
  pub gone : (k : ℕ) → from ≤ k → k < to → has k (numbers w.cache.entries) ≡ false
  pub needed : (f : List ℕ) → ReaderAgrees w.reader f → (k : ℕ) → from ≤ k → k < to → OneTouches (to_come w.reader f) k
  pub wanted : (k : ℕ) → from ≤ k → k < to → IsWantedFromNow w.reader k
  pub range : Extent
  pub index : ℕ
  pub known : known_at w.reader index ≡ Some range
  pub comes : (f : List ℕ) → ReaderAgrees w.reader f → slice_get (to_come w.reader f) index ≡ Some range
  pub run : IsRunIn w.cache range ahead from to

-- The span is of such blocks, after what is asked for now.
pub record IsEarly (w : CachedReader) (ahead : ℕ) (asked span : Span) : Type 0 where
  pub from : ℕ
  pub to : ℕ
  pub blocks : AreNeededLater w ahead from to
  pub first : span.first ≡ from * BLOCK_SIZE
  pub last : span.last + 1 ≡ end_of (file_length_of w.reader) (to - 1)
  pub behind : asked.last < span.first

-- Block `k` is there, or its first byte is in one of these spans.
abbrev pub IsSeenTo : CachedReader → List Span → ℕ → Type 0
IsSeenTo w spans k =
    (has k (numbers w.cache.entries) ≡ true) ⊎ Any (λ (s : Span). (s.first ≤ k * BLOCK_SIZE) × (k * BLOCK_SIZE ≤ s.last)) spans

-- The span begins in a range that the reader wants from now on. Nothing is left out of this range, nor of those that it wants before, as
-- far as it knows them. Each of their blocks after what is asked for now and before the span is there, or in one of these spans.
pub record LeavesNothing (w : CachedReader) (asked : Span) (spans : List Span) (span : Span) : Type 0 where
  pub index : ℕ
  pub range : Extent
  pub known : known_at w.reader index ≡ Some range
  pub begins : Touches range (span.first / BLOCK_SIZE)
  pub before : (i : ℕ) (r : Extent) (k : ℕ) → i ≤ index → known_at w.reader i ≡ Some r → Touches r k → asked.last < k * BLOCK_SIZE → k * BLOCK_SIZE < span.first → IsSeenTo w spans k

-- The range ends within the file, and the cache has room for all its blocks.
abbrev pub Fits : CachedReader → Extent → Type 0
Fits w r = (r.first + r.len ≤ file_length_of w.reader) × (blocks r.first r.len ≤ w.cache.capacity)

-- The ranges that the reader wants from now on, up to the one at `place`, are known, and each of them fits. They are in the order of the
-- file: none begins in a block before the one in which an earlier one begins.
pub record IsInReach (w : CachedReader) (place : ℕ) : Type 0 where
  pub each : (i : ℕ) → i ≤ place → IsSomeAnd (known_at w.reader i) (Fits w)
  pub order : (i j : ℕ) (r s : Extent) → i ≤ j → j ≤ place → known_at w.reader i ≡ Some r → known_at w.reader j ≡ Some s → first_block r.first ≤ first_block s.first

-- Nothing in reach is left out. Each block of a range in reach is there or in one of these spans, if it lies after what is asked for now.
abbrev pub LeavesNothingInReach : CachedReader → Span → List Span → Type 0
LeavesNothingInReach w asked spans =
    (place : ℕ) (r : Extent) (k : ℕ) → IsInReach w place → known_at w.reader place ≡ Some r → Touches r k → asked.last < k * BLOCK_SIZE → IsSeenTo w spans k

-- From the range at `from` on, which begins in block `least`, no range in reach has a missing block from `to` on.
abbrev pub AreThereInReach : CachedReader → ℕ → ℕ → ℕ → Type 0
AreThereInReach w from least to =
    (first r : Extent) (place k : ℕ) → known_at w.reader from ≡ Some first → first_block first.first ≡ least → from ≤ place → IsInReach w place
    → known_at w.reader place ≡ Some r → Touches r k → to ≤ k → has k (numbers w.cache.entries) ≡ true

-- The ranges that the reader wants from `place` up to `next` have no block before `least`, and no missing one from `to` on.
abbrev pub ArePassed : CachedReader → ℕ → ℕ → ℕ → ℕ → Type 0
ArePassed w place next least to =
    (i : ℕ) (r : Extent) (k : ℕ) → place ≤ i → i < next → known_at w.reader i ≡ Some r → Touches r k → (least ≤ k) × (to ≤ k → has k (numbers w.cache.entries) ≡ true)

-- the range at `place` begins in block `first`, and touches block `k`
abbrev pub BeginsIn : CachedReader → ℕ → ℕ → ℕ → Type 0
BeginsIn w place first k = (r : Extent) × (known_at w.reader place ≡ Some r) × (first_block r.first ≡ first) × Touches r k

-- Each span lies after all those before it.
abbrev pub AreApart : List Span → Type 0
AreApart spans = AllPairs (λ (s t : Span). s.last < t.first) spans
