-- How a reader goes on: it is given what the cache has, and then something is missing, or nothing.
use Rattle.cog_reader.specs.declared.ahead.TheConstants.{MAX_BLOCKS}
use Rattle.std.specs.Prelude.{◌≡◌, ℕ, zero, suc, ◌+◌, ◌-◌, ◌*◌, ◌<◌, ◌≤◌, false, List, Option, Some, None, IsSome, IsSomeAnd, ◌⊎◌, slice_get}
use Rattle.tiff_dir.specs.declared.query.Query.{Query}
use Rattle.extents.specs.declared.span.Span.{Span}
use Rattle.extents.specs.declared.limits.TheConstants.{BLOCK_SIZE, MAX_RANGE_BYTES}
use Rattle.extents.specs.Extent.{Extent}
use Rattle.tiff_dir.specs.Needs.{IsEndOf}
use Rattle.extents.specs.Block.{end_of, first_block, blocks}
use Rattle.range_cache.specs.Cache.{Blocks, Holds, block_at, numbers}
use Rattle.range_cache.specs.Numbers.{has, missing as absent, IsLed}
use Rattle.range_cache.specs.Missing.{IsFirstGap}
use Rattle.range_cache.specs.declared.missing.Missing.{Missing}
use Rattle.cog_reader.specs.Reader.{AreOfOneLevel, ReaderState, ReaderAgrees, file_length_of, outcome_of, query_of, steps_of, tiles_of, to_come, unread, upcoming, wanted}

-- a reader, and the blocks that it reads from
pub record CachedReader : Type 0 where
  pub reader : ReaderState
  pub cache : Blocks

abbrev pub work : ReaderState → Blocks → CachedReader
work r b = record { reader = r; cache = b }

-- the same blocks, in any order
pub record AreSame (old new : Blocks) : Type 0 where
  pub capacity : new.capacity ≡ old.capacity
  pub blocks : (k : ℕ) → block_at k new.entries ≡ block_at k old.entries

-- No query of the level of the reader's query needs more of the file than before.
abbrev pub KeepsRead : List ℕ → ReaderState → ReaderState → Type 0
KeepsRead f old new = (asked q : Query) → query_of old ≡ Some asked → AreOfOneLevel f asked q → IsEndOf (unread new f q) (unread old f q)

-- what is held is still the file's, and the ranges to come are an end of those before
pub record ReaderStaysOf (f : List ℕ) (old new : CachedReader) : Type 0 where
  pub reader : ReaderAgrees new.reader f
  pub cache : Holds f new.cache
  pub come : IsEndOf (to_come new.reader f) (to_come old.reader f)
  pub held : KeepsRead f old.reader new.reader

-- What the reader is given changes no block, no length and no query. It may keep as many bytes of unpacked tiles as before.
pub record ReaderGoesOn (old new : CachedReader) : Type 0 where
  pub file_length : file_length_of new.reader ≡ file_length_of old.reader
  pub query : query_of new.reader ≡ query_of old.reader
  pub most : (tiles_of new.reader).most ≡ (tiles_of old.reader).most
  pub blocks : AreSame old.cache new.cache
  pub file : (f : List ℕ) → ReaderAgrees old.reader f → Holds f old.cache → ReaderStaysOf f old new

-- a range touches block `k`
abbrev pub Touches : Extent → ℕ → Type 0
Touches r k = (first_block r.first ≤ k) × (k < first_block r.first + blocks r.first r.len)

-- one of these ranges touches block `k`
abbrev pub OneTouches : List Extent → ℕ → Type 0
OneTouches rs k = (place : ℕ) × IsSomeAnd (slice_get rs place) (λ r. Touches r k)

-- each block that begins in the span is touched by one of these ranges
abbrev pub AreTouched : List Extent → Span → Type 0
AreTouched rs s = (k : ℕ) → s.first ≤ k * BLOCK_SIZE → k * BLOCK_SIZE ≤ s.last → OneTouches rs k

-- the ranges that the reader wants from now on, as far as it knows them, the next one first
abbrev pub known_at : ReaderState → ℕ → Option Extent
known_at r zero = wanted r
known_at r (suc index) = upcoming r index

-- a range that the reader wants from now on, as far as it knows it, touches block `k`
abbrev pub IsWantedFromNow : ReaderState → ℕ → Type 0
IsWantedFromNow r k = (index : ℕ) × IsSomeAnd (known_at r index) (λ x. Touches x k)

-- a range that the reader wants later, as far as it knows it, touches block `k`
abbrev pub IsWantedLater : ReaderState → ℕ → Type 0
IsWantedLater r k = (index : ℕ) × IsSomeAnd (upcoming r index) (λ x. Touches x k)

-- The span is the first run of missing blocks of a range, and at most `ahead` blocks after it. None of these blocks is there, and they
-- are at most 65.
pub record IsMissing (b : Blocks) (file_length : ℕ) (r : Extent) (ahead : ℕ) (span : Span) : Type 0 where
  pub some : 0 < r.len
  pub within : r.first + r.len ≤ file_length
  pub small : r.len ≤ MAX_RANGE_BYTES
  pub missing : Missing
  pub lacks : IsFirstGap b file_length r.first r.len missing
  pub first : span.first ≡ missing.first
  pub to : ℕ
  pub last : span.last + 1 ≡ end_of file_length (to - 1)
  pub on : lacks.to ≤ to
  pub near : to ≤ lacks.to + ahead
  pub few : to ≤ lacks.from + MAX_BLOCKS
  pub inside : to * BLOCK_SIZE < file_length + BLOCK_SIZE
  pub gone : (k : ℕ) → lacks.from ≤ k → k < to → has k (numbers b.entries) ≡ false

-- The blocks of the range that are there lead the others, and the missing ones have room beside them.
pub record HasRoom (b : Blocks) (file_length : ℕ) (r : Extent) (ahead : ℕ) (span : Span) (m : IsMissing b file_length r ahead span) : Type 0 where
  pub led : IsLed (numbers b.entries) (first_block r.first) (blocks r.first r.len)
  pub room : blocks r.first r.len - absent (numbers b.entries) (first_block r.first) (blocks r.first r.len) + (m.to - m.lacks.from) ≤ b.capacity

abbrev pub IsMissingWithRoom : Blocks → ℕ → Extent → ℕ → Span → Type 0
IsMissingWithRoom b file_length r ahead span = (m : IsMissing b file_length r ahead span) × HasRoom b file_length r ahead span m

-- The range that the reader wants isn't all there. It is the first that is still to come, whatever file is read. The span is its first run
-- of missing blocks. After them it has blocks of ranges that the reader wants later, and which are to come later.
pub record IsStopped (w : CachedReader) (ahead : ℕ) (span : Span) : Type 0 where
  pub range : Extent
  pub wanted : wanted w.reader ≡ Some range
  pub first : (f : List ℕ) → ReaderAgrees w.reader f → slice_get (to_come w.reader f) 0 ≡ Some range
  pub missing : IsMissing w.cache (file_length_of w.reader) range ahead span
  pub room : HasRoom w.cache (file_length_of w.reader) range ahead span missing
  pub later : (k : ℕ) → missing.lacks.to ≤ k → k < missing.to → IsWantedLater w.reader k
  pub needed : (f : List ℕ) → ReaderAgrees w.reader f → AreTouched (to_come w.reader f) span

-- The reader needs nothing more, or it stopped where the cache lacks something.
abbrev pub IsFilled : CachedReader → ℕ → Option Span → Type 0
IsFilled w ahead None = (query_of w.reader ≡ None) ⊎ IsSome (outcome_of w.reader)
IsFilled w ahead (Some span) = IsStopped w ahead span

-- If `ahead` is 0, the span is the first run of missing blocks of one range.
abbrev pub LooksAtOneRange : Type 0
LooksAtOneRange = (b : Blocks) (file_length : ℕ) (r : Extent) (span : Span) (m : IsMissing b file_length r 0 span) →
    (m.to ≡ m.lacks.to) × (span.last ≡ m.missing.last)

-- One range. It was given, and fewer steps are left; or it isn't all there, and the reader is as it was.
abbrev pub IsGiven : Extent → CachedReader → CachedReader → Option Span → Type 0
IsGiven r old new None = steps_of new.reader < steps_of old.reader
IsGiven r old new (Some span) = (new.reader ≡ old.reader) × IsMissingWithRoom new.cache (file_length_of new.reader) r 0 span
