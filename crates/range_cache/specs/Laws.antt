-- Laws of these definitions, for the crates above.
use Rattle.std.specs.Prelude.{◌≡◌, ◌⊎◌, ℕ, ◌+◌, ◌-◌, ◌*◌, ◌<◌, ◌≤◌, true, false, List, [], ◌++◌, length, take, drop, min, max, is_some}
use Rattle.extents.specs.declared.span.Span.{Span}
use Rattle.extents.specs.declared.limits.TheConstants.{BLOCK_SIZE}
use Rattle.extents.specs.Block.{end_of}
use Rattle.range_cache.specs.Numbers.{has, missing, AreGone, AreKept, IsGap, IsLed, Stays}
use Rattle.range_cache.specs.Cache.{Block, Blocks, block_at, numbers, stored, stores, Holds}
use Rattle.range_cache.specs.Piece.{is_brought, is_wanted, whole_blocks, IsPieceOf}

-- both lists have the same blocks
abbrev pub HaveSame : List ℕ → List ℕ → Type 0
HaveSame ns ms = (k : ℕ) → has k ns ≡ has k ms

-- a block is there exactly if it is found
abbrev pub FoundAreThere : Type 0
FoundAreThere = (k : ℕ) (bs : List Block) → has k (numbers bs) ≡ is_some (block_at k bs)

-- if the same blocks are there, the first gap is the same
abbrev pub GapsAreUnique : Type 0
GapsAreUnique = (ns ms : List ℕ) (n count from to begin end : ℕ) →
    HaveSame ns ms → IsGap ns n count from to → IsGap ms n count begin end → (from ≡ begin) × (to ≡ end)

-- if the same blocks are there, as many are missing
abbrev pub MissingIsSame : Type 0
MissingIsSame = (ns ms : List ℕ) (n count : ℕ) → HaveSame ns ms → missing ns n count ≡ missing ms n count

-- no more blocks are missing than there are
abbrev pub MissingIsFew : Type 0
MissingIsFew = (ns : List ℕ) (n count : ℕ) → missing ns n count ≤ count

-- if one of some blocks isn't there, at least one is missing
abbrev pub MissingIsSome : Type 0
MissingIsSome = (ns : List ℕ) (n count k : ℕ) → n ≤ k → k < n + count → has k ns ≡ false → 1 ≤ missing ns n count

-- a run of missing blocks is no longer than the number of blocks that are missing
abbrev pub RunsAreMissing : Type 0
RunsAreMissing = (ns : List ℕ) (n count from to : ℕ) → n ≤ from → to ≤ n + count →
    ((k : ℕ) → from ≤ k → k < to → has k ns ≡ false) → to - from ≤ missing ns n count

-- if no block leaves, no more are missing than before; if a missing one came, fewer are
abbrev pub MissingIsLess : Type 0
MissingIsLess = (old new : List ℕ) (n count : ℕ) → AreKept old new n count → missing new n count ≤ missing old n count

abbrev pub MissingIsFewer : Type 0
MissingIsFewer = (old new : List ℕ) (n count k : ℕ) → AreKept old new n count →
    n ≤ k → k < n + count → has k old ≡ false → has k new ≡ true → missing new n count + 1 ≤ missing old n count

-- no more blocks are stored than are given
abbrev pub StoresAreFew : Type 0
StoresAreFew = (capacity : ℕ) (new bs : List Block) → stores capacity new bs ≤ length new

-- if one of the given blocks isn't there, at least one is stored
abbrev pub StoresAreSome : Type 0
StoresAreSome = (capacity : ℕ) (new bs : List Block) (n : ℕ) →
    has n (numbers new) ≡ true → has n (numbers bs) ≡ false → 1 ≤ stores capacity new bs

-- Let no block be there that a piece brings. Let those of a range that are there lead the others, and let the piece's blocks have room
-- beside them. Then no block of the range leaves, and all that the piece brings is there.
abbrev pub StoredStay : Type 0
StoredStay = (c : Blocks) (file_length first : ℕ) (bytes : List ℕ) (wanted : Span) (n count : ℕ) →
    let new = whole_blocks file_length first bytes wanted in
    AreGone (numbers c.entries) (numbers new) → count - missing (numbers c.entries) n count + length new ≤ c.capacity →
    IsLed (numbers c.entries) n count →
    Stays (numbers c.entries) (numbers (stored c.capacity new c.entries)) n count (numbers new)

-- each whole block in the piece and in what is wanted is brought
abbrev pub WholeAreBrought : Type 0
WholeAreBrought = (file_length first : ℕ) (bytes : List ℕ) (wanted : Span) (n : ℕ) →
    is_brought file_length first (length bytes) wanted n ≡ true → has n (numbers (whole_blocks file_length first bytes wanted)) ≡ true

-- no other block is brought
abbrev pub OnlyWholeAreBrought : Type 0
OnlyWholeAreBrought = (file_length first : ℕ) (bytes : List ℕ) (wanted : Span) (n : ℕ) →
    has n (numbers (whole_blocks file_length first bytes wanted)) ≡ true → is_brought file_length first (length bytes) wanted n ≡ true

-- a piece brings at most `n` blocks, if what is wanted is no longer than `n` blocks
abbrev pub WholeAreFew : Type 0
WholeAreFew = (file_length first : ℕ) (bytes : List ℕ) (wanted : Span) (n : ℕ) →
    wanted.last < wanted.first + n * BLOCK_SIZE → length (whole_blocks file_length first bytes wanted) ≤ n

-- a piece of a file brings blocks of this file: if the cache holds only blocks of it, this stays so when they are stored
abbrev pub StoredHolds : Type 0
StoredHolds = (f : List ℕ) (c : Blocks) (file_length first : ℕ) (bytes : List ℕ) (wanted : Span) →
    file_length ≡ length f → IsPieceOf f first bytes → Holds f c →
    Holds f (record c { entries = stored c.capacity (whole_blocks file_length first bytes wanted) c.entries })

-- the same if only the first `k` of them are stored
abbrev pub FrontHolds : Type 0
FrontHolds = (f : List ℕ) (c : Blocks) (file_length first : ℕ) (bytes : List ℕ) (wanted : Span) (k : ℕ) →
    file_length ≡ length f → IsPieceOf f first bytes → Holds f c →
    Holds f (record c { entries = stored c.capacity (take k (whole_blocks file_length first bytes wanted)) c.entries })

-- ---- a piece that comes in parts

-- no block is cut here: the place is where a block begins, or the end of the file
abbrev pub IsEdge : ℕ → ℕ → Type 0
IsEdge file_length at = (at ≡ file_length) ⊎ ((n : ℕ) × (at ≡ n * BLOCK_SIZE))

-- a piece that is cut at such a place brings the blocks of the first part, and then those of the second
abbrev pub EdgesPart : Type 0
EdgesPart = (file_length first : ℕ) (front rest : List ℕ) (wanted : Span) → IsEdge file_length (first + length front) →
    whole_blocks file_length first (front ++ rest) wanted
    ≡ whole_blocks file_length first front wanted ++ whole_blocks file_length (first + length front) rest wanted

-- The bytes from `first` up to `end` lie in block `n`, and are not all of it.
pub record IsPartOf (file_length first end n : ℕ) : Type 0 where
  pub begins : n * BLOCK_SIZE ≤ first
  pub ends : end ≤ end_of file_length n
  pub lacks : (n * BLOCK_SIZE < first) ⊎ (end < end_of file_length n)

-- a part of a block brings no block
abbrev pub PartsBringNone : Type 0
PartsBringNone = (file_length first : ℕ) (bytes : List ℕ) (wanted : Span) (n : ℕ) →
    IsPartOf file_length first (first + length bytes) n → whole_blocks file_length first bytes wanted ≡ []

-- a piece without a byte of what is wanted brings no block
abbrev pub BesideBringNone : Type 0
BesideBringNone = (file_length first : ℕ) (bytes : List ℕ) (wanted : Span) →
    min (first + length bytes) (wanted.last + 1) ≤ max first wanted.first → whole_blocks file_length first bytes wanted ≡ []

-- A piece is cut within block `n`, which begins in the front and ends in the rest.
pub record IsCutIn (file_length first : ℕ) (front rest : List ℕ) (n : ℕ) : Type 0 where
  pub begins : first ≤ n * BLOCK_SIZE
  pub reached : n * BLOCK_SIZE ≤ first + length front
  pub cut : first + length front < end_of file_length n
  pub ends : end_of file_length n ≤ first + length front + length rest

-- the part of block `n` in the front, and then how many of its bytes are in the rest
abbrev pub begun : ℕ → List ℕ → ℕ → List ℕ
begun first front n = drop (n * BLOCK_SIZE - first) front

abbrev pub lacking : ℕ → ℕ → List ℕ → ℕ → ℕ
lacking file_length first front n = end_of file_length n - (first + length front)

-- such a piece brings the blocks of the front, the block that the cut goes through, and the blocks of what follows this one
abbrev pub CutsPart : Type 0
CutsPart = (file_length first : ℕ) (front rest : List ℕ) (wanted : Span) (n : ℕ) → IsCutIn file_length first front rest n →
    let m = lacking file_length first front n in
    whole_blocks file_length first (front ++ rest) wanted
    ≡ whole_blocks file_length first front wanted
    ++ (whole_blocks file_length (n * BLOCK_SIZE) (begun first front n ++ take m rest) wanted
    ++ whole_blocks file_length (end_of file_length n) (drop m rest) wanted)

-- the blocks of two lists are stored one list after the other, and are counted in the same way
abbrev pub StoredJoin : Type 0
StoredJoin = (capacity : ℕ) (new later bs : List Block) →
    stored capacity (new ++ later) bs ≡ stored capacity later (stored capacity new bs)

abbrev pub StoresJoin : Type 0
StoresJoin = (capacity : ℕ) (new later bs : List Block) →
    stores capacity (new ++ later) bs ≡ stores capacity new bs + stores capacity later (stored capacity new bs)

-- the bytes of a block that isn't wanted change nothing
abbrev pub UnwantedStay : Type 0
UnwantedStay = (c : Blocks) (file_length : ℕ) (bytes : List ℕ) (wanted : Span) (n : ℕ) →
    is_wanted c file_length wanted n ≡ false → n * BLOCK_SIZE + length bytes ≤ end_of file_length n →
    let new = whole_blocks file_length (n * BLOCK_SIZE) bytes wanted in
    (stored c.capacity new c.entries ≡ c.entries) × (stores c.capacity new c.entries ≡ 0)
