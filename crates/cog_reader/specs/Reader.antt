-- What is known of a reader. It answers one query of one file, and is given range after range.
use Rattle.std.specs.Prelude.{◌≡◌, ℕ, ◌+◌, ◌-◌, ◌<◌, ◌≤◌, ⊤, ◌⊎◌, false, ◌==◌, if◌then◌else◌, List, [], ◌∷◌, ◌++◌, length, drop, slice_get, Option, Some, None, IfSome, IsSome, IsSomeAnd}
use Rattle.std.specs.Option.{option_map, option_map_or}
use Rattle.tiff_dir.specs.declared.level.Compression.{Compression}
use Rattle.tiff_dir.specs.declared.query.Query.{Query}
use Rattle.tiff_dir.specs.declared.query.Query.TheVariants as query
use Rattle.extents.specs.declared.span.Span.{Span}
use Rattle.tiff_dir.specs.declared.fault.FileFault.{FileFault}
use Rattle.tiff_dir.specs.Fault.{IsFaultOfDirectories}
use Rattle.tiff_dir.specs.File.{◌>>=◌}
use Rattle.tiff_dir.specs.WalkState.{WalkState}
use Rattle.extents.specs.declared.limits.TheConstants.{MAX_RANGE_BYTES}
use Rattle.extents.specs.Extent.{Extent}
use Rattle.tiff_dir.specs.Needs.{extent_of_place, IsEndOf}
use Rattle.tiff_dir.specs.Query.{needs_of_query, rectangle, is_refused}
use Rattle.tiff_dir.specs.Walk as walk
use Rattle.extents.specs.Extent.{bytes_in, extent_of_span}
use Rattle.tiff_dir.specs.Walk.{HasEnded, given_of, levels_of}
use Rattle.tile_plan.specs.declared.plan.Group.{Group}
use Rattle.tile_plan.specs.Levels.{IsSmall, rectangle_of}
use Rattle.cog_reader.specs.declared.kept_arrays.KeptArrays.{KeptArrays}
use Rattle.cog_reader.specs.declared.kept_arrays.KeptArrays.TheVariants.{Both}
use Rattle.cog_reader.specs.declared.outcome.Outcome.{Outcome}
use Rattle.cog_reader.specs.declared.state.PendingQuery.{PendingQuery}
use Rattle.cog_reader.specs.declared.state.State.{State}
use Rattle.cog_reader.specs.declared.state.State.TheVariants.{Directories, Arrays as Reads, Tiles, GeoFields, Answered}
use Rattle.cog_reader.specs.GeoFields.{present_in, IsReadOf}
use Rattle.cog_reader.specs.KeptArrays.{array_after, arrays_held, next_array, HasBoth, IsKeptOf, KeptAgrees}
use Rattle.tile_plan.specs.WindowBuilder.{HasPlan, IsGroupLen, IsPlan, IsUnderway}
use Rattle.cog_reader.specs.Outcome.{IsTrueOf}
use Rattle.tile_plan.specs.TileCache.{KeptTiles, AreTilesOf}

-- the file's length, the walk over its directories, the arrays and tiles that are kept, and the query with what is done for it
pub record ReaderState : Type 0 where
  pub file_length : ℕ
  pub walk : WalkState
  pub kept : KeptArrays
  pub tiles : KeptTiles
  pub pending : Option PendingQuery

-- ---- what a reader wants

-- the range that a state wants next
abbrev pub wanted_by : WalkState → KeptArrays → State → Option Extent
wanted_by w k Directories = walk.wanted w
wanted_by w k (Reads r) = slice_get (levels_of w) r.level >>= λ l. option_map extent_of_place (next_array k r.level l)
wanted_by w k (Tiles m) = option_map (λ (g : Group). extent_of_span g.span) (slice_get m.groups m.given)
wanted_by w k (GeoFields x) = option_map extent_of_place (slice_get (present_in x.places) x.given)
wanted_by w k (Answered o) = None

-- the compression of the tiles that a state wants; there is none if it wants no tiles
abbrev pub tiles_wanted_by : KeptArrays → State → Option Compression
tiles_wanted_by (Both n a) (Tiles m) = option_map (λ (g : Group). a.level.compression) (slice_get m.groups m.given)
tiles_wanted_by _ _ = None

-- The compression of the tiles that the reader wants next. There is none if it wants no tiles.
unfoldable pub tiles_wanted : ReaderState → Option Compression
tiles_wanted r = r.pending >>= λ a. tiles_wanted_by r.kept a.state

-- a state wants tiles of `len` bytes, and `P` holds of their compression
abbrev pub AreTiles : (Compression → Type 0) → KeptArrays → State → ℕ → Type 0
AreTiles P k (Tiles m) len = HasBoth k (λ a. P a.level.compression × HasPlan a m) × IsGroupLen m len
AreTiles P k _ len = ⊥

-- The range that the reader wants next. There is none without a query, or with an outcome.
unfoldable pub wanted : ReaderState → Option Extent
wanted r = r.pending >>= λ a. wanted_by r.walk r.kept a.state

-- the range that a state wants after the next one and `i` more, as far as it knows it
abbrev pub upcoming_by : WalkState → KeptArrays → State → ℕ → Option Extent
upcoming_by w k Directories i = None
upcoming_by w k (Reads r) i =
    if i == 0 then (slice_get (levels_of w) r.level >>= λ l. option_map extent_of_place (array_after k r.level l)) else None
upcoming_by w k (Tiles m) i = option_map (λ (g : Group). extent_of_span g.span) (slice_get m.groups (m.given + 1 + i))
upcoming_by w k (GeoFields x) i = option_map extent_of_place (slice_get (present_in x.places) (x.given + 1 + i))
upcoming_by w k (Answered o) i = None

-- The range that the reader wants after the next one and `i` more, as far as it knows it. It is the other array of a level, a later group
-- of a window, or a later geo field.
unfoldable pub upcoming : ReaderState → ℕ → Option Extent
upcoming r i = r.pending >>= λ a. upcoming_by r.walk r.kept a.state i

abbrev pub outcome_in : State → Option Outcome
outcome_in (Answered o) = Some o
outcome_in _ = None

-- The outcome, if there is one.
unfoldable pub outcome_of : ReaderState → Option Outcome
outcome_of r = r.pending >>= λ a. outcome_in a.state

-- The query.
unfoldable pub query_of : ReaderState → Option Query
query_of r = option_map (λ (a : PendingQuery). a.query) r.pending

-- The length of the file.
unfoldable pub file_length_of : ReaderState → ℕ
file_length_of r = r.file_length

-- The tiles that are kept unpacked, and how many bytes they may have together.
unfoldable pub tiles_of : ReaderState → KeptTiles
tiles_of r = r.tiles

-- All directories of the file were read.
unfoldable pub AreDirectoriesRead : ReaderState → Type 0
AreDirectoriesRead r = HasEnded r.walk

-- how many ranges of the query itself are there: of a window the arrays of its level that are kept, and then the groups
abbrev pub own_given : List ℕ → Query → KeptArrays → State → ℕ
own_given f q k Directories = option_map_or (λ r. arrays_held k r.level) (rectangle f q) 0
own_given f q k (Reads r) = arrays_held k r.level
own_given f q k (Tiles m) = 2 + m.given
own_given f q k (GeoFields x) = x.given
own_given f q k (Answered o) = 0

-- the ranges of the file that a state wants from now on
abbrev pub come_by : List ℕ → WalkState → KeptArrays → Query → State → List Extent
come_by f w k q (Answered o) = []
come_by f w k q Directories = walk.to_come w f ++ drop (own_given f q k Directories) (needs_of_query f q)
come_by f w k q state = drop (own_given f q k state) (needs_of_query f q)

-- The ranges of the file that the reader wants from now on.
unfoldable pub to_come : ReaderState → List ℕ → List Extent
to_come r f = option_map_or (λ (a : PendingQuery). come_by f r.walk r.kept a.query a.state) r.pending []

-- what a query needs of the file, except for the directories and the arrays that are held
abbrev pub unread_by : List ℕ → WalkState → KeptArrays → Query → List Extent
unread_by f w k q = come_by f w k q Directories

-- What a query needs of the file, except for the directories and the arrays that are held.
unfoldable pub unread : ReaderState → List ℕ → Query → List Extent
unread r f q = unread_by f r.walk r.kept q

-- if both queries ask for a rectangle, their rectangles are of one level
abbrev pub AreOfOneLevel : List ℕ → Query → Query → Type 0
AreOfOneLevel f a b = IfSome (rectangle f a) (λ r. IfSome (rectangle f b) (λ s. r.level ≡ s.level))

-- A number that falls with each range that is given.
abbrev pub steps_by : WalkState → KeptArrays → State → ℕ
steps_by w k Directories = 131072 + (65 - given_of w)
steps_by w k (Reads r) = 65539 - arrays_held k r.level
steps_by w k (Tiles m) = length m.groups - m.given
steps_by w k (GeoFields x) = length (present_in x.places) - x.given
steps_by w k (Answered o) = 0

unfoldable pub steps_of : ReaderState → ℕ
steps_of r = option_map_or (λ (a : PendingQuery). steps_by r.walk r.kept a.state) r.pending 0

-- ---- what is true of a reader

-- a state fits a walk and the arrays that are kept
abbrev pub IsState : ℕ → WalkState → KeptArrays → State → Type 0
IsState file_length w k Directories = ⊤
IsState file_length w k (Reads r) = HasEnded w × IsSomeAnd (slice_get (levels_of w) r.level) (λ l. IsSmall l r)
IsState file_length w k (Tiles m) = HasEnded w × HasBoth k (λ a. IsPlan file_length a m)
IsState file_length w k (GeoFields x) = HasEnded w
IsState file_length w k (Answered o) = ⊤

pub record IsReader (file_length : ℕ) (w : WalkState) (k : KeptArrays) (pending : Option PendingQuery) : Type 0 where
  pub kept : IsKeptOf w k
  pub state : IfSome pending (λ a. IsState file_length w k a.state)

-- the file's directories have no fault
abbrev pub IsClean : List ℕ → Type 0
IsClean f = (fault : FileFault) → IsFaultOfDirectories f fault → ⊥

-- what a state holds is the file's, and is for the query
abbrev pub StateAgrees : List ℕ → Query → KeptArrays → State → Type 0
StateAgrees f q k Directories = ⊤
StateAgrees f q k (Reads r) = (rectangle f q ≡ Some (rectangle_of r)) × (is_refused f q ≡ false)
StateAgrees f q k (Tiles m) = HasBoth k (λ a. IsUnderway f q a m) × IsClean f
StateAgrees f q k (GeoFields x) = (q ≡ query.Info) × IsReadOf f x
StateAgrees f q k (Answered o) = IsTrueOf f q o

pub record IsHeldOf (r : ReaderState) (f : List ℕ) : Type 0 where
  pub size : length f ≡ r.file_length
  pub walked : walk.WalkAgrees r.walk f
  pub kept : KeptAgrees f r.kept
  pub tiles : AreTilesOf f r.tiles
  pub sound : IsReader r.file_length r.walk r.kept r.pending
  pub state : IfSome r.pending (λ a. StateAgrees f a.query r.kept a.state)

-- All that the reader holds is the file's.
unfoldable pub ReaderAgrees : ReaderState → List ℕ → Type 0
ReaderAgrees r f = IsHeldOf r f

-- ---- words for a reader's calls

abbrev pub IsWanted : ReaderState → ℕ → Type 0
IsWanted r len = IsSomeAnd (wanted r) (λ w. len ≡ w.len)

-- the bytes of the file that the reader wants
abbrev pub IsWantedOf : List ℕ → ReaderState → List ℕ → Type 0
IsWantedOf f r bytes = IsSomeAnd (wanted r) (λ w. bytes ≡ bytes_in f w)

-- The answer is the range that is wanted. It isn't empty, ends within a file of this length, and has at most 1,048,576 bytes.
-- There is none exactly where there is an outcome, or no query.
abbrev pub Wants : ReaderState → Option Span → Type 0
Wants r None = (wanted r ≡ None) × (query_of r ≡ None ⊎ IsSome (outcome_of r))
Wants r (Some span) =
    (wanted r ≡ Some (extent_of_span span)) × (span.last < file_length_of r) × (span.last + 1 ≤ span.first + MAX_RANGE_BYTES)
    × (outcome_of r ≡ None)

-- `None`: there is no range, or it ends after a file of `file_length` bytes. `Some`: the range is this span, which lies within the file.
abbrev pub IsRangeIn : ℕ → Option Extent → Option Span → Type 0
IsRangeIn file_length range None = IfSome range (λ r. file_length < r.first + r.len)
IsRangeIn file_length range (Some span) = (range ≡ Some (extent_of_span span)) × (span.last < file_length)

-- The span is the next range. There is none if no next range is known, or if it ends after the file.
abbrev pub IsNext : ReaderState → Option Span → Type 0
IsNext r span = IsRangeIn (file_length_of r) (wanted r) span

-- The same for the range after the next one and `i` more.
abbrev pub IsUpcoming : ReaderState → ℕ → Option Span → Type 0
IsUpcoming r i span = IsRangeIn (file_length_of r) (upcoming r i) span

-- What is to come after the wanted range was given: the ranges after it, or none if the query is answered.
abbrev pub AcceptsFirstRange : List ℕ → ReaderState → ReaderState → Type 0
AcceptsFirstRange f old new =
    (IsSome (outcome_of new) × (to_come new f ≡ []))
    ⊎ IsSomeAnd (wanted old) (λ r. to_come old f ≡ r ∷ to_come new f)

-- What a query needs, except for what is held, is an end of what it needed before. Only the arrays of one level are held, so this
-- is said of queries of the level that is read.
abbrev pub KeepsHeld : List ℕ → ReaderState → ReaderState → Type 0
KeepsHeld f old new =
    IfSome (query_of old) (λ asked. (q : Query) → AreOfOneLevel f asked q → IsEndOf (unread new f q) (unread old f q))

-- The reader took these bytes for the wanted range. One range less is to come, or none if the bytes show a fault. What is held of the file
-- stays, except for the arrays of another level than the query's. The tiles that are kept may have as many bytes as before.
pub record Takes (bytes : List ℕ) (old new : ReaderState) : Type 0 where
  pub agrees : (f : List ℕ) → ReaderAgrees old f → IsWantedOf f old bytes → ReaderAgrees new f
  pub come : (f : List ℕ) → ReaderAgrees old f → IsWantedOf f old bytes → AcceptsFirstRange f old new
  pub held : (f : List ℕ) → ReaderAgrees old f → KeepsHeld f old new
  pub most : (tiles_of new).most ≡ (tiles_of old).most
  pub steps : steps_of new < steps_of old
  pub file_length : file_length_of new ≡ file_length_of old
  pub query : query_of new ≡ query_of old
