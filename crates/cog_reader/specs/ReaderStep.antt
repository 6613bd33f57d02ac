-- What a state becomes without another byte of the file.
use Rattle.std.specs.Prelude.{◌≡◌, ℕ, ◌+◌, ◌<◌, ◌≤◌, ⊤, List, length, slice_get, Option, Some, None, IfSome, IsSome}
use Rattle.tiff_dir.specs.declared.query.Query.{Query}
use Rattle.extents.specs.declared.span.Span.{Span}
use Rattle.tiff_dir.specs.Faulty.{IsFaulty}
use Rattle.tiff_dir.specs.declared.query.Query.TheVariants as query
use Rattle.tiff_dir.specs.WalkState.{WalkState}
use Rattle.extents.specs.Extent.{Extent}
use Rattle.extents.specs.declared.limits.TheConstants.{MAX_RANGE_BYTES}
use Rattle.tiff_dir.specs.Walk as walk
use Rattle.extents.specs.Extent.{extent_of_span}
use Rattle.tiff_dir.specs.declared.fault.WalkError.{WalkError}
use Rattle.tiff_dir.specs.declared.fault.WalkError.TheVariants.{File, Memory}
use Rattle.cog_reader.specs.declared.kept_arrays.KeptArrays.{KeptArrays}
use Rattle.cog_reader.specs.declared.state.State.{State}
use Rattle.cog_reader.specs.declared.state.State.TheVariants.{Answered}
use Rattle.cog_reader.specs.declared.state.ReaderStep.{ReaderStep}
use Rattle.cog_reader.specs.declared.state.ReaderStep.TheVariants.{Read, Answer}
use Rattle.cog_reader.specs.KeptArrays.{KeptAgrees}
use Rattle.cog_reader.specs.Reader.{come_by, outcome_in, steps_by, upcoming_by, wanted_by, IsState, StateAgrees}

-- the walk and the arrays that are kept are those of a file of `file_length` bytes
pub record IsBase (f : List ℕ) (file_length : ℕ) (w : WalkState) (k : KeptArrays) : Type 0 where
  pub size : length f ≡ file_length
  pub walked : walk.WalkAgrees w f
  pub kept : KeptAgrees f k

-- One state becomes another. What it holds is the file's. It wants the same ranges, or it is done and wants none. If the old state was
-- done, the new one is, too.
pub record Becomes (file_length : ℕ) (w : WalkState) (k : KeptArrays) (q : Query) (old new : State) : Type 0 where
  pub sound : IsState file_length w k new
  pub same : (f : List ℕ) → IsBase f file_length w k → StateAgrees f q k old → StateAgrees f q k new
  pub come : (f : List ℕ) → IsBase f file_length w k → StateAgrees f q k old → outcome_in new ≡ None
      → come_by f w k q new ≡ come_by f w k q old
  pub steps : steps_by w k new ≤ steps_by w k old
  pub done : IsSome (outcome_in old) → IsSome (outcome_in new)

-- the range isn't empty, ends within a file of `file_length` bytes, and isn't too long
pub record IsFair (file_length : ℕ) (r : Extent) : Type 0 where
  pub some : 0 < r.len
  pub inside : r.first + r.len ≤ file_length
  pub few : r.len ≤ MAX_RANGE_BYTES

-- the state wants this range, which can be given, and which is the first of those still to come
pub record IsWantedBy (file_length : ℕ) (w : WalkState) (k : KeptArrays) (state : State) (r : Extent) : Type 0 where
  pub is : wanted_by w k state ≡ Some r
  pub fair : IsFair file_length r
  pub undone : outcome_in state ≡ None
  pub first : (f : List ℕ) (q : Query) → IsBase f file_length w k → StateAgrees f q k state
      → slice_get (come_by f w k q state) 0 ≡ Some r

-- `None`: there is no range, or it ends after the file. `Some`: it is this span, which is in the file and at `place` among those to come.
abbrev pub ComesAt : ℕ → WalkState → KeptArrays → State → ℕ → Option Extent → Option Span → Type 0
ComesAt file_length w k state place range None = IfSome range (λ r. file_length < r.first + r.len)
ComesAt file_length w k state place range (Some span) =
    (range ≡ Some (extent_of_span span)) × (span.last < file_length)
    × ((f : List ℕ) (q : Query) → IsBase f file_length w k → StateAgrees f q k state
    → slice_get (come_by f w k q state) place ≡ Some (extent_of_span span))

-- the same for the range that the state wants next
abbrev pub ComesNext : ℕ → WalkState → KeptArrays → State → Option Span → Type 0
ComesNext file_length w k state span = ComesAt file_length w k state 0 (wanted_by w k state) span

-- the same for the range that the state wants after the next one and `i` more
abbrev pub ComesLater : ℕ → WalkState → KeptArrays → State → ℕ → Option Span → Type 0
ComesLater file_length w k state i span = ComesAt file_length w k state (i + 1) (upcoming_by w k state i) span

-- the step leads from a state to a state with a wanted range, or to an outcome
abbrev pub IsStep : ℕ → WalkState → KeptArrays → Query → State → ReaderStep → Type 0
IsStep file_length w k q old (Read new span) = Becomes file_length w k q old new × IsWantedBy file_length w k new (extent_of_span span)
IsStep file_length w k q old (Answer o) = Becomes file_length w k q old (Answered o)

-- the file has the fault for Info
abbrev pub IsInfoError : List ℕ → WalkError → Type 0
IsInfoError f (File fault) = IsFaulty f query.Info fault
IsInfoError f Memory = ⊤
