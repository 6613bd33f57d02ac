-- What a reader does with the bytes of a range that it is given.
use Rattle.std.specs.Prelude.{◌≡◌, ℕ, ◌+◌, ◌<◌, ◌≤◌, ◌⊎◌, List, [], ◌∷◌, Option, Some, None, IsSome, IsSomeAnd}
use Rattle.tiff_dir.specs.declared.query.Query.{Query}
use Rattle.tiff_dir.specs.declared.fault.FileFault.{FileFault}
use Rattle.tiff_dir.specs.Fault.{IsFaultOfDirectories}
use Rattle.tiff_dir.specs.Faulty.{IsFaulty}
use Rattle.tiff_dir.specs.WalkState.{WalkState}
use Rattle.extents.specs.Extent.{Extent, bytes_in}
use Rattle.tiff_dir.specs.Needs.{IsEndOf}
use Rattle.tiff_dir.specs.Walk as walk
use Rattle.cog_reader.specs.declared.kept_arrays.KeptArrays.{KeptArrays}
use Rattle.cog_reader.specs.declared.state.State.{State}
use Rattle.cog_reader.specs.KeptArrays.{IsKeptOf}
use Rattle.cog_reader.specs.Reader.{come_by, outcome_in, steps_by, unread_by, wanted_by, AreOfOneLevel, IsState, StateAgrees}
use Rattle.cog_reader.specs.ReaderStep.{IsBase}
use Rattle.tile_plan.specs.TileCache.{KeptTiles, AreTilesOf}

-- the bytes bring a walk on, after which one range less is to come
pub record AcceptsDirectoryRange (bytes : List ℕ) (old new : WalkState) : Type 0 where
  pub agrees : (f : List ℕ) → walk.WalkAgrees old f → walk.IsWantedOf f old bytes → walk.WalkAgrees new f
  pub come : (f : List ℕ) → walk.WalkAgrees old f → IsSomeAnd (walk.wanted old) (λ r. walk.to_come old f ≡ r ∷ walk.to_come new f)
  pub given : walk.given_of new ≡ walk.given_of old + 1
  pub few : walk.given_of old ≤ 64

-- the bytes bring a walk on, or they show a fault of the directories and leave the walk as it was
abbrev pub AcceptsDirectories : List ℕ → WalkState → WalkState → Option FileFault → Type 0
AcceptsDirectories bytes old new None = AcceptsDirectoryRange bytes old new
AcceptsDirectories bytes old new (Some fault) =
    (new ≡ old)
    × ((f : List ℕ) → walk.WalkAgrees old f → walk.IsWantedOf f old bytes → IsFaultOfDirectories f fault)

-- a walk, the arrays and the tiles that are kept, and the state of the query
pub record Snapshot : Type 0 where
  pub walk : WalkState
  pub kept : KeptArrays
  pub tiles : KeptTiles
  pub state : State

-- the range that is wanted next, and all that are still to come
abbrev pub wanted_in : Snapshot → Option Extent
wanted_in s = wanted_by s.walk s.kept s.state

abbrev pub come_in : List ℕ → Query → Snapshot → List Extent
come_in f q s = come_by f s.walk s.kept q s.state

-- what a query needs, except for what is held
abbrev pub unread_in : List ℕ → Query → Snapshot → List Extent
unread_in f q s = unread_by f s.walk s.kept q

-- each query of the level that is read needs an end of what it needed before
abbrev pub KeepsHeld : List ℕ → Query → Snapshot → Snapshot → Type 0
KeepsHeld f asked old new = (q : Query) → AreOfOneLevel f asked q → IsEndOf (unread_in f q new) (unread_in f q old)

-- the bytes are those of the file that are wanted
abbrev pub AreWantedBytes : List ℕ → Snapshot → List ℕ → Type 0
AreWantedBytes f s bytes = IsSomeAnd (wanted_in s) (λ r. bytes ≡ bytes_in f r)

-- The bytes bring one state to another, which wants one range less.
pub record Advances (file_length : ℕ) (bytes : List ℕ) (old new : Snapshot) : Type 0 where
  pub kept : IsKeptOf new.walk new.kept
  pub state : IsState file_length new.walk new.kept new.state
  pub same : (f : List ℕ) (q : Query) → IsBase f file_length old.walk old.kept → StateAgrees f q old.kept old.state → AreWantedBytes f old bytes
      → AreTilesOf f old.tiles → IsBase f file_length new.walk new.kept × StateAgrees f q new.kept new.state × AreTilesOf f new.tiles
  pub come : (f : List ℕ) (q : Query) → IsBase f file_length old.walk old.kept → StateAgrees f q old.kept old.state
      → IsSomeAnd (wanted_in old) (λ r. come_in f q old ≡ r ∷ come_in f q new)
  pub held : (f : List ℕ) (q : Query) → IsBase f file_length old.walk old.kept → StateAgrees f q old.kept old.state → KeepsHeld f q old new
  pub most : new.tiles.most ≡ old.tiles.most
  pub steps : steps_by new.walk new.kept new.state < steps_by old.walk old.kept old.state

-- the bytes show a fault, which the file has for the query; the walk and the arrays are as they were
pub record TellsFault (file_length : ℕ) (bytes : List ℕ) (old new : Snapshot) (fault : FileFault) : Type 0 where
  pub walk : new.walk ≡ old.walk
  pub kept : new.kept ≡ old.kept
  pub stands : (f : List ℕ) (q : Query) → IsBase f file_length old.walk old.kept → StateAgrees f q old.kept old.state
      → AreWantedBytes f old bytes → IsFaulty f q fault
  pub tiles : (f : List ℕ) (q : Query) → IsBase f file_length old.walk old.kept → StateAgrees f q old.kept old.state
      → AreWantedBytes f old bytes → AreTilesOf f old.tiles → AreTilesOf f new.tiles
  pub most : new.tiles.most ≡ old.tiles.most

abbrev pub AcceptsRange : ℕ → List ℕ → Snapshot → Snapshot → Option FileFault → Type 0
AcceptsRange file_length bytes old new None = Advances file_length bytes old new
AcceptsRange file_length bytes old new (Some fault) = TellsFault file_length bytes old new fault

-- The wanted bytes bring a query from one state to another. One range less is to come, or none if the query is answered.
pub record Gives (file_length : ℕ) (bytes : List ℕ) (q : Query) (old new : Snapshot) : Type 0 where
  pub kept : IsKeptOf new.walk new.kept
  pub state : IsState file_length new.walk new.kept new.state
  pub same : (f : List ℕ) → IsBase f file_length old.walk old.kept → StateAgrees f q old.kept old.state → AreWantedBytes f old bytes
      → AreTilesOf f old.tiles → IsBase f file_length new.walk new.kept × StateAgrees f q new.kept new.state × AreTilesOf f new.tiles
  pub come : (f : List ℕ) → IsBase f file_length old.walk old.kept → StateAgrees f q old.kept old.state
      → (IsSome (outcome_in new.state) × (come_in f q new ≡ []))
      ⊎ IsSomeAnd (wanted_in old) (λ r. come_in f q old ≡ r ∷ come_in f q new)
  pub held : (f : List ℕ) → IsBase f file_length old.walk old.kept → StateAgrees f q old.kept old.state → KeepsHeld f q old new
  pub most : new.tiles.most ≡ old.tiles.most
  pub steps : steps_by new.walk new.kept new.state < steps_by old.walk old.kept old.state
