-- What a server has after files of the disk were published.
use Rattle.std.specs.Prelude.{◌≡◌, ◌≢◌, ◌⊎◌, ℕ, List, [], ◌∷◌, map, All, Any, Bool, Contains, IsSome, Option, false, ⊤}
use Rattle.http_range.specs.Book.{published}
use Rattle.cog_server.specs.Server.{ServerState}
use Rattle.disk_files.specs.declared.watched.Watched.{Watched}
use Rattle.disk_files.specs.Published.{HasOther, IsOfFile, IsPublished}
use Rattle.disk_files.specs.Watching.{IsLookedAt, verify_of}
use Rattle.server_files.specs.declared.error.ServeFilesError.{ServeFilesError}
use Rattle.server_files.specs.declared.error.ServeFilesError.TheVariants.{CantWrite, NotPublished}

-- the names of the files
abbrev pub names : List Watched → List (List ℕ)
names files = map (λ f. f.name.now) files

-- what the command line says of each file: its name, its path, and when its bytes are compared
abbrev pub settings : List Watched → List (List ℕ × List ℕ × Option ℕ)
settings files = map (λ f. (f.name.now, f.path.now, verify_of f)) files

-- the server has a file under this name
abbrev pub IsServed : ServerState → List ℕ → Type 0
IsServed s name = IsSome (published name s.catalogue)

-- What a file gave that was opened was published under the name, with the next ETag of the epoch. Nothing else changed. `gives` says
-- which bytes a file gives, if they are known.
abbrev pub IsPublishedOf : {F : Type 0} (gives : F → Option (List ℕ)) → List ℕ → ServerState → ServerState → Type 0
IsPublishedOf gives name s t = ((tag : List ℕ) × IsPublished name s t tag) × IsOfFile gives name t

-- This was done for each of the names, in their order, once each, and nothing else changed.
abbrev pub ArePublished : {F : Type 0} (gives : F → Option (List ℕ)) → List (List ℕ) → ServerState → ServerState → Type 0
ArePublished gives [] s t = t ≡ s
ArePublished gives (name ∷ names) s t = (mid : ServerState) × IsPublishedOf gives name s mid × ArePublished gives names mid t

-- Nothing changed, or what an open file gave was published under the name, and it is other bytes than before.
abbrev pub MayBePublished : {F : Type 0} (gives : F → Option (List ℕ)) → List ℕ → ServerState → ServerState → Type 0
MayBePublished gives name s t = (t ≡ s) ⊎ (IsPublishedOf gives name s t × HasOther name s t)

-- This is so for each of the names, in their order, and nothing else changed. Of several equal names it is so only for the last.
abbrev pub ArePublishedAnew : {F : Type 0} (gives : F → Option (List ℕ)) → List (List ℕ) → ServerState → ServerState → Type 0
ArePublishedAnew gives [] s t = t ≡ s
ArePublishedAnew gives (name ∷ names) s t =
    (mid : ServerState) × MayBePublished gives name s mid × (Contains names name → mid ≡ s) × ArePublishedAnew gives names mid t

-- This was done as often as the files were looked at, once after the other.
pub data ArePublishedAgain {F : Type 0} (gives : F → Option (List ℕ)) (names : List (List ℕ)) (s : ServerState) : ServerState → Type 0 where
  never : ArePublishedAgain gives names s s
  again : (t u : ServerState) → ArePublishedAgain gives names s t → ArePublishedAnew gives names t u → ArePublishedAgain gives names s u

-- Each file was looked at, an odd number of times. But of several files of one name only the last was, and the others stay as they are.
abbrev pub AreLookedAt : (old new : List Watched) → Type 0
AreLookedAt [] [] = ⊤
AreLookedAt (f ∷ old) (g ∷ new) = (Contains (names old) f.name.now → g ≡ f) × (¬ Contains (names old) f.name.now → IsLookedAt f g) × AreLookedAt old new
AreLookedAt old new = ⊥

-- under each other name the server has what it had
abbrev pub KeepsOthers : List ℕ → ServerState → ServerState → Type 0
KeepsOthers name old new = (other : List ℕ) → other ≢ name → published other new.catalogue ≡ published other old.catalogue

-- under each name that is none of these the server has what it had
abbrev pub KeepsOthersThan : List (List ℕ) → ServerState → ServerState → Type 0
KeepsOthersThan names old new =
    (other : List ℕ) → All (λ name. other ≢ name) names → published other new.catalogue ≡ published other old.catalogue

-- The error is of this file, with its name and its path. Or its line wasn't written, and no log is kept.
abbrev pub IsOfOne : (is_kept : Bool) → Watched → ServeFilesError → Type 0
IsOfOne is_kept f (NotPublished file) = (file.name.now ≡ f.name.now) × (file.path.now ≡ f.path.now)
IsOfOne is_kept f (CantWrite error) = is_kept ≡ false
IsOfOne is_kept f why = ⊥

-- the error is of one of these files
abbrev pub IsOfFiles : (is_kept : Bool) → List Watched → ServeFilesError → Type 0
IsOfFiles is_kept files why = Any (λ f. IsOfOne is_kept f why) files
