-- Why a file of the disk isn't published, and what is remembered of the file.
use Rattle.std.specs.Prelude.{◌≡◌, ◌⊎◌, ◌+◌, ◌-◌, ◌<◌, ℕ, Bool, IfSome, IsSome, List, Option, Some, length, not, take, ⊤}
use Rattle.http_range.specs.declared.publication.TheConstants.{FILE_LIMIT}
use Rattle.cog_server.specs.Server.{IsRefusal, ServerState, refusal_of}
use Rattle.cog_server.specs.declared.error.PublishError.TheVariants.{Memory}
use Rattle.disk_files.specs.declared.stamp.Stamp.{Stamp}
use Rattle.disk_files.specs.declared.watched.WatchError.{WatchError}
use Rattle.disk_files.specs.declared.watched.WatchError.TheVariants.{CantRead, NotAFile, Refused}
use Rattle.disk_files.specs.declared.watched.Watched.{Watched}

-- what the disk reported of the file when it was read last
abbrev pub seen_of : Watched → Option Stamp
seen_of w = w.seen

-- The least number of milliseconds from one comparison of the file's bytes to the next, while the disk reports the same of it. Then the
-- moment of the last comparison.
abbrev pub verify_of : Watched → Option ℕ
verify_of w = w.verify

abbrev pub compared_of : Watched → ℕ
compared_of w = w.compared

-- Whether the file was looked at an odd number of times. Each call of `publish` and of `publish_changed` turns this over, whatever the call
-- returns, and nothing else does.
abbrev pub odd_looks_of : Watched → Bool
odd_looks_of w = w.odd_looks

-- the file was looked at an odd number of times, and so at least once
abbrev pub IsLookedAt : Watched → Watched → Type 0
IsLookedAt old new = odd_looks_of new ≡ not (odd_looks_of old)

-- all of the file stays, but for how often it was looked at
abbrev pub StaysButLooks : Watched → Watched → Type 0
StaysButLooks old new = new ≡ record old { odd_looks = odd_looks_of new }

-- The file isn't read, and all of it stays but for how often it was looked at. Something is remembered of it, and no comparison of its
-- bytes is due at the moment `now`.
abbrev pub IsUnread : ℕ → Watched → Watched → Type 0
IsUnread now old new = IsSome (seen_of old) × IfSome (verify_of old) (λ millis. now - compared_of old < millis) × StaysButLooks old new

-- if the server refuses the file, it does so by its rules for some bytes, or for memory if these rules don't refuse them
abbrev pub IsRefusedBy : ServerState → List ℕ → WatchError → Type 0
IsRefusedBy s name (Refused e) = (file : List ℕ) × IsRefusal (refusal_of s.count s.catalogue name file) e
IsRefusedBy s name why = ⊤

-- the server refuses these bytes by its rules, or for memory if the rules don't refuse them
abbrev pub IsRefusedAs : ServerState → (name file : List ℕ) → WatchError → Type 0
IsRefusedAs s name file (Refused e) = IsRefusal (refusal_of s.count s.catalogue name file) e
IsRefusedAs s name file why = ⊤

-- If the server refuses the file, it does so as it refuses one that is too large. Or it refuses what a file gave that was opened, cut at
-- one byte more than a file may have.
abbrev pub IsRefusedOf : {F : Type 0} (gives : F → Option (List ℕ)) → ServerState → List ℕ → WatchError → Type 0
IsRefusedOf {F} gives s name (Refused e) =
    ((file : List ℕ) × (FILE_LIMIT < length file) × (refusal_of s.count s.catalogue name file ≡ Some e))
    ⊎ ((file : F) × ((whole : List ℕ) → gives file ≡ Some whole → IsRefusedAs s name (take (FILE_LIMIT + 1) whole) (Refused e)))
IsRefusedOf gives s name why = ⊤

-- the disk is the reason: the file can't be read, or the path is no file's
abbrev pub IsOfDisk : WatchError → Type 0
IsOfDisk (CantRead e) = ⊤
IsOfDisk NotAFile = ⊤
IsOfDisk (Refused e) = ⊥

-- the reason may pass, though the file stays as it is: it can't be read, the path is no file's, or memory ran out
abbrev pub MayPass : WatchError → Type 0
MayPass (CantRead e) = ⊤
MayPass NotAFile = ⊤
MayPass (Refused Memory) = ⊤
MayPass (Refused e) = ⊥
