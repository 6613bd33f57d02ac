-- What a server has after a file of the disk was published.
use Rattle.std.specs.Prelude.{◌≡◌, ℕ, ◌+◌, ◌≤◌, List, Option, Some, length}
use Rattle.std.specs.Option.{option_map}
use Rattle.http_range.specs.Book.{publish, published, publication_tag}
use Rattle.http_range.specs.declared.publication.TheConstants.{FILE_LIMIT}
use Rattle.cog_server.specs.Server.{ServerState}

-- some bytes were published under a name with the next ETag of the epoch, and nothing else changed
abbrev pub IsPublished : (name : List ℕ) (s t : ServerState) (tag : List ℕ) → Type 0
IsPublished name s t tag = (file : List ℕ)
    × (tag ≡ publication_tag s.epoch (s.count + 1))
    × (t ≡ record {
      epoch = s.epoch;
      count = s.count + 1;
      catalogue = publish (record { name = name; tag = tag; file = file }) s.catalogue;
    })

-- these bytes were published last under a name
abbrev pub IsFileOf : (name file : List ℕ) → ServerState → Type 0
IsFileOf name file s = option_map (λ p. p.file) (published name s.catalogue) ≡ Some file

-- What was published last under a name is what a file gave that was opened. If it is known which bytes this file gives, and a file may
-- have as many, it is these.
abbrev pub IsOfFile : {F : Type 0} (gives : F → Option (List ℕ)) (name : List ℕ) → ServerState → Type 0
IsOfFile {F} gives name s = (file : F) × ((whole : List ℕ) → gives file ≡ Some whole → length whole ≤ FILE_LIMIT → IsFileOf name whole s)

-- the bytes under a name are others than before, if there were any
abbrev pub HasOther : (name : List ℕ) (s t : ServerState) → Type 0
HasOther name s t = (file : List ℕ) → IsFileOf name file s → ¬ (IsFileOf name file t)
