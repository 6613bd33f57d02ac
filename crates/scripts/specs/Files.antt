-- Files in memory.
use Rattle.std.specs.Prelude.{◌≡◌, ℕ, if◌then◌else◌, List, Option, Some, None, find}
use Rattle.std.specs.Option.{option_map, option_or}
use Rattle.std.specs.Str.{bytes_eq}
use Rattle.scripts.specs.declared.source.Loaded.{Loaded}

-- what is loaded from a path: of several files with one path the first
abbrev pub file_at : Loaded → List ℕ → Option (List ℕ)
file_at loaded path = option_map (λ file. file.bytes.items) (find (λ file. bytes_eq file.path.items path) loaded.files.items)

-- what was loaded from a path stays; a new file is loaded from its own path, if none was before
abbrev pub IsAdded : Loaded → Loaded → List ℕ → List ℕ → Type 0
IsAdded old new path bytes =
    (at : List ℕ) → file_at new at ≡ option_or (file_at old at) (if bytes_eq path at then Some bytes else None)

-- from each path the same is loaded
abbrev pub HasTheSame : Loaded → Loaded → Type 0
HasTheSame old new = (at : List ℕ) → file_at new at ≡ file_at old at
