-- Files with their own names, as they are watched, and the fault of two files with one name.
use Rattle.std.specs.Prelude.{◌≡◌, ◌⊎◌, ℕ, List, Option, string_bytes, ⊤}
use Rattle.std.specs.List.{AllZip}
use Rattle.disk_files.specs.Watching.{verify_of}
use Rattle.disk_files.specs.declared.watched.Watched.{Watched}
use Rattle.command_lines.specs.NamedFiles.{AreOfOneName}
use Rattle.command_lines.specs.declared.given_files.NamedFile.{NamedFile}
use Rattle.programs.specs.declared.exit.Exit.{Exit}
use Rattle.programs.specs.declared.exit.Exit.TheVariants.{Memory, OneName}

-- the file under the same name and path; `verify` says after how many milliseconds its bytes are compared again, if ever
abbrev pub IsWatched : (verify : Option ℕ) → NamedFile → Watched → Type 0
IsWatched verify file watched =
    (watched.name.now ≡ string_bytes file.name) × (watched.path.now ≡ file.path.now) × (verify_of watched ≡ verify)

abbrev pub AreWatched : (verify : Option ℕ) → List NamedFile → List Watched → Type 0
AreWatched verify files watched = AllZip (IsWatched verify) files watched

-- the fault names these two files, by the name of the second, or memory ran out
abbrev pub NamesBoth : (first second : NamedFile) → Exit → Type 0
NamesBoth first second (OneName name one other) = (string_bytes name ≡ string_bytes second.name) × (string_bytes one ≡ first.path.now)
    × (string_bytes other ≡ second.path.now)
NamesBoth first second Memory = ⊤
NamesBoth first second fault = ⊥

-- the fault names two of the files that have one name, or memory ran out
abbrev pub NamesTwo : List NamedFile → Exit → Type 0
NamesTwo files fault = (fault ≡ Memory) ⊎ ((first second : NamedFile) × AreOfOneName files first second × NamesBoth first second fault)
