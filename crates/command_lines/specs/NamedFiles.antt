-- Files that words give with a name or without one, and their names.
use Rattle.std.specs.Prelude.{◌≡◌, ◌==◌, ◌<◌, ◌≤◌, ℕ, List, length, slice_index_or, string_bytes, take}
use Rattle.std.specs.Borrow.{Bor}
use Rattle.std.specs.List.{AllZip, after_first, before_first, position_or_len}
use Rattle.command_lines.specs.FileName.{name_of_path}
use Rattle.command_lines.specs.declared.given_files.NamedFile.{NamedFile}

-- A word with a `=` (61) has the name before its first one and the path after it. A word without one is the path, and the name is made
-- from it.
pub record IsNamedFile (word : List ℕ) (file : NamedFile) : Type 0 where
  pub named : position_or_len (λ b. b == 61) word < length word
      → (string_bytes file.name ≡ before_first (λ b. b == 61) word) × (file.path.now ≡ after_first (λ b. b == 61) word)
  pub alone : length word ≤ position_or_len (λ b. b == 61) word → (string_bytes file.name ≡ name_of_path word) × (file.path.now ≡ word)

-- these are the files of the words, one for each, in their order
abbrev pub AreNamedFiles : List (Bor (List ℕ)) → List NamedFile → Type 0
AreNamedFiles words files = AllZip (λ (word : Bor (List ℕ)) file. IsNamedFile word.now file) words files

-- the file has this name
abbrev pub HasName : (name : List ℕ) → NamedFile → Type 0
HasName name file = string_bytes file.name ≡ name

-- none of the files has this name
abbrev pub HaveOtherNames : (name : List ℕ) → List NamedFile → Type 0
HaveOtherNames name files = (k : ℕ) (d : NamedFile) → k < length files → ¬ HasName name (slice_index_or files k d)

-- the file is one of these, and has this name
abbrev pub IsOfName : (name : List ℕ) → List NamedFile → NamedFile → Type 0
IsOfName name files file = HasName name file × ((k : ℕ) × (k < length files) × (slice_index_or files k file ≡ file))

-- no file has the name of an earlier one
abbrev pub HaveOwnNames : List NamedFile → Type 0
HaveOwnNames files = (k : ℕ) (d : NamedFile) → k < length files → HaveOtherNames (string_bytes (slice_index_or files k d).name) (take k files)

-- `second` is a file with the name of an earlier one, which is `first`
abbrev pub AreOfOneName : List NamedFile → (first second : NamedFile) → Type 0
AreOfOneName files first second = (k : ℕ) × (k < length files) × (slice_index_or files k second ≡ second) × IsOfName (string_bytes second.name) (take k files) first
