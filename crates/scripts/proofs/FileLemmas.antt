-- Files in memory.
use Rattle.std.proofs.Common.{◌≡◌, ◌∙◌, true, false, cond, List, [], ◌∷◌, ◌++◌, Option, refl, Some, None, ap, sym, find, ℕ}
use Rattle.std.specs.Borrow.{Bor}
use Rattle.std.specs.Option.{option_map, option_or}
use Rattle.std.specs.Str.{bytes_eq}
use Rattle.scripts.specs.declared.source.Loaded.{Loaded}
use Rattle.scripts.specs.declared.source.LoadedFile.{LoadedFile}
use Rattle.scripts.specs.Files.{file_at}

-- the file that is found is the one at the path
pub file_at-found : (loaded : Loaded) (path : List ℕ) (found : Option (Bor LoadedFile)) (file : Bor LoadedFile) (bytes : List ℕ) → option_map (λ file. file.now) found ≡ find (λ file. bytes_eq file.path.items path) loaded.files.items → found ≡ Some file → bytes ≡ file.now.bytes.items → Some bytes ≡ file_at loaded path
file_at-found loaded path found file bytes is one same =
    ap Some same ∙ ap (option_map (λ file. file.bytes.items)) (sym (ap (option_map (λ file. file.now)) one) ∙ is)

pub file_at-none : (loaded : Loaded) (path : List ℕ) (found : Option (Bor LoadedFile)) → option_map (λ file. file.now) found ≡ find (λ file. bytes_eq file.path.items path) loaded.files.items → found ≡ None → None ≡ file_at loaded path
file_at-none loaded path found is none =
    ap (option_map (λ file. file.bytes.items)) (sym (ap (option_map (λ file. file.now)) none) ∙ is)

-- ---- one more file

abbrev found_in : List LoadedFile → List ℕ → Option (List ℕ)
found_in files path = option_map (λ file. file.bytes.items) (find (λ file. bytes_eq file.path.items path) files)

found_in-last : (files : List LoadedFile) (file : LoadedFile) (path : List ℕ) → found_in (files ++ file ∷ []) path ≡ option_or (found_in files path) (cond (bytes_eq file.path.items path) (Some file.bytes.items) None)
found_in-last [] file path =
    elim (bytes_eq file.path.items path) as (λ same. option_map (λ (file : LoadedFile). file.bytes.items) (cond same (Some file) None) ≡ cond same (Some file.bytes.items) None) [ true ↦ refl | false ↦ refl ]
found_in-last (first ∷ files) file path =
    let rest = found_in-last files file path in
    let last = cond (bytes_eq file.path.items path) (Some file.bytes.items) None in
    elim (bytes_eq first.path.items path) as (λ same. option_map (λ (file : LoadedFile). file.bytes.items) (cond same (Some first) (find (λ file. bytes_eq file.path.items path) (files ++ file ∷ []))) ≡ option_or (option_map (λ (file : LoadedFile). file.bytes.items) (cond same (Some first) (find (λ file. bytes_eq file.path.items path) files))) last) [ true ↦ refl | false ↦ rest ]

pub file_at-added : (old new : Loaded) (file : LoadedFile) (name path : List ℕ) → new.files.items ≡ old.files.items ++ file ∷ [] → file.path.items ≡ name → file_at new path ≡ option_or (file_at old path) (cond (bytes_eq name path) (Some file.bytes.items) None)
file_at-added old new file name path more is = rw (more, ← is) (found_in-last old.files.items file path)
