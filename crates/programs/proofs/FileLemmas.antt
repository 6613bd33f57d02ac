-- The files of words.
use Rattle.std.proofs.Common.{◌≡◌, ℕ, zero, suc, ◌+◌, ◌<◌, List, [], ◌∷◌, ◌++◌, length, Option, get_or, take, refl, subst, sym, inl, inr, arith}
use Rattle.std.specs.Borrow.{Bor}
use Rattle.std.proofs.lemmas.List.{take_more}
use Rattle.disk_files.specs.declared.watched.Watched.{Watched}
use Rattle.programs.specs.declared.exit.Exit.{Exit}
use Rattle.programs.specs.declared.exit.Exit.TheVariants.{Memory}
use Rattle.programs.specs.Files.{AreFiles, IsFile, IsNoFile, NamesFile, NamesOneOf}

-- one more word has its file behind those
pub one_more : (verify : Option ℕ) (words : List (Bor (List ℕ))) (files : List Watched) (word : Bor (List ℕ)) (file : Watched)
    → AreFiles verify words files → IsFile verify word.now file → AreFiles verify (words ++ word ∷ []) (files ++ file ∷ [])
one_more verify [] [] word file are is = (is, tt)
one_more verify [] (f ∷ fs) word file are is = absurd are
one_more verify (w ∷ ws) [] word file are is = absurd are
one_more verify (w ∷ ws) (f ∷ fs) word file are is = (are.0, one_more verify ws fs word file are.1 is)

-- so it is with the word at the next place
pub next_file : (verify : Option ℕ) (words : List (Bor (List ℕ))) (k : ℕ) (d : Bor (List ℕ)) (files more : List Watched) (file : Watched) → AreFiles verify (take k words) files
    → k < length words → IsFile verify (get_or words k d).now file → more ≡ files ++ file ∷ [] → AreFiles verify (take (k + 1) words) more
next_file verify words k d files more file are within is longer =
    let P : List Watched → Type 0 = λ m. AreFiles verify (take (k + 1) words) m in
    let Q : List (Bor (List ℕ)) → Type 0 = λ ws. AreFiles verify ws (files ++ file ∷ []) in
    subst P (sym longer) (subst Q (sym (take_more words k d within)) (one_more verify (take k words) files (get_or words k d) file are is))

-- a fault that names the word at this place names one of the words
pub one_of : (words : List (Bor (List ℕ))) (k : ℕ) (d : Bor (List ℕ)) (fault : Exit) → k < length words → IsNoFile (get_or words k d).now
    → NamesFile (get_or words k d).now fault → NamesOneOf words fault
one_of [] k d fault within none names = absurd (omega (arith, within))
one_of (w ∷ ws) zero d fault within none names = inl (none, names)
one_of (w ∷ ws) (suc k) d fault within none names = inr (one_of ws k d fault (omega arith) none names)

-- memory may be wanting for each
pub memory_of : (words : List (Bor (List ℕ))) → NamesOneOf words Memory
memory_of [] = refl
memory_of (w ∷ ws) = inr (memory_of ws)
