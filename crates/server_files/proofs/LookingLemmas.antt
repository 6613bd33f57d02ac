-- Files that are looked at one after another.
use Rattle.std.proofs.Common.{◌≡◌, ◌∙◌, ◌<◌, ◌≤◌, ◌+◌, ◌-◌, ℕ, List, [], ◌∷◌, ◌++◌, ap, arith, drop, length, refl, slice_index_or, slice_set, subst, sym, take}
use Rattle.std.specs.List.{AllZip}
use Rattle.std.specs.Prelude.{Contains}
use Rattle.std.proofs.Math.ListN.{drop_of_length-le}
use Rattle.std.proofs.lemmas.Grind.{drop_more_same}
use Rattle.std.proofs.lemmas.List.{append-nil, append_assoc, drop-set-lt, drop_more, length-drop, take_all, take_more, take_more_set}
use Rattle.std.proofs.lemmas.List.Elements.{all_zip_more}
use Rattle.disk_files.specs.declared.watched.Watched.{Watched}
use Rattle.disk_files.specs.Watching.{IsLookedAt}
use Rattle.server_files.specs.Publishing.{AreLookedAt, names}

-- what is looked at of the files from k on completes what was looked at so far
abbrev pub Completes : (k : ℕ) (first files : List Watched) → Type 0
Completes k first files = (rest : List Watched) → AreLookedAt (drop k first) rest → AreLookedAt first (take k files ++ rest)

-- the names after this one, as they are searched and as they were at first
names_after : (first files : List Watched) (k : ℕ) → drop k files ≡ drop k first
    → names (take (length files - (k + 1)) (drop (k + 1) files)) ≡ names (drop (k + 1) first)
names_after first files k same =
    ap names (take_all (length files - (k + 1)) (drop (k + 1) files) (subst (λ n. n ≤ length files - (k + 1)) (sym (length-drop (k + 1) files)) (omega arith))
    ∙ drop_more_same files first k same)

-- one more file is done, and left as `w`
one_on : (first files after : List Watched) (k : ℕ) (d w : Watched) → k < length files → drop k files ≡ drop k first
    → take (k + 1) after ≡ take k files ++ w ∷ []
    → (Contains (names (drop (k + 1) first)) (slice_index_or files k d).name.now → w ≡ slice_index_or files k d)
    → (¬ Contains (names (drop (k + 1) first)) (slice_index_or files k d).name.now → IsLookedAt (slice_index_or files k d) w)
    → Completes k first files → Completes (k + 1) first after
one_on first files after k d w bound same next kept looked before rest h =
    let f : Watched = slice_index_or files k d in
    let at : drop k first ≡ f ∷ drop (k + 1) first = sym same ∙ drop_more files k d bound ∙ ap (λ r. f ∷ r) (drop_more_same files first k same) in
    let goes : AreLookedAt (drop k first) (w ∷ rest) = subst (λ xs. AreLookedAt xs (w ∷ rest)) (sym at) (kept, looked, h) in
    subst (λ xs. AreLookedAt first xs) (sym (ap (λ xs. xs ++ rest) next ∙ append_assoc (take k files) (w ∷ []) rest)) (before (w ∷ rest) goes)

-- this file is looked at, whose name none after it has
pub looked_then : (first files : List Watched) (k : ℕ) (d w : Watched) → k < length files → drop k files ≡ drop k first
    → (Contains (names (take (length files - (k + 1)) (drop (k + 1) files))) (slice_index_or files k d).name.now → ⊥)
    → IsLookedAt (slice_index_or files k d) w → Completes k first files → Completes (k + 1) first (slice_set files k w)
looked_then first files k d w bound same last looked before =
    one_on first files (slice_set files k w) k d w bound same (take_more_set files k w bound)
    (λ later. absurd (last (subst (λ xs. Contains xs (slice_index_or files k d).name.now) (sym (names_after first files k same)) later)))
    (λ _. looked) before

-- this one is passed over, whose name a later one has
pub passed_on : (first files : List Watched) (k : ℕ) (d : Watched) → k < length files → drop k files ≡ drop k first
    → Contains (names (take (length files - (k + 1)) (drop (k + 1) files))) (slice_index_or files k d).name.now
    → Completes k first files → Completes (k + 1) first files
passed_on first files k d bound same later before =
    one_on first files files k d (slice_index_or files k d) bound same (take_more files k d bound) (λ _. refl)
    (λ none. absurd (none (subst (λ xs. Contains xs (slice_index_or files k d).name.now) (names_after first files k same) later))) before

-- the files after this one are as they were
pub rest_set : (first files : List Watched) (k : ℕ) (w : Watched) → drop k files ≡ drop k first → drop (k + 1) (slice_set files k w) ≡ drop (k + 1) first
rest_set first files k w same = drop-set-lt (k + 1) files k w (omega arith) ∙ drop_more_same files first k same

pub rest_passed : (first files : List Watched) (k : ℕ) → drop k files ≡ drop k first → drop (k + 1) files ≡ drop (k + 1) first
rest_passed first files k same = drop_more_same files first k same

-- where all are passed, each is done
pub all_done : (first files : List Watched) (k : ℕ) → drop k files ≡ drop k first → length files ≤ k → Completes k first files → AreLookedAt first files
all_done first files k same all before =
    let empty : drop k first ≡ [] = sym same ∙ drop_of_length-le files all in
    subst (λ xs. AreLookedAt first xs) (append-nil (take k files) ∙ take_all k files all) (before [] (subst (λ xs. AreLookedAt xs []) (sym empty) tt))

-- ---- each of them

-- the first element, or `a`
abbrev head_or : {A : Type 0} → A → List A → A
head_or a [] = a
head_or a (x ∷ xs) = x

-- as many files are left as were at first
as_many : (first files : List Watched) (k : ℕ) → drop k files ≡ drop k first → length files - k ≡ length first - k
as_many first files k same = sym (length-drop k files) ∙ ap length same ∙ length-drop k first

-- one more of all files is looked at
pub each_looked_then : (first files : List Watched) (k : ℕ) (d w : Watched) → k < length files → drop k files ≡ drop k first
    → AllZip IsLookedAt (take k first) (take k files) → IsLookedAt (slice_index_or files k d) w
    → AllZip IsLookedAt (take (k + 1) first) (take (k + 1) (slice_set files k w))
each_looked_then first files k d w bound same before looked =
    let f : Watched = slice_index_or files k d in
    let left = as_many first files k same in
    let within : k < length first = omega (arith, bound, left) in
    let was : f ≡ slice_index_or first k f = ap (head_or f) (sym (drop_more files k d bound) ∙ same ∙ drop_more first k f within) in
    subst (λ xs. AllZip IsLookedAt (take (k + 1) first) xs) (sym (take_more_set files k w bound))
    (all_zip_more IsLookedAt first (take k files) k f w within was before looked)

-- where all are passed, each is
pub each_looked : (first files : List Watched) (k : ℕ) → drop k files ≡ drop k first → length files ≤ k
    → AllZip IsLookedAt (take k first) (take k files) → AllZip IsLookedAt first files
each_looked first files k same all looked =
    let left = as_many first files k same in
    let few : length first ≤ k = omega (arith, all, left) in
    subst (λ xs. AllZip IsLookedAt xs files) (take_all k first few) (subst (λ xs. AllZip IsLookedAt (take k first) xs) (take_all k files all) looked)
