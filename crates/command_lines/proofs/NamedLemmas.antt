-- Files with names, one after another.
use Rattle.std.proofs.Common.{◌≡◌, ◌∙◌, ℕ, zero, suc, ◌+◌, ◌<◌, ◌≤◌, ◌⊎◌, List, [], ◌∷◌, ◌++◌, length, get_or, take, ap, subst, sym, inl, inr, arith}
use Rattle.std.specs.Prelude.{string_bytes}
use Rattle.std.specs.List.{AllZip}
use Rattle.std.proofs.lemmas.List.{get_or_default, take_more}
use Rattle.std.proofs.Math.Nat.{eq-or-lt_of_le}
use Rattle.command_lines.specs.NamedFiles.{HasName, HaveOtherNames}
use Rattle.command_lines.specs.declared.given_files.NamedFile.{NamedFile}

-- one more pair behind those
pub zip_more : {X Y : Type 0} (R : X → Y → Type 0) (xs : List X) (ys : List Y) (x : X) (y : Y) → AllZip R xs ys → R x y → AllZip R (xs ++ x ∷ []) (ys ++ y ∷ [])
zip_more R [] [] x y are is = (is, tt)
zip_more R [] (b ∷ ys) x y are is = absurd are
zip_more R (a ∷ xs) [] x y are is = absurd are
zip_more R (a ∷ xs) (b ∷ ys) x y are is = (are.0, zip_more R xs ys x y are.1 is)

-- so it is with what stands at the next place
pub zip_next : {X Y : Type 0} (R : X → Y → Type 0) (xs : List X) (k : ℕ) (d : X) (ys more : List Y) (y : Y) → AllZip R (take k xs) ys
    → k < length xs → R (get_or xs k d) y → more ≡ ys ++ y ∷ [] → AllZip R (take (k + 1) xs) more
zip_next {X} {Y} R xs k d ys more y are within is longer =
    let P : List Y → Type 0 = λ m. AllZip R (take (k + 1) xs) m in
    let Q : List X → Type 0 = λ ws. AllZip R ws (ys ++ y ∷ []) in
    subst P (sym longer) (subst Q (sym (take_more xs k d within)) (zip_more R (take k xs) ys (get_or xs k d) y are is))

-- no file up to this one has the name, where none before it has, nor has this one
pub none_so_far : (name : List ℕ) (files : List NamedFile) (n : ℕ) (x : NamedFile) → n < length files → get_or files n x ≡ x
    → ¬ HasName name x → ((k : ℕ) (d : NamedFile) → k < n → ¬ HasName name (get_or files k d))
    → (k : ℕ) (d : NamedFile) → k < n + 1 → ¬ HasName name (get_or files k d)
none_so_far name files n x within is other before k d low has =
    let most : k ≤ n = omega arith in
    elim (eq-or-lt_of_le most) [
      | inl same ↦ other (subst (HasName name) (get_or_default files n d x within ∙ is) (subst (λ j. HasName name (get_or files j d)) same has))
      | inr less ↦ before k d less has
    ]

-- each file up to this one has a name that no earlier one has, where those before it have, and it has
pub own_so_far : (files : List NamedFile) (n : ℕ) (x : NamedFile) → n < length files → get_or files n x ≡ x
    → HaveOtherNames (string_bytes x.name) (take n files)
    → ((k : ℕ) (d : NamedFile) → k < n → HaveOtherNames (string_bytes (get_or files k d).name) (take k files))
    → (k : ℕ) (d : NamedFile) → k < n + 1 → HaveOtherNames (string_bytes (get_or files k d).name) (take k files)
own_so_far files n x within is own before k d low =
    let most : k ≤ n = omega arith in
    let P : ℕ → Type 0 = λ j. HaveOtherNames (string_bytes (get_or files j d).name) (take j files) in
    elim (eq-or-lt_of_le most) [
      | inl same ↦ subst P (sym same) (subst (λ (f : NamedFile). HaveOtherNames (string_bytes f.name) (take n files)) (sym (get_or_default files n d x within ∙ is)) own)
      | inr less ↦ before k d less
    ]
