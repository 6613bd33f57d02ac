-- Files, one after another.
use Rattle.std.proofs.Common.{◌≡◌, ℕ, ◌+◌, ◌<◌, List, [], ◌∷◌, ◌++◌, length, get_or, take, subst, sym}
use Rattle.std.specs.List.{AllZip}
use Rattle.std.proofs.lemmas.List.{take_more}

-- one more pair behind those
pub zip_more : {X Y : Type 0} (R : X → Y → Type 0) (xs : List X) (ys : List Y) (x : X) (y : Y) → AllZip R xs ys → R x y → AllZip R (xs ++ x ∷ []) (ys ++ y ∷ [])
zip_more R [] [] x y are is = (is, tt)
zip_more R [] (b ∷ ys) x y are is = absurd are
zip_more R (a ∷ xs) [] x y are is = absurd are
zip_more R (a ∷ xs) (b ∷ ys) x y are is = (are.0, zip_more R xs ys x y are.1 is)

-- so it is with what stands at the next place
pub zip_next : {X Y : Type 0} (R : X → Y → Type 0) (xs : List X) (k : ℕ) (d : X) (ys more : List Y) (y : Y) → AllZip R (take k xs) ys
    → k < length xs → R (get_or xs k d) y → more ≡ ys ++ y ∷ [] → AllZip R (take (k + 1) xs) more
zip_next {X} {Y} R xs k d ys more y are within is longer =
    let P : List Y → Type 0 = λ m. AllZip R (take (k + 1) xs) m in
    let Q : List X → Type 0 = λ ws. AllZip R ws (ys ++ y ∷ []) in
    subst P (sym longer) (subst Q (sym (take_more xs k d within)) (zip_more R (take k xs) ys (get_or xs k d) y are is))
