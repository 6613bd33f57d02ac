-- The facts of levels.
use Rattle.std.proofs.Common.{◌≡◌, ℕ, ◌+◌, ◌<◌, List, [], ◌∷◌, ◌++◌, length, get_or, take, subst, sym}
use Rattle.std.proofs.lemmas.List.{take_more}
use Rattle.std.specs.List.{AllZip}
use Rattle.cog_client.specs.Client.{ClientState}
use Rattle.tiff_dir.specs.declared.level.Level.{Level}
use Rattle.text_description.specs.declared.facts.LevelFacts.{LevelFacts}
use Rattle.text_description.specs.Description.{IsFactsBy}

-- one more level has its facts behind those
one_more : {A B : Type 0} (R : A → B → Type 0) (xs : List A) (ys : List B) (x : A) (y : B) → AllZip R xs ys → R x y → AllZip R (xs ++ x ∷ []) (ys ++ y ∷ [])
one_more R [] [] x y are is = (is, tt)
one_more R [] (b ∷ ys) x y are is = absurd are
one_more R (a ∷ xs) [] x y are is = absurd are
one_more R (a ∷ xs) (b ∷ ys) x y are is = (are.0, one_more R xs ys x y are.1 is)

-- so it is with the level at the next place
pub next_one : (c : ClientState) (levels : List Level) (k : ℕ) (level : Level) (facts more : List LevelFacts) (fact : LevelFacts)
    → AllZip (IsFactsBy c) (take k levels) facts → k < length levels → level ≡ get_or levels k level → IsFactsBy c level fact → more ≡ facts ++ fact ∷ []
    → AllZip (IsFactsBy c) (take (k + 1) levels) more
next_one c levels k level facts more fact are within at is longer =
    let P : List LevelFacts → Type 0 = λ m. AllZip (IsFactsBy c) (take (k + 1) levels) m in
    let Q : List Level → Type 0 = λ ls. AllZip (IsFactsBy c) ls (facts ++ fact ∷ []) in
    let R : Level → Type 0 = λ l. AllZip (IsFactsBy c) (take k levels ++ l ∷ []) (facts ++ fact ∷ []) in
    subst P (sym longer) (subst Q (sym (take_more levels k level within)) (subst R at (one_more (IsFactsBy c) (take k levels) facts level fact are is)))
