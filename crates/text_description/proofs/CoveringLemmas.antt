-- What holds inside a level that is there.
use Rattle.std.proofs.Common.{◌≡◌, ℕ, zero, suc, List, [], ◌∷◌, length, Bor, Option, None, Some, option_copied, Result, Ok, Err, refl, subst, sym}
use Rattle.std.specs.Slice.{IsItemAt}
use Rattle.std.proofs.lemmas.Option.{slice_get_past, slice_get_read}
use Rattle.std.specs.Prelude.{slice_get, IfOk, IfSome}
use Rattle.tiff_dir.specs.declared.query.Query.{Query}
use Rattle.text_description.specs.Covering.{IsInside}

-- what is lent of a list is its item
pub item_copied : {X : Type 0} (items : List X) (place : ℕ) (r : Option (Bor X)) → IsItemAt items place r → option_copied r ≡ slice_get items place
item_copied items place None is = sym (slice_get_past items place is.3)
item_copied items place (Some x) is = sym (slice_get_read items (length items) place x.now refl is.3.0 is.1)

-- where a list has an item, it has a first one
first_there : {A : Type 0} (items : List A) (place : ℕ) (P : A → Type 0) → IfSome (slice_get items 0) (λ _. IfSome (slice_get items place) P) → IfSome (slice_get items place) P
first_there [] zero P if = tt
first_there [] (suc place) P if = tt
first_there (item ∷ items) place P if = if

-- a window that is inside a level where there is a first one
pub inside_of : {E : Type 0} (r : Result Query E) (items : List (ℕ × ℕ)) (level : ℕ) (whole sides : Option (ℕ × ℕ)) → whole ≡ slice_get items 0 → sides ≡ slice_get items level
    → IfOk r (λ q. IfSome whole (λ _. IfSome sides (λ s. IsInside s q))) → IfOk r (λ q. IfSome (slice_get items level) (λ s. IsInside s q))
inside_of (Ok q) items level whole sides first there inside =
    let in_first = subst (λ (o : Option (ℕ × ℕ)). IfSome o (λ _. IfSome sides (λ s. IsInside s q))) first inside in
    first_there items level (λ s. IsInside s q) (subst (λ (o : Option (ℕ × ℕ)). IfSome (slice_get items 0) (λ _. IfSome o (λ s. IsInside s q))) there in_first)
inside_of (Err e) items level whole sides first there inside = tt
