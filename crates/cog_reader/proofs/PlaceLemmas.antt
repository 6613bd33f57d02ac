-- The places that are there, counted from any of the six on.
use Rattle.std.proofs.Common.{◌≡◌, ◌<◌, ◌+◌, ◌-◌, ℕ, zero, suc, ◌∷◌, true, false, List, drop, length, Option, Some, None, refl, sym, ap, ◌∙◌, arith, slice_index_or}
use Rattle.std.specs.Prelude.{slice_get}
use Rattle.std.specs.Option.{is_some}
use Rattle.std.specs.List.{filter_map}
use Rattle.std.proofs.lemmas.List.{drop_more}
use Rattle.tiff_dir.specs.declared.level.Place.{Place}

abbrev pub there : List (Option Place) → List Place
there items = filter_map (λ o. o) items

here : (o : Option Place) (rest : List (Option Place)) → is_some o ≡ true → o ≡ slice_get (there (o ∷ rest)) 0
here None rest is = cc
here (Some p) rest is = refl

behind : (o : Option Place) (rest : List (Option Place)) (n : ℕ) → is_some o ≡ true → 0 < n → slice_get (there rest) (n - 1) ≡ slice_get (there (o ∷ rest)) n
behind None rest n is some = cc
behind (Some p) rest zero is some = absurd (omega (arith, some))
behind (Some p) rest (suc k) is some = (let one : suc k - 1 ≡ k = omega (arith) in ap (λ m. slice_get (there rest) m) one)

missing : (o : Option Place) (rest : List (Option Place)) (n : ℕ) → is_some o ≡ false → slice_get (there rest) n ≡ slice_get (there (o ∷ rest)) n
missing None rest n is = refl
missing (Some p) rest n is = cc

-- the place here is the first of those that are there from here on
pub first_there : (items : List (Option Place)) (i n : ℕ) → i < length items → is_some (slice_index_or items i None) ≡ true → n ≡ 0 → slice_index_or items i None ≡ slice_get (there (drop i items)) n
first_there items i n in_items is none =
    here (slice_index_or items i None) (drop (i + 1) items) is ∙ ap (λ k. slice_get (there (slice_index_or items i None ∷ drop (i + 1) items)) k) (sym none)
    ∙ ap (λ l. slice_get (there l) n) (sym (drop_more items i None in_items))

pub next_there : (items : List (Option Place)) (i n : ℕ) → i < length items → is_some (slice_index_or items i None) ≡ true → 0 < n → slice_get (there (drop (i + 1) items)) (n - 1) ≡ slice_get (there (drop i items)) n
next_there items i n in_items is some = behind (slice_index_or items i None) (drop (i + 1) items) n is some ∙ ap (λ l. slice_get (there l) n) (sym (drop_more items i None in_items))

pub absent_there : (items : List (Option Place)) (i n : ℕ) → i < length items → is_some (slice_index_or items i None) ≡ false → slice_get (there (drop (i + 1) items)) n ≡ slice_get (there (drop i items)) n
absent_there items i n in_items is = missing (slice_index_or items i None) (drop (i + 1) items) n is ∙ ap (λ l. slice_get (there l) n) (sym (drop_more items i None in_items))
