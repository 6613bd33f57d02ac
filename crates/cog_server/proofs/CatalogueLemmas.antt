-- Files on a shelf, and the catalogue that they are.
use Rattle.std.proofs.Common.{◌≡◌, ℕ, zero, suc, ◌+◌, ◌-◌, ◌<◌, ◌≤◌, ◌||◌, Bool, true, false, not, cond, List, [], ◌∷◌, ◌++◌, length, map, Option, Some, None, refl, sym, ap, ◌∙◌, arith, inl, inr}
use Rattle.std.specs.Prelude.{slice_set, is_none, is_some, IfSome}
use Rattle.std.proofs.Common.{Bor}
use Rattle.std.specs.Option.{option_map, option_map_or, option_copied}
use Rattle.std.specs.List.{list_any, find, position, position_from}
use Rattle.std.specs.Str.{bytes_eq}
use Rattle.std.proofs.lemmas.Bool.{cases_Bool}
use Rattle.std.proofs.lemmas.Option.{same_Some, none-some}
use Rattle.std.proofs.lemmas.List.{length-map}
use Rattle.std.proofs.lemmas.Iterator.Adapters.{position_from-zero}
use Rattle.http_range.specs.Book.{Publication, Catalogue, published, publish}
use Rattle.cog_server.specs.declared.published.Published.{Published}
use Rattle.cog_server.specs.Catalogue.{publication, put_at}
use Rattle.cog_server.specs.Status.{Status, is_outdated}

abbrev pub is_named : List ℕ → Publication → Bool
is_named name p = bytes_eq p.name name

-- the places are counted from n
place_bound : (name : List ℕ) (n i : ℕ) (xs : Catalogue) → position_from (is_named name) n xs ≡ Some i → (n ≤ i) × (i < n + length xs)
place_bound name n i [] e = absurd (none-some i e)
place_bound name n i (x ∷ xs) e =
    elim (cases_Bool (is_named name x)) [
      | inl same ↦ (let at : n ≡ i = same_Some _ _ (rw same at e) in (omega arith, omega arith))
      | inr other ↦ (let rest = place_bound name (n + 1) i xs (rw other at e) in (omega (arith, rest.0), omega (arith, rest.1)))
    ]

put_from : ℕ → Option ℕ → Publication → Catalogue → Catalogue
put_from n None p xs = xs ++ p ∷ []
put_from n (Some i) p xs = slice_set xs (i - n) p

put_next : (n : ℕ) (o : Option ℕ) (p x : Publication) (xs : Catalogue) → IfSome o (λ i. n + 1 ≤ i) → put_from n o p (x ∷ xs) ≡ x ∷ put_from (n + 1) o p xs
unfolding put_from
put_next n None p x xs h = refl
put_next n (Some i) p x xs h = let e : i - n ≡ suc (i - (n + 1)) = omega arith in ap (λ (k : ℕ). slice_set (x ∷ xs) k p) e

later : (name : List ℕ) (n : ℕ) (xs : Catalogue) (o : Option ℕ) → position_from (is_named name) n xs ≡ o → IfSome o (λ i. n ≤ i)
later name n xs None e = tt
later name n xs (Some i) e = (place_bound name n i xs e).0

put_is : (p : Publication) (n : ℕ) (xs : Catalogue) → put_from n (position_from (is_named p.name) n xs) p xs ≡ publish p xs
unfolding put_from
put_is p n [] = refl
put_is p n (x ∷ xs) =
    elim (cases_Bool (is_named p.name x)) [
      | inl same ↦ (let e : n - n ≡ 0 = omega arith in rw (same, e) refl)
      | inr other ↦ rw other (put_next n (position_from (is_named p.name) (n + 1) xs) p x xs (later p.name (n + 1) xs _ refl) ∙ ap (λ ys. x ∷ ys) (put_is p (n + 1) xs))
    ]

put_at_from : (o : Option ℕ) (p : Publication) (xs : Catalogue) → put_at o p xs ≡ put_from 0 o p xs
unfolding put_from
put_at_from None p xs = refl
put_at_from (Some i) p xs = let e : i - 0 ≡ i = omega arith in sym (ap (λ (k : ℕ). slice_set xs k p) e)

place_map : (name : List ℕ) (n : ℕ) (files : List Published) → position_from (is_named name) n (map publication files) ≡ position_from (λ file. bytes_eq file.name.items name) n files
place_map name n [] = refl
place_map name n (x ∷ xs) = ap (λ (o : Option ℕ). cond (bytes_eq x.name.items name) (Some n) o) (place_map name (n + 1) xs)

place_is : (name : List ℕ) (files : List Published) → position (λ file. bytes_eq file.name.items name) files ≡ position_from (is_named name) 0 (map publication files)
place_is name files = position_from-zero (λ (file : Published). bytes_eq file.name.items name) files ∙ sym (place_map name 0 files)

-- what is stored at the place of its name is published
pub stored : (p : Publication) (files : List Published) (o : Option ℕ) → o ≡ position (λ file. bytes_eq file.name.items p.name) files → put_at o p (map publication files) ≡ publish p (map publication files)
stored p files o is =
    put_at_from o p (map publication files) ∙ ap (λ (q : Option ℕ). put_from 0 q p (map publication files)) (is ∙ place_is p.name files) ∙ put_is p 0 (map publication files)

pub place_inside : (name : List ℕ) (files : List Published) (o : Option ℕ) → o ≡ position (λ file. bytes_eq file.name.items name) files → IfSome o (λ i. i < length files)
place_inside name files None is = tt
place_inside name files (Some i) is = let h = (place_bound name 0 i (map publication files) (sym (place_is name files) ∙ sym is)).1 in omega (arith, h, length-map files publication)

-- what is found is what is published
pub found : (name : List ℕ) (files : List Published) → option_map publication (find (λ file. bytes_eq file.name.items name) files) ≡ published name (map publication files)
found name [] = refl
found name (x ∷ xs) =
    elim (cases_Bool (bytes_eq x.name.items name)) [
      | inl same ↦ rw same refl
      | inr other ↦ rw other (found name xs)
    ]

none_from : (name : List ℕ) (n : ℕ) (xs : Catalogue) → is_none (position_from (is_named name) n xs) ≡ is_none (published name xs)
none_from name n [] = refl
none_from name n (x ∷ xs) =
    elim (cases_Bool (is_named name x)) [
      | inl same ↦ rw same refl
      | inr other ↦ rw other (none_from name (n + 1) xs)
    ]

pub none_placed : (name : List ℕ) (files : List Published) (o : Option ℕ) → o ≡ position (λ file. bytes_eq file.name.items name) files → is_none o ≡ is_none (published name (map publication files))
none_placed name files o is = ap is_none (is ∙ place_is name files) ∙ none_from name 0 (map publication files)

pub map-set : {A B : Type 0} (f : A → B) (xs : List A) (i : ℕ) (x : A) → map f (slice_set xs i x) ≡ slice_set (map f xs) i (f x)
map-set f [] i x = refl
map-set f (a ∷ xs) zero x = refl
map-set f (a ∷ xs) (suc i) x = ap (λ ys. f a ∷ ys) (map-set f xs i x)

-- the file that is found
pub found_in : (name : List ℕ) (files : List Published) (o : Option (Bor Published)) → option_copied o ≡ find (λ file. bytes_eq file.name.items name) files
    → option_map publication (option_copied o) ≡ published name (map publication files)
found_in name files o is = ap (option_map publication) is ∙ found name files

-- ---- whether something is there

pub none_by : {A : Type 0} (o : Option A) → is_some o ≡ false → is_none o ≡ true
none_by None e = refl
none_by (Some x) e = sym e

pub some_by : {A : Type 0} (o : Option A) → is_some o ≡ true → is_none o ≡ false
some_by None e = sym e
some_by (Some x) e = refl

-- ---- tags

any_tagged : (tag : List ℕ) (files : List Published)
    → list_any (λ file. bytes_eq file.tag tag) files ≡ list_any (λ p. bytes_eq p.tag tag) (map publication files)
any_tagged tag [] = refl
any_tagged tag (f ∷ files) = ap (λ (b : Bool). bytes_eq f.tag tag || b) (any_tagged tag files)

-- no file has the tag of what is kept
pub outdated_by : (tag : List ℕ) (files : List Published) (catalogue : Catalogue) (s : Status) (has : Bool) → s.tag ≡ Some tag
    → has ≡ list_any (λ file. bytes_eq file.tag tag) files → map publication files ≡ catalogue → not has ≡ is_outdated catalogue s
outdated_by tag files catalogue s has kept is from =
    ap not (is ∙ any_tagged tag files ∙ ap (λ (cs : Catalogue). list_any (λ (p : Publication). bytes_eq p.tag tag) cs) from)
    ∙ ap (λ (o : Option (List ℕ)). option_map_or (λ (t : List ℕ). not (list_any (λ (p : Publication). bytes_eq p.tag t) catalogue)) o false) (sym kept)
