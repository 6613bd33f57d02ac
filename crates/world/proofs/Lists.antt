-- A place of a list that is there, changed or added.
use Rattle.std.proofs.Common.{◌≡◌, ℕ, suc, zero, true, false, List, [], ◌∷◌, ◌++◌, length, map, get_or, Option, Some, None, refl, sym, ap, ◌∙◌, subst, arith, ◌<◌, ◌⊎◌, inl, inr}
use Rattle.std.specs.Prelude.{slice_get, slice_set, is_some, Bool, if◌then◌else◌}
use Rattle.std.specs.Option.{option_map}
use Rattle.world.specs.declared.event.Entry.{Entry}
use Rattle.cog_client.specs.Report.{Told, told}
use Rattle.cog_client.specs.Client.{ClientState, report_of}
use Rattle.cog_client.specs.Client.{name_of}
use Rattle.cog_server.specs.declared.server.Answer.{Answer}
use Rattle.world.specs.declared.event.Effect.TheVariants as effects
use Rattle.world.specs.World.{is_for}
use Rattle.world.specs.Run.{AtClient, Changes, Quiet, cut_at, news, told_of}
use Rattle.world.specs.State.{DeliversWithKeeping, IsDeliveryKeeping, Keeping}

pub get_there : {A : Type 0} (xs : List A) (i : ℕ) (x : A) → i < length xs → x ≡ get_or xs i x → slice_get xs i ≡ Some x
get_there [] i x inside is = absurd (omega arith)
get_there (y ∷ ys) zero x inside is = ap (λ z. Some z) (sym is)
get_there (y ∷ ys) (suc i) x inside is = get_there ys i x (omega arith) is

pub get-map : {A B : Type 0} (f : A → B) (xs : List A) (i : ℕ) → slice_get (map f xs) i ≡ option_map f (slice_get xs i)
get-map f [] i = refl
get-map f (x ∷ xs) zero = refl
get-map f (x ∷ xs) (suc i) = get-map f xs i

-- writing what is there changes nothing
pub set_there : {A : Type 0} (xs : List A) (i : ℕ) (x : A) → slice_get xs i ≡ Some x → slice_set xs i x ≡ xs
set_there [] i x is = refl
set_there (y ∷ ys) zero x is = let e : y ≡ x = cc in ap (λ z. z ∷ ys) (sym e)
set_there (y ∷ ys) (suc i) x is = ap (λ zs. y ∷ zs) (set_there ys i x is)

pub get-set : {A : Type 0} (xs : List A) (i j : ℕ) (x y z : A) → slice_get xs i ≡ Some z → slice_get (slice_set xs i x) j ≡ Some y → (y ≡ x) ⊎ (slice_get xs j ≡ Some y)
get-set [] i j x y z there is = absurd (cc)
get-set (a ∷ xs) zero zero x y z there is = inl (cc)
get-set (a ∷ xs) zero (suc j) x y z there is = inr is
get-set (a ∷ xs) (suc i) zero x y z there is = inr is
get-set (a ∷ xs) (suc i) (suc j) x y z there is = get-set xs i j x y z there is

pub get-set_same : {A : Type 0} (xs : List A) (i : ℕ) (x z : A) → slice_get xs i ≡ Some z → slice_get (slice_set xs i x) i ≡ Some x
get-set_same [] i x z there = absurd (cc)
get-set_same (a ∷ xs) zero x z there = refl
get-set_same (a ∷ xs) (suc i) x z there = get-set_same xs i x z there

pub get-push : {A : Type 0} (xs : List A) (j : ℕ) (x y : A) → slice_get (xs ++ x ∷ []) j ≡ Some y → (y ≡ x) ⊎ (slice_get xs j ≡ Some y)
get-push [] zero x y is = inl (cc)
get-push [] (suc j) x y is = absurd (cc)
get-push (a ∷ xs) zero x y is = inr is
get-push (a ∷ xs) (suc j) x y is = get-push xs j x y is

pub map-set : {A B : Type 0} (f : A → B) (xs : List A) (i : ℕ) (x : A) → map f (slice_set xs i x) ≡ slice_set (map f xs) i (f x)
map-set f [] i x = refl
map-set f (a ∷ xs) zero x = refl
map-set f (a ∷ xs) (suc i) x = ap (λ ys. f a ∷ ys) (map-set f xs i x)

-- a call of the client that is there
pub at_client : (R : ClientState → ClientState → Type 0) (old : List ClientState) (i : ℕ) (c next : ClientState) (n : Entry) → i < length old → c ≡ get_or old i c → R c next → told_of n ≡ news c next → AtClient (slice_get old i) R i n old (slice_set old i next)
at_client R old i c next n inside is does tells =
    let P : Option ClientState → Type 0 = λ o. AtClient o R i n old (slice_set old i next) in
    subst P (sym (get_there old i c inside is)) (record { next = next; changed = refl; does = does; tells = tells })

pub tells_of : (had : Bool) (old new : ClientState) (report : Option Told) → had ≡ is_some (report_of old) → report ≡ (if had then None else option_map told (report_of new)) → report ≡ news old new
tells_of had old new report is h = h ∙ ap (λ (b : Bool). if b then None else option_map told (report_of new)) is

-- ---- deliveries

-- an answer for another name isn't delivered
pub not_received : (a : Answer) (o : Option ClientState) (cut : Option ℕ) (i : ℕ) (n : Entry) (old new : List ClientState) (c : ClientState) → o ≡ Some c → false ≡ is_for a (name_of c) → Quiet n effects.Skipped old new
    → IsDeliveryKeeping (Some a) o cut i n old new
not_received a o cut i n old new c at other quiet =
    let P : Option ClientState → Type 0 = λ o. IsDeliveryKeeping (Some a) o cut i n old new in
    let Q : Bool → Type 0 = λ b. AtClient (if b then Some c else None) (Keeping (DeliversWithKeeping (cut_at cut a.text.items) i n.effect)) i n old new in
    subst P (sym at) (subst Q other quiet)

-- one for its name is
pub received : (a : Answer) (o : Option ClientState) (cut : Option ℕ) (i : ℕ) (n : Entry) (old new : List ClientState) (c : ClientState) → o ≡ Some c → true ≡ is_for a (name_of c)
    → Changes (Keeping (DeliversWithKeeping (cut_at cut a.text.items) i n.effect)) i c n old new → IsDeliveryKeeping (Some a) o cut i n old new
received a o cut i n old new c at own changes =
    let P : Option ClientState → Type 0 = λ o. IsDeliveryKeeping (Some a) o cut i n old new in
    let Q : Bool → Type 0 = λ b. AtClient (if b then Some c else None) (Keeping (DeliversWithKeeping (cut_at cut a.text.items) i n.effect)) i n old new in
    subst P (sym at) (subst Q own changes)
