-- The keys of a directory: their numbers, when no fault stands of them, and when one does.
use Rattle.std.proofs.Common.{◌≡◌, ℕ, ◌+◌, ◌-◌, ◌*◌, ◌<◌, ◌≤◌, true, false, cond, List, [], ◌∷◌, ◌++◌, length, zero, suc, ◌≢◌, ◌/◌, Option, Some, None, unwrap_or, refl, sym, ap, ◌∙◌, subst, arith, inl, inr, nat_lt, nat_eq, below_more}
use Rattle.std.proofs.lemmas.Bool.{cases_lt, lt-ltb, le-ltb, lt-leb, eq-eqb}
use Rattle.std.specs.Option.{IsSomeAnd, IfSome}
use Rattle.std.specs.List.{slice_get}
use Rattle.tiff_dir.specs.declared.order.Order.{Order}
use Rattle.tiff_dir.specs.declared.fault.FileFault.{FileFault}
use Rattle.tiff_dir.specs.declared.fault.FileFault.TheVariants.{KeyHead, KeyOrder, KeyPlace}
use Rattle.tiff_dir.specs.Number.{number_in}
use Rattle.tiff_dir.specs.File.{◌>>=◌}
use Rattle.tiff_dir.specs.Keys.{KeySource, key_number, IsBadKeyHead, IsMisplaced, IsFaultOfKeys}
use Rattle.geokeys.specs.declared.entry.KeyDirectoryHeader.{KeyDirectoryHeader}
use Rattle.geokeys.specs.declared.entry.KeyEntry.{KeyEntry}
use Rattle.geokeys.specs.declared.geo.Geo.{Geo}
use Rattle.tiff_dir.specs.declared.fault.WalkError.{WalkError as GeoError}
use Rattle.tiff_dir.specs.declared.fault.WalkError.TheVariants.{File, Memory}
use Rattle.geokeys.specs.declared.geo.Key.{Key}
use Rattle.geokeys.specs.Keys.{number_at, key_source, IsValue, IsKey, AreKeys, IsKeyError}
use Rattle.geokeys.specs.KeyEntry.{IsHead, entry_at, only_items, IsPlaced, IsRefusal}
use Rattle.geokeys.proofs.KeyDirectoryHeader.{some_and, and_some, number_there, good_head}

none_past : (o : Option ℕ) → (o >>= (λ (v : ℕ). cond false (Some v) None)) ≡ None
none_past (Some v) = refl
none_past None = refl

-- a key's number, of those that the head counts
pub number_known : (s : KeySource) (n v i j : ℕ) → s.value 3 ≡ Some n → s.value (4 + 4 * i + j) ≡ Some v → i < n → key_number s i j ≡ Some v
unfolding key_number
number_known s n v i j count is lt =
    ap (λ (o : Option ℕ). o >>= (λ m. s.value (4 + 4 * i + j) >>= (λ (w : ℕ). cond (nat_lt i m) (Some w) None))) count
    ∙ ap (λ (o : Option ℕ). o >>= (λ (w : ℕ). cond (nat_lt i n) (Some w) None)) is
    ∙ ap (λ b. cond b (Some v) None) (lt-ltb i n lt)

-- there is none after them
pub number_past : (s : KeySource) (n i j : ℕ) → s.value 3 ≡ Some n → n ≤ i → key_number s i j ≡ None
unfolding key_number
number_past s n i j count le =
    ap (λ (o : Option ℕ). o >>= (λ m. s.value (4 + 4 * i + j) >>= (λ (w : ℕ). cond (nat_lt i m) (Some w) None))) count
    ∙ ap (λ b. s.value (4 + 4 * i + j) >>= (λ (w : ℕ). cond b (Some w) None)) (le-ltb i n le)
    ∙ none_past (s.value (4 + 4 * i + j))

-- number j of key i, which stands at this place
pub key_is : (order : Order) (d doubles ascii : List ℕ) (head : KeyDirectoryHeader) (i j at : ℕ) → IsHead order d head → i < head.keys → j < 4 → at ≡ 8 * i + 8 + 2 * j →
    key_number (key_source order d doubles ascii) i j ≡ Some (number_in order at 2 d)
key_is order d doubles ascii head i j at is lt four place =
    let there : 2 * (4 + 4 * i + j) + 2 ≤ length d = omega (arith, is.size) in
    let same : 2 * (4 + 4 * i + j) ≡ at = omega (arith, place) in
    number_known (key_source order d doubles ascii) head.keys (number_in order at 2 d) i j is.keys
    (number_there order d (4 + 4 * i + j) there ∙ ap (λ k. Some (number_in order k 2 d)) same) lt

some_none : (o : Option ℕ) (P : ℕ → Type 0) → o ≡ None → IsSomeAnd o P → ⊥
some_none o P e h = subst (λ (q : Option ℕ). IsSomeAnd q P) e h

-- the keys' numbers ascend
abbrev pub Ascend : Order → List ℕ → ℕ → Type 0
Ascend order d n = (k : ℕ) → k + 1 < n → (entry_at order d k).id < (entry_at order d (k + 1)).id

abbrev pub ArePlaced : Order → List ℕ → List ℕ → List ℕ → ℕ → Type 0
ArePlaced order d doubles ascii n = (k : ℕ) → k < n → IsPlaced doubles ascii (entry_at order d k)

in_order : (order : Order) (d doubles ascii : List ℕ) (head : KeyDirectoryHeader) → IsHead order d head → Ascend order d head.keys → IsFaultOfKeys (key_source order d doubles ascii) KeyOrder → ⊥
in_order order d doubles ascii head is ascend bad =
    let s = key_source order d doubles ascii in
    let i = bad.0 in
    let Next : ℕ → Type 0 = λ a. IsSomeAnd (key_number s (i + 1) 0) (λ b. nat_lt a b ≡ false) in
    elim (cases_lt (i + 1) head.keys) [
      | inl lt ↦
          let a = (entry_at order d i).id in
          let b = (entry_at order d (i + 1)).id in
          let here : Next a = and_some (key_number s i 0) a Next (key_is order d doubles ascii head i 0 (8 * i + 8) is (omega arith) (omega arith) (omega arith)) bad.1 in
          let not_less : nat_lt a b ≡ false = and_some (key_number s (i + 1) 0) b (λ k. nat_lt a k ≡ false) (key_is order d doubles ascii head (i + 1) 0 (8 * (i + 1) + 8) is lt (omega arith) (omega arith)) here in
          let less : nat_lt a b ≡ true = lt-ltb a b (ascend i lt) in
          let e : true ≡ false = sym less ∙ not_less in cc
      | inr le ↦
          let none = number_past s head.keys (i + 1) 0 is.keys le in
          (elim (key_number s i 0) as (λ (o : Option ℕ). IsSomeAnd o Next → ⊥) [ Some a ↦ λ next. some_none (key_number s (i + 1) 0) (λ b. nat_lt a b ≡ false) none next | None ↦ λ h. h ]) bad.1
    ]

misplaced_by : (s : KeySource) (a b c d e f : Option ℕ) → a ≡ d → b ≡ e → c ≡ f → IsMisplaced s a b c → IsMisplaced s d e f
misplaced_by s a b c d e f x y z bad =
    subst (λ (o : Option ℕ). IsMisplaced s o e f) x (subst (λ (o : Option ℕ). IsMisplaced s a o f) y (subst (λ (o : Option ℕ). IsMisplaced s a b o) z bad))

-- a key that isn't there is nowhere misplaced
no_place : (s : KeySource) (a b c : Option ℕ) → a ≡ None → IsMisplaced s a b c → ⊥
no_place s a b c none bad = subst (λ (o : Option ℕ). IsMisplaced s o b c) none bad

in_place : (order : Order) (d doubles ascii : List ℕ) (head : KeyDirectoryHeader) → IsHead order d head → ArePlaced order d doubles ascii head.keys → IsFaultOfKeys (key_source order d doubles ascii) KeyPlace → ⊥
in_place order d doubles ascii head is placed bad =
    let s = key_source order d doubles ascii in
    let i = bad.0 in
    elim (cases_lt i head.keys) [
      | inl lt ↦
          let e = entry_at order d i in
          placed i lt (misplaced_by s (key_number s i 1) (key_number s i 2) (key_number s i 3) (Some e.location) (Some e.count) (Some e.first)
          (key_is order d doubles ascii head i 1 (8 * i + 10) is lt (omega arith) (omega arith))
          (key_is order d doubles ascii head i 2 (8 * i + 12) is lt (omega arith) (omega arith))
          (key_is order d doubles ascii head i 3 (8 * i + 14) is lt (omega arith) (omega arith)) bad.1)
      | inr le ↦ no_place s (key_number s i 1) (key_number s i 2) (key_number s i 3) (number_past s head.keys i 1 is.keys le) bad.1
    ]

pub no_fault : (order : Order) (d doubles ascii : List ℕ) (head : KeyDirectoryHeader) → IsHead order d head → Ascend order d head.keys → ArePlaced order d doubles ascii head.keys →
    (fault : FileFault) → IsFaultOfKeys (key_source order d doubles ascii) fault → ⊥
no_fault order d doubles ascii head is ascend placed KeyHead bad = good_head order d doubles ascii head is bad
no_fault order d doubles ascii head is ascend placed KeyOrder bad = in_order order d doubles ascii head is ascend bad
no_fault order d doubles ascii head is ascend placed KeyPlace bad = in_place order d doubles ascii head is placed bad
no_fault order d doubles ascii head is ascend placed _ bad = bad

-- without a directory nothing is known

none_there : (order : Order) (d : List ℕ) (i : ℕ) → length d ≡ 0 → number_at order d i ≡ None
unfolding number_at
none_there order d i none = ap (λ b. cond b (Some (number_in order (2 * i) 2 d)) None) (lt-leb (2 * i + 2) (length d) (omega arith))

no_count : (d : List ℕ) → length d ≡ 0 → cond (nat_eq (length d) 0) None (Some (length d / 2)) ≡ None
no_count d none = ap (λ b. cond b None (Some (length d / 2))) (eq-eqb (length d) 0 none)

no_number : (s : KeySource) (i j : ℕ) → s.value 3 ≡ None → key_number s i j ≡ None
unfolding key_number
no_number s i j none = ap (λ (o : Option ℕ). o >>= (λ m. s.value (4 + 4 * i + j) >>= (λ (w : ℕ). cond (nat_lt i m) (Some w) None))) none

no_head : (order : Order) (d doubles ascii : List ℕ) → length d ≡ 0 → IsBadKeyHead (key_source order d doubles ascii) → ⊥
no_head order d doubles ascii none bad =
    elim bad [
      | inl version ↦ some_none (number_at order d 0) (λ n. n ≢ 1) (none_there order d 0 none) version
      | inr bad ↦ elim bad [
        | inl revision ↦ some_none (number_at order d 1) (λ n. n ≢ 1) (none_there order d 1 none) revision
        | inr bad ↦ elim bad [
          | inl few ↦ some_none _ (λ n. n < 4) (no_count d none) few
          | inr misfit ↦ some_none _ (λ n. IsSomeAnd (number_at order d 3) (λ k. nat_eq n (4 + 4 * k) ≡ false)) (no_count d none) misfit
        ]
      ]
    ]

pub no_fault_of_none : (order : Order) (d doubles ascii : List ℕ) → length d ≡ 0 → (fault : FileFault) → IsFaultOfKeys (key_source order d doubles ascii) fault → ⊥
no_fault_of_none order d doubles ascii none KeyHead bad = no_head order d doubles ascii none bad
no_fault_of_none order d doubles ascii none KeyOrder bad =
    let s = key_source order d doubles ascii in
    some_none (key_number s bad.0 0) (λ a. IsSomeAnd (key_number s (bad.0 + 1) 0) (λ b. nat_lt a b ≡ false)) (no_number s bad.0 0 (none_there order d 3 none)) bad.1
no_fault_of_none order d doubles ascii none KeyPlace bad =
    let s = key_source order d doubles ascii in
    no_place s (key_number s bad.0 1) (key_number s bad.0 2) (key_number s bad.0 3) (no_number s bad.0 1 (none_there order d 3 none)) bad.1
no_fault_of_none order d doubles ascii none _ bad = bad

pub no_keys : (order : Order) (d doubles ascii : List ℕ) (geo : Geo) → length d ≡ 0 → geo.minor ≡ 0 → geo.keys.items ≡ [] → AreKeys (key_source order d doubles ascii) order doubles ascii geo
no_keys order d doubles ascii geo none minor keys = record {
  minor_is = minor ∙ sym (ap (λ (o : Option ℕ). unwrap_or o 0) (none_there order d 2 none));
  count_is = ap length keys ∙ sym (ap (λ (o : Option ℕ). unwrap_or o 0) (none_there order d 3 none));
  each = λ i. subst (λ (ks : List Key). IfSome (slice_get ks i) (IsKey (key_source order d doubles ascii) order doubles ascii i)) (sym keys) tt;
}

-- ---- the keys

each_push : (P : ℕ → Key → Type 0) (ks : List Key) (key : Key) → ((i : ℕ) → IfSome (slice_get ks i) (P i)) → P (length ks) key → (i : ℕ) → IfSome (slice_get (ks ++ key ∷ []) i) (P i)
each_push P [] key each here zero = here
each_push P [] key each here (suc i) = tt
each_push P (k ∷ ks) key each here zero = each 0
each_push P (k ∷ ks) key each here (suc i) = each_push (λ n. P (suc n)) ks key (λ n. each (suc n)) here i

-- one key more
pub keys_next : (order : Order) (d doubles ascii : List ℕ) (head : KeyDirectoryHeader) (ks ks' : List Key) (key : Key) (i : ℕ) → IsHead order d head → i < head.keys → length ks ≡ i →
    ((k : ℕ) → IfSome (slice_get ks k) (IsKey (key_source order d doubles ascii) order doubles ascii k)) → ks' ≡ ks ++ key ∷ [] → key.id ≡ (entry_at order d i).id →
    IsValue order doubles ascii (entry_at order d i).location (entry_at order d i).count (entry_at order d i).first key.value →
    (k : ℕ) → IfSome (slice_get ks' k) (IsKey (key_source order d doubles ascii) order doubles ascii k)
keys_next order d doubles ascii head ks ks' key i is lt size each next id value k =
    let e = entry_at order d i in
    let here : IsKey (key_source order d doubles ascii) order doubles ascii i key = record {
      location = e.location;
      count = e.count;
      first = e.first;
      id_is = key_is order d doubles ascii head i 0 (8 * i + 8) is lt (omega arith) (omega arith) ∙ ap (λ n. Some n) (sym id);
      location_is = key_is order d doubles ascii head i 1 (8 * i + 10) is lt (omega arith) (omega arith);
      count_is = key_is order d doubles ascii head i 2 (8 * i + 12) is lt (omega arith) (omega arith);
      first_is = key_is order d doubles ascii head i 3 (8 * i + 14) is lt (omega arith) (omega arith);
      value_is = value;
    } in
    subst (λ (l : List Key). IfSome (slice_get l k) (IsKey (key_source order d doubles ascii) order doubles ascii k)) (sym next)
    (each_push (IsKey (key_source order d doubles ascii) order doubles ascii) ks key each (subst (λ n. IsKey (key_source order d doubles ascii) order doubles ascii n key) (sym size) here) k)

pub keys_all : (order : Order) (d doubles ascii : List ℕ) (head : KeyDirectoryHeader) (geo : Geo) → IsHead order d head → geo.minor ≡ head.minor → length geo.keys.items ≡ head.keys →
    ((k : ℕ) → IfSome (slice_get geo.keys.items k) (IsKey (key_source order d doubles ascii) order doubles ascii k)) → AreKeys (key_source order d doubles ascii) order doubles ascii geo
keys_all order d doubles ascii head geo is minor count each = record {
  minor_is = minor ∙ sym (ap (λ (o : Option ℕ). unwrap_or o 0) is.minor);
  count_is = count ∙ sym (ap (λ (o : Option ℕ). unwrap_or o 0) is.keys);
  each = each;
}

-- ---- the faults of a key

pub bad_order : (order : Order) (d doubles ascii : List ℕ) (head : KeyDirectoryHeader) (k : ℕ) → IsHead order d head → k + 1 < head.keys → (entry_at order d (k + 1)).id ≤ (entry_at order d k).id →
    IsFaultOfKeys (key_source order d doubles ascii) KeyOrder
bad_order order d doubles ascii head k is lt le =
    let s = key_source order d doubles ascii in
    let a = (entry_at order d k).id in
    let b = (entry_at order d (k + 1)).id in (
      k,
      some_and (key_number s k 0) a (λ m. IsSomeAnd (key_number s (k + 1) 0) (λ n. nat_lt m n ≡ false)) (key_is order d doubles ascii head k 0 (8 * k + 8) is (omega arith) (omega arith) (omega arith))
          (some_and (key_number s (k + 1) 0) b (λ n. nat_lt a n ≡ false) (key_is order d doubles ascii head (k + 1) 0 (8 * (k + 1) + 8) is lt (omega arith) (omega arith)) (le-ltb a b le)),
    )

pub bad_place : (order : Order) (d doubles ascii : List ℕ) (head : KeyDirectoryHeader) (k : ℕ) → IsHead order d head → k < head.keys →
    IsMisplaced (only_items doubles ascii) (Some (entry_at order d k).location) (Some (entry_at order d k).count) (Some (entry_at order d k).first) → IsFaultOfKeys (key_source order d doubles ascii) KeyPlace
bad_place order d doubles ascii head k is lt bad =
    let s = key_source order d doubles ascii in
    let e = entry_at order d k in (
      k,
      misplaced_by s (Some e.location) (Some e.count) (Some e.first) (key_number s k 1) (key_number s k 2) (key_number s k 3)
          (sym (key_is order d doubles ascii head k 1 (8 * k + 10) is lt (omega arith) (omega arith)))
          (sym (key_is order d doubles ascii head k 2 (8 * k + 12) is lt (omega arith) (omega arith)))
          (sym (key_is order d doubles ascii head k 3 (8 * k + 14) is lt (omega arith) (omega arith))) bad,
    )

-- the value of key k is refused
pub value_refused : (order : Order) (d doubles ascii : List ℕ) (head : KeyDirectoryHeader) (k : ℕ) (entry : KeyEntry) (error : GeoError) → IsHead order d head → k < head.keys → entry ≡ entry_at order d k →
    IsRefusal doubles ascii entry error → IsKeyError (key_source order d doubles ascii) error
value_refused order d doubles ascii head k entry (File fault) is lt same bad =
    let s = key_source order d doubles ascii in
    let misplaced = bad_place order d doubles ascii head k is lt
    (subst (λ (e : KeyEntry). IsMisplaced (only_items doubles ascii) (Some e.location) (Some e.count) (Some e.first)) same bad.1) in
    subst (λ (f : FileFault). IsFaultOfKeys s f) (sym bad.0) misplaced
value_refused order d doubles ascii head k entry Memory is lt same bad = tt

-- the head is refused
pub head_refused : (order : Order) (d doubles ascii : List ℕ) (fault : FileFault) → (fault ≡ KeyHead) × IsBadKeyHead (key_source order d [] []) → IsFaultOfKeys (key_source order d doubles ascii) fault
head_refused order d doubles ascii fault bad =
    let here : IsFaultOfKeys (key_source order d doubles ascii) KeyHead = bad.1 in
    subst (λ (f : FileFault). IsFaultOfKeys (key_source order d doubles ascii) f) (sym bad.0) here

pub ascend_next : (order : Order) (d : List ℕ) (i : ℕ) → Ascend order d i → (0 < i → (entry_at order d (i - 1)).id < (entry_at order d i).id) → Ascend order d (i + 1)
ascend_next order d i before here k lt = elim (cases_lt (k + 1) i) [
  | inl less ↦ before k less
  | inr le ↦
      let now : i ≡ k + 1 = omega arith in
      let last : i - 1 ≡ k = omega arith in
      subst (λ n. (entry_at order d k).id < (entry_at order d n).id) now
      (subst (λ n. (entry_at order d n).id < (entry_at order d i).id) last (here (omega arith)))
]

pub placed_next : (order : Order) (d doubles ascii : List ℕ) (i : ℕ) (entry : KeyEntry) → ArePlaced order d doubles ascii i → entry ≡ entry_at order d i → IsPlaced doubles ascii entry →
    ArePlaced order d doubles ascii (i + 1)
placed_next order d doubles ascii i entry before same here = below_more (λ k. IsPlaced doubles ascii (entry_at order d k)) i before (subst (λ (e : KeyEntry). IsPlaced doubles ascii e) same here)
