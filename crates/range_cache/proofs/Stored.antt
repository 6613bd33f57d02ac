-- Storing blocks one after another.
use Rattle.std.proofs.Common.{◌≡◌, ◌||◌, ℕ, zero, suc, ◌+◌, ◌-◌, ◌<◌, ◌≤◌, Bool, true, false, cond, not, List, [], ◌∷◌, ◌++◌, length, take, map, refl, sym, ap, ◌∙◌, ◌⊎◌, arith, nat_eq, inl, inr, subst, length-take}
use Rattle.std.proofs.lemmas.Bool.{cases_Bool, eq-eqb, eqb-true}
use Rattle.std.proofs.lemmas.Bool.Decides.{eqb_tells}
use Rattle.std.proofs.lemmas.List.{take-map, take-take}
use Rattle.std.proofs.lemmas.List.Elements.{All-head, All-tail, All-cons, All-take}
use Rattle.std.proofs.lemmas.List.FromFn.{map-range_with_len_more}
use Rattle.std.specs.List.{All, filter, range_with_len}
use Rattle.range_cache.specs.Numbers.{has, missing, AreGone, AreKept, IsLed, Stays}
use Rattle.range_cache.specs.Cache.{Block, numbers, put_one, stored, stores}
use Rattle.range_cache.specs.Piece.{block_in}

pub stored-push : (capacity : ℕ) (new : List Block) (b : Block) (bs : List Block) → stored capacity (new ++ b ∷ []) bs ≡ put_one capacity (stored capacity new bs) b
unfolding stored
stored-push capacity [] b bs = refl
stored-push capacity (n ∷ new) b bs = stored-push capacity new b (put_one capacity bs n)

-- one block of the piece more
pub stored-more : (capacity file_length first : ℕ) (bytes : List ℕ) (from n : ℕ) (bs : List Block) → from ≤ n →
    stored capacity (map (block_in file_length first bytes) (range_with_len from (n + 1 - from))) bs
    ≡ put_one capacity (stored capacity (map (block_in file_length first bytes) (range_with_len from (n - from))) bs) (block_in file_length first bytes n)
stored-more capacity file_length first bytes from n bs low =
    let count : n + 1 - from ≡ n - from + 1 = omega arith in
    let place : from + (n - from) ≡ n = omega arith in
    ap (λ k. stored capacity (map (block_in file_length first bytes) (range_with_len from k)) bs) count
    ∙ ap (λ new. stored capacity new bs) (map-range_with_len_more (block_in file_length first bytes) from (n - from) n place)
    ∙ stored-push capacity (map (block_in file_length first bytes) (range_with_len from (n - from))) (block_in file_length first bytes n) bs

pub stored-none : (capacity file_length first : ℕ) (bytes : List ℕ) (from : ℕ) (bs : List Block) →
    stored capacity (map (block_in file_length first bytes) (range_with_len from (from - from))) bs ≡ bs
unfolding stored
stored-none capacity file_length first bytes from bs =
    let none : from - from ≡ 0 = omega arith in ap (λ k. stored capacity (map (block_in file_length first bytes) (range_with_len from k)) bs) none

pub stores-next : (capacity file_length first : ℕ) (bytes : List ℕ) (n to : ℕ) (bs : List Block) → n < to →
    stores capacity (map (block_in file_length first bytes) (range_with_len n (to - n))) bs
    ≡ cond (has n (numbers bs)) 0 1 + stores capacity (map (block_in file_length first bytes) (range_with_len (n + 1) (to - (n + 1)))) (put_one capacity bs (block_in file_length first bytes n))
unfolding stores
stores-next capacity file_length first bytes n to bs below =
    let count : to - n ≡ suc (to - (n + 1)) = omega arith in
    ap (λ k. stores capacity (map (block_in file_length first bytes) (range_with_len n k)) bs) count

pub stores-none : (capacity file_length first : ℕ) (bytes : List ℕ) (n to : ℕ) (bs : List Block) → to ≤ n →
    stores capacity (map (block_in file_length first bytes) (range_with_len n (to - n))) bs ≡ 0
unfolding stores
stores-none capacity file_length first bytes n to bs past =
    let none : to - n ≡ 0 = omega arith in ap (λ k. stores capacity (map (block_in file_length first bytes) (range_with_len n k)) bs) none

-- a block that isn't stored is there
pub there_of_none : (t : Bool) → cond t 0 1 ≤ 0 → t ≡ true
there_of_none true few = refl
there_of_none false few = absurd (omega (arith, few))

-- what holds of each block holds of each that is stored

pub All-stored : (P : Block → Type 0) (capacity : ℕ) (new bs : List Block) → All P new → All P bs → All P (stored capacity new bs)
unfolding stored
All-stored P capacity [] bs all held = held
All-stored P capacity (b ∷ new) bs all held =
    All-stored P capacity new (put_one capacity bs b) (All-tail P b new all)
    ((elim (has b.0 (numbers bs)) as (λ t. All P (cond t bs (b ∷ take (capacity - 1) bs))) [
      | true ↦ held
      | false ↦ All-cons P b (take (capacity - 1) bs) (All-head P b new all) (All-take P (capacity - 1) bs held)
    ]))

-- what is missing of some blocks

pub missing-none : (ns : List ℕ) (n : ℕ) → missing ns n 0 ≡ 0
unfolding missing
missing-none ns n = refl

pub missing-next : (ns : List ℕ) (n count : ℕ) → missing ns n (suc count) ≡ cond (has n ns) 0 1 + missing ns (n + 1) count
unfolding missing
missing-next ns n count =
    let rest : List ℕ = filter (λ k. not (has k ns)) (range_with_len (n + 1) count) in
    elim (has n ns) as (λ t. length (cond (not t) (n ∷ rest) rest) ≡ cond t 0 1 + length rest) [ true ↦ omega arith | false ↦ omega arith ]

at_most_one : (t : Bool) → cond t 0 1 ≤ 1
at_most_one true = omega arith
at_most_one false = omega arith

not_more : (old new : Bool) → (old ≡ true → new ≡ true) → cond new 0 1 ≤ cond old 0 1
not_more true new h = rw (h refl) (omega arith)
not_more false new h = at_most_one new

pub missing-less : (old new : List ℕ) (n count : ℕ) → AreKept old new n count → missing new n count ≤ missing old n count
missing-less old new n zero h = omega (arith, missing-none old n, missing-none new n)
missing-less old new n (suc count) h =
    omega (
      arith,
      missing-next old n count,
      missing-next new n count,
      not_more (has n old) (has n new) (h n (omega arith) (omega arith)),
      missing-less old new (n + 1) count (λ k low high. h k (omega arith) (omega arith)),
    )

pub missing-fewer : (old new : List ℕ) (n count m : ℕ) → AreKept old new n count →
    n ≤ m → m < n + count → has m old ≡ false → has m new ≡ true → missing new n count + 1 ≤ missing old n count
missing-fewer old new n zero m h low high gone came = absurd (omega arith)
missing-fewer old new n (suc count) m h low high gone came =
    let rest : (k : ℕ) → n + 1 ≤ k → k < n + 1 + count → has k old ≡ true → has k new ≡ true = λ k low high. h k (omega arith) (omega arith) in
    elim (eqb_tells n m) [
      | inl e ↦
          let before : cond (has n old) 0 1 ≡ 1 = ap {B = ℕ} (λ b. cond b 0 1) (ap (λ k. has k old) e.1 ∙ gone) in
          let after : cond (has n new) 0 1 ≡ 0 = ap {B = ℕ} (λ b. cond b 0 1) (ap (λ k. has k new) e.1 ∙ came) in
          omega (arith, before, after, missing-next old n count, missing-next new n count, missing-less old new (n + 1) count rest)
      | inr e ↦
          let other = e.1 in
          omega (
            arith,
            not_more (has n old) (has n new) (h n (omega arith) (omega arith)),
            missing-next old n count,
            missing-next new n count,
            missing-fewer old new (n + 1) count m rest (omega arith) (omega arith) gone came,
          )
    ]

has-head : (n : ℕ) (ns : List ℕ) → has n (n ∷ ns) ≡ true
has-head n ns = ap (λ t. t || has n ns) (eq-eqb n n refl)

has-cons : (k m : ℕ) (ns : List ℕ) → has k ns ≡ true → has k (m ∷ ns) ≡ true
has-cons k m ns h = elim (nat_eq k m) as (λ t. (t || has k ns) ≡ true) [ true ↦ refl | false ↦ h ]

-- fronts of a list

has-take-more : (x k j : ℕ) (ns : List ℕ) → has x (take k ns) ≡ true → k ≤ j → has x (take j ns) ≡ true
has-take-more x zero j ns h le = absurd (let e : false ≡ true = h in cc)
has-take-more x (suc k) zero ns h le = absurd (omega arith)
has-take-more x (suc k) (suc j) [] h le = h
has-take-more x (suc k) (suc j) (m ∷ ns) h le =
    (elim (nat_eq x m) as (λ t. (t || has x (take k ns)) ≡ true → (t || has x (take j ns)) ≡ true) [ true ↦ λ _. refl | false ↦ λ i. has-take-more x k j ns i (omega arith) ]) h

has-take-take : (x k j : ℕ) (ns : List ℕ) → has x (take k ns) ≡ true → k ≤ j → has x (take k (take j ns)) ≡ true
has-take-take x k j ns h le = ap (has x) (take-take k j ns le) ∙ h

has-of-take : (x j : ℕ) (ns : List ℕ) → has x (take j ns) ≡ true → has x ns ≡ true
has-of-take x zero ns h = absurd (let e : false ≡ true = h in cc)
has-of-take x (suc j) [] h = h
has-of-take x (suc j) (m ∷ ns) h =
    (elim (nat_eq x m) as (λ t. (t || has x (take j ns)) ≡ true → (t || has x ns) ≡ true) [ true ↦ λ _. refl | false ↦ λ i. has-of-take x j ns i ]) h

-- where a block is put, the first ones stay the first ones, with it or without

put_number : ℕ → List ℕ → ℕ → List ℕ
put_number capacity ns m = cond (has m ns) ns (m ∷ take (capacity - 1) ns)

numbers-put_one : (capacity : ℕ) (bs : List Block) (b : Block) → numbers (put_one capacity bs b) ≡ put_number capacity (numbers bs) b.0
unfolding put_number
numbers-put_one capacity bs b =
    elim (has b.0 (numbers bs)) as (λ t. numbers (cond t bs (b ∷ take (capacity - 1) bs)) ≡ cond t (numbers bs) (b.0 ∷ take (capacity - 1) (numbers bs))) [
      | true ↦ refl
      | false ↦ ap (λ ns. b.0 ∷ ns) (sym (take-map (λ (c : Block). c.0) (capacity - 1) bs))
    ]

put_keeps : (x front capacity m : ℕ) (ns : List ℕ) → has x (take front ns) ≡ true → front < capacity → has x (take (front + 1) (put_number capacity ns m)) ≡ true
unfolding put_number
put_keeps x front capacity m ns is room =
    elim (has m ns) as (λ t. has x (take (front + 1) (cond t ns (m ∷ take (capacity - 1) ns))) ≡ true) [
      | true ↦ has-take-more x front (front + 1) ns is (omega arith)
      | false ↦
          let one : front + 1 ≡ suc front = omega arith in
          ap (λ j. has x (take j (m ∷ take (capacity - 1) ns))) one
          ∙ has-cons x m (take front (take (capacity - 1) ns)) (has-take-take x front (capacity - 1) ns is (omega arith))
    ]

put_head : (front capacity m : ℕ) (ns : List ℕ) → has m ns ≡ false → has m (take (front + 1) (put_number capacity ns m)) ≡ true
unfolding put_number
put_head front capacity m ns gone =
    let one : front + 1 ≡ suc front = omega arith in
    ap (λ t. has m (take (front + 1) (cond t ns (m ∷ take (capacity - 1) ns)))) gone
    ∙ ap (λ j. has m (take j (m ∷ take (capacity - 1) ns))) one
    ∙ has-head m (take front (take (capacity - 1) ns))

-- the block that is put is among the first ones then, where it was no later one
put_comes : (front capacity m : ℕ) (ns : List ℕ) → (has m ns ≡ false) ⊎ (has m (take front ns) ≡ true) → front < capacity → has m (take (front + 1) (put_number capacity ns m)) ≡ true
put_comes front capacity m ns (inr there) room = put_keeps m front capacity m ns there room
put_comes front capacity m ns (inl gone) room = put_head front capacity m ns gone

-- another one that isn't there comes by no other
put_others : (x capacity m : ℕ) (ns : List ℕ) → has x ns ≡ false → nat_eq x m ≡ false → has x (put_number capacity ns m) ≡ false
unfolding put_number
put_others x capacity m ns gone other =
    elim (has m ns) as (λ t. has x (cond t ns (m ∷ take (capacity - 1) ns)) ≡ false) [
      | true ↦ gone
      | false ↦ ap (λ t. t || has x (take (capacity - 1) ns)) other ∙ short (capacity - 1) (has x (take (capacity - 1) ns)) refl
    ]
  where
    short : (j : ℕ) (t : Bool) → has x (take j ns) ≡ t → t ≡ false
    short j true is = sym (has-of-take x j ns is) ∙ gone
    short j false is = refl

-- the first ones stay where there is room for all that is stored
stored-keeps : (x front capacity : ℕ) (new bs : List Block) → has x (take front (numbers bs)) ≡ true → front + length new ≤ capacity → has x (numbers (stored capacity new bs)) ≡ true
unfolding stored
stored-keeps x front capacity [] bs is room = has-of-take x front (numbers bs) is
stored-keeps x front capacity (b ∷ new) bs is room =
    stored-keeps x (front + 1) capacity new (put_one capacity bs b)
    (ap (λ ns. has x (take (front + 1) ns)) (numbers-put_one capacity bs b) ∙ put_keeps x front capacity b.0 (numbers bs) is (omega arith))
    (omega arith)

-- the blocks that are stored weren't there, or are among the first ones
abbrev AreNew : ℕ → List ℕ → List Block → Type 0
AreNew front ns new = (k : ℕ) → has k (numbers new) ≡ true → (has k ns ≡ false) ⊎ (has k (take front ns) ≡ true)

-- so it is with the others where one of them is put
still_new : (front capacity m k : ℕ) (ns : List ℕ) → has m (take (front + 1) (put_number capacity ns m)) ≡ true → front < capacity → (has k ns ≡ false) ⊎ (has k (take front ns) ≡ true)
    → (has k (put_number capacity ns m) ≡ false) ⊎ (has k (take (front + 1) (put_number capacity ns m)) ≡ true)
still_new front capacity m k ns here room (inr there) = inr (put_keeps k front capacity m ns there room)
still_new front capacity m k ns here room (inl gone) = elim (cases_Bool (nat_eq k m)) [
  | inl t ↦ inr (ap (λ j. has j (take (front + 1) (put_number capacity ns m))) (eqb-true k m t) ∙ here)
  | inr f ↦ inl (put_others k capacity m ns gone f)
]

-- and all of them are there then
stored-comes : (x front capacity : ℕ) (new bs : List Block) → AreNew front (numbers bs) new → has x (numbers new) ≡ true → front + length new ≤ capacity → has x (numbers (stored capacity new bs)) ≡ true
unfolding stored
stored-comes x front capacity [] bs are among room = absurd (let e : false ≡ true = among in cc)
stored-comes x front capacity (b ∷ new) bs are among room =
    let after : List ℕ = put_number capacity (numbers bs) b.0 in
    let same : numbers (put_one capacity bs b) ≡ after = numbers-put_one capacity bs b in
    let first : has b.0 (take (front + 1) after) ≡ true = put_comes front capacity b.0 (numbers bs) (are b.0 (has-head b.0 (numbers new))) (omega arith) in
    let rest : AreNew (front + 1) (numbers (put_one capacity bs b)) new =
    λ k later. subst (λ ns. (has k ns ≡ false) ⊎ (has k (take (front + 1) ns) ≡ true)) (sym same)
    (still_new front capacity b.0 k (numbers bs) first (omega arith) (are k (has-cons k b.0 (numbers new) later))) in
    (elim (nat_eq x b.0) as (λ t. nat_eq x b.0 ≡ t → (t || has x (numbers new)) ≡ true → has x (numbers (stored capacity new (put_one capacity bs b))) ≡ true) [
      | true ↦ λ t _.
          stored-keeps x (front + 1) capacity new (put_one capacity bs b)
          (ap (λ ns. has x (take (front + 1) ns)) same ∙ ap (λ j. has j (take (front + 1) after)) (eqb-true x b.0 t) ∙ first) (omega arith)
      | false ↦ λ _ later. stored-comes x (front + 1) capacity new (put_one capacity bs b) rest later (omega arith)
    ]) refl among

-- where none of the blocks is there, and they have room beside those of a range that lead, none of that range leaves
pub stored_stays : (capacity n count : ℕ) (new bs : List Block) → AreGone (numbers bs) (numbers new) → count - missing (numbers bs) n count + length new ≤ capacity → IsLed (numbers bs) n count →
    Stays (numbers bs) (numbers (stored capacity new bs)) n count (numbers new)
stored_stays capacity n count new bs gone room led = record {
  kept = λ k low high is. stored-keeps k led.front capacity new bs (led.there k low high is) (omega (arith, led.few, room));
  came = λ k among. stored-comes k 0 capacity new bs (λ k among. inl (gone k among)) among (omega (arith, room));
}

-- where a beginning of them is stored, none of that range leaves either
pub front_stays : (capacity n count k : ℕ) (new bs : List Block) → count - missing (numbers bs) n count + length new ≤ capacity → IsLed (numbers bs) n count →
    Stays (numbers bs) (numbers (stored capacity (take k new) bs)) n count []
front_stays capacity n count k new bs room led = record {
  kept = λ x low high is. stored-keeps x led.front capacity (take k new) bs (led.there x low high is) (omega (arith, led.few, room, length-take k new));
  came = λ x among. absurd (let e : false ≡ true = among in cc);
}
