-- Bringing blocks to the front.
use Rattle.std.proofs.Common.{◌≡◌, ◌||◌, ◌&&◌, ℕ, zero, suc, ◌+◌, ◌<◌, ◌≤◌, Bool, true, false, cond, not, List, [], ◌∷◌, ◌++◌, length, take, reverse, Option, Some, None, is_some, refl, sym, ap, ◌∙◌, subst, arith, nat_eq, inl, inr, ◌⊎◌, append-nil}
use Rattle.std.proofs.lemmas.Bool.{eqb-true}
use Rattle.std.proofs.lemmas.Bool.Decides.{eqb_tells}
use Rattle.std.proofs.lemmas.List.{reverse-append, length-reverse, map-append}
use Rattle.std.proofs.lemmas.List.Folds.{list_any-append}
use Rattle.std.proofs.lemmas.List.Elements.{filter_map-append, All-nil, All-cons, All-head, All-tail, All-push, All-same, All-append, All-filter}
use Rattle.std.proofs.Math.Seq.{take-append_seam}
use Rattle.std.specs.List.{All, filter, cons_option, range_with_len, AllByRecursion, IsDistinct}
use Rattle.std.specs.Map.{lookup_entry, remove_entry}
use Rattle.std.specs.Option.{option_map_or}
use Rattle.lru.specs.LruCache.{promoted}
use Rattle.range_cache.specs.Numbers.{has, missing, IsLed}
use Rattle.range_cache.specs.Cache.{Block, block_at, numbers, present, brought}
use Rattle.range_cache.proofs.Entries.{is_some-lookup_entry, lookup_entry-none, number_of_entry}

-- ranges of numbers

pub range-more : (a n : ℕ) → range_with_len a (n + 1) ≡ range_with_len a n ++ (a + n) ∷ []
range-more a zero = ap (λ k. k ∷ []) (omega arith)
range-more a (suc n) =
    let count : suc n + 1 ≡ suc (n + 1) = omega arith in
    let place : a + 1 + n ≡ a + suc n = omega arith in
    ap (range_with_len a) count ∙ ap (λ ns. a ∷ ns) (range-more (a + 1) n ∙ ap (λ k. range_with_len (a + 1) n ++ k ∷ []) place)

pub has-range_outside : (k a n : ℕ) → (k < a) ⊎ (a + n ≤ k) → has k (range_with_len a n) ≡ false
has-range_outside k a zero h = refl
has-range_outside k a (suc n) h = elim (eqb_tells k a) [
  | inl e ↦ let same = e.1 in absurd (elim h [ inl l ↦ omega arith | inr r ↦ omega arith ])
  | inr e ↦ let other = e.1 in
      let rest : (k < a + 1) ⊎ (a + 1 + n ≤ k) = elim h [ inl l ↦ inl (omega arith) | inr r ↦ inr (omega arith) ] in
      ap (λ b. b || has k (range_with_len (a + 1) n)) e.0 ∙ has-range_outside k (a + 1) n rest
]

pub has-range : (k a n : ℕ) → a ≤ k → k < a + n → has k (range_with_len a n) ≡ true
has-range k a zero low high = absurd (omega arith)
has-range k a (suc n) low high = elim (eqb_tells k a) [
  | inl e ↦ ap (λ b. b || has k (range_with_len (a + 1) n)) e.0
  | inr e ↦ let other = e.1 in ap (λ b. b || has k (range_with_len (a + 1) n)) e.0 ∙ has-range k (a + 1) n (omega arith) (omega arith)
]

-- whether a block is there after it

or_and : (s t r u : Bool) → (s ≡ true → r ≡ u) → ((s && r) || (t && r)) ≡ ((s && u) || (t && r))
or_and true t r u h = ap (λ b. b || (t && r)) (h refl)
or_and false t r u h = refl

numbers-append : (bs cs : List Block) → numbers (bs ++ cs) ≡ numbers bs ++ numbers cs
numbers-append bs cs = map-append (λ (b : Block). b.0) bs cs

has-append : (k : ℕ) (bs cs : List Block) → has k (numbers (bs ++ cs)) ≡ (has k (numbers bs) || has k (numbers cs))
has-append k bs cs = ap (has k) (numbers-append bs cs) ∙ list_any-append (nat_eq k) (numbers bs) (numbers cs)

or-false : (t : Bool) → (t || false) ≡ t
or-false true = refl
or-false false = refl

or-swap : (s t : Bool) → (s || t) ≡ (t || s)
or-swap true true = refl
or-swap true false = refl
or-swap false true = refl
or-swap false false = refl

has-reverse : (k : ℕ) (bs : List Block) → has k (numbers (reverse bs)) ≡ has k (numbers bs)
has-reverse k [] = refl
has-reverse k (b ∷ bs) =
    ap (λ cs. has k (numbers cs)) (reverse-append (b ∷ []) bs) ∙ has-append k (reverse bs) (b ∷ [])
    ∙ ap (λ t. t || has k (numbers (b ∷ []))) (has-reverse k bs) ∙ ap (λ t. has k (numbers bs) || t) (or-false (nat_eq k b.0)) ∙ or-swap (has k (numbers bs)) (nat_eq k b.0)

same_number : (k n : ℕ) (bs : List Block) → nat_eq k n ≡ true → has k (numbers bs) ≡ has n (numbers bs)
same_number k n bs t = ap (λ j. has j (numbers bs)) (eqb-true k n t)

and-true : (t : Bool) → (t && true) ≡ t
and-true true = refl
and-true false = refl

and-false : (t : Bool) → (t && false) ≡ false
and-false true = refl
and-false false = refl

-- of the blocks ns those are there that are
pub has-present : (k : ℕ) (ns : List ℕ) (bs : List Block) → has k (numbers (present ns bs)) ≡ (has k ns && has k (numbers bs))
has-present k [] bs = refl
has-present k (n ∷ ns) bs =
    (elim (lookup_entry (nat_eq n) bs) as (λ o. lookup_entry (nat_eq n) bs ≡ o → has k (numbers (cons_option o (present ns bs))) ≡ ((nat_eq k n || has k ns) && has k (numbers bs))) [
      | None ↦ λ none.
          let gone : has n (numbers bs) ≡ false = sym (is_some-lookup_entry n bs) ∙ ap is_some none in
          has-present k ns bs ∙ (elim (nat_eq k n) as (λ t. nat_eq k n ≡ t → (has k ns && has k (numbers bs)) ≡ ((t || has k ns) && has k (numbers bs))) [
            | true ↦ λ t. let none' : has k (numbers bs) ≡ false = same_number k n bs t ∙ gone in ap (λ u. has k ns && u) none' ∙ and-false (has k ns) ∙ sym none'
            | false ↦ λ _. refl
          ]) refl
      | Some b ↦ λ some.
          let here : has n (numbers bs) ≡ true = sym (is_some-lookup_entry n bs) ∙ ap is_some some in
          let number : n ≡ b.0 = eqb-true n b.0 (number_of_entry n bs b some) in
          ap (λ j. nat_eq k j || has k (numbers (present ns bs))) (sym number) ∙ ap (λ u. nat_eq k n || u) (has-present k ns bs)
          ∙ (elim (nat_eq k n) as (λ t. nat_eq k n ≡ t → (t || (has k ns && has k (numbers bs))) ≡ ((t || has k ns) && has k (numbers bs))) [
            | true ↦ λ t. sym (same_number k n bs t ∙ here)
            | false ↦ λ _. refl
          ]) refl
    ]) refl

same_in : (k n : ℕ) (ns : List ℕ) → nat_eq k n ≡ true → has k ns ≡ has n ns
same_in k n ns t = ap (λ j. has j ns) (eqb-true k n t)

-- and of the others those that are there
pub has-others : (k : ℕ) (ns : List ℕ) (bs : List Block) → has k (numbers (filter (λ b. not (has b.0 ns)) bs)) ≡ (not (has k ns) && has k (numbers bs))
has-others k ns [] = sym (and-false (not (has k ns)))
has-others k ns (b ∷ bs) =
    let others : List Block = filter (λ (c : Block). not (has c.0 ns)) bs in
    (elim (has b.0 ns) as (λ t. has b.0 ns ≡ t → has k (numbers (cond (not t) (b ∷ others) others)) ≡ (not (has k ns) && (nat_eq k b.0 || has k (numbers bs)))) [
      | true ↦ λ t. has-others k ns bs ∙ (elim (nat_eq k b.0) as (λ u. nat_eq k b.0 ≡ u → (not (has k ns) && has k (numbers bs)) ≡ (not (has k ns) && (u || has k (numbers bs)))) [
        | true ↦ λ u. let in_ns : has k ns ≡ true = same_in k b.0 ns u ∙ t in ap (λ v. not v && has k (numbers bs)) in_ns ∙ sym (ap (λ v. not v && true) in_ns)
        | false ↦ λ _. refl
      ]) refl
      | false ↦ λ t. ap (λ u. nat_eq k b.0 || u) (has-others k ns bs) ∙ (elim (nat_eq k b.0) as (λ u. nat_eq k b.0 ≡ u → (u || (not (has k ns) && has k (numbers bs))) ≡ (not (has k ns) && (u || has k (numbers bs)))) [
        | true ↦ λ u. let not_in : has k ns ≡ false = same_in k b.0 ns u ∙ t in sym (ap (λ v. not v && true) not_in)
        | false ↦ λ _. refl
      ]) refl
    ]) refl

split_by : (s t : Bool) → ((s && t) || (not s && t)) ≡ t
split_by true true = refl
split_by true false = refl
split_by false t = refl

pub has-brought : (k : ℕ) (ns : List ℕ) (bs : List Block) → has k (numbers (brought ns bs)) ≡ has k (numbers bs)
unfolding brought
has-brought k ns bs =
    let others : List Block = filter (λ (b : Block). not (has b.0 ns)) bs in
    has-append k (reverse (present ns bs)) others
    ∙ ap (λ t. t || has k (numbers others)) (has-reverse k (present ns bs) ∙ has-present k ns bs)
    ∙ ap (λ t. (has k ns && has k (numbers bs)) || t) (has-others k ns bs)
    ∙ split_by (has k ns) (has k (numbers bs))

-- promoting one more

lookup_entry-append : (n : ℕ) (bs cs : List Block) → has n (numbers bs) ≡ false → lookup_entry (nat_eq n) (bs ++ cs) ≡ lookup_entry (nat_eq n) cs
lookup_entry-append n [] cs h = refl
lookup_entry-append n (b ∷ bs) cs h =
    (elim (nat_eq n b.0) as (λ t. (t || has n (numbers bs)) ≡ false → cond t (Some b) (lookup_entry (nat_eq n) (bs ++ cs)) ≡ lookup_entry (nat_eq n) cs) [
      | true ↦ λ no. absurd (cc)
      | false ↦ λ rest. lookup_entry-append n bs cs rest
    ]) h

remove_entry-append : (n : ℕ) (bs cs : List Block) → has n (numbers bs) ≡ false → remove_entry (nat_eq n) (bs ++ cs) ≡ bs ++ remove_entry (nat_eq n) cs
remove_entry-append n [] cs h = refl
remove_entry-append n (b ∷ bs) cs h =
    (elim (nat_eq n b.0) as (λ t. (t || has n (numbers bs)) ≡ false → cond t (bs ++ cs) (b ∷ remove_entry (nat_eq n) (bs ++ cs)) ≡ b ∷ bs ++ remove_entry (nat_eq n) cs) [
      | true ↦ λ no. absurd (cc)
      | false ↦ λ rest. ap (λ l. b ∷ l) (remove_entry-append n bs cs rest)
    ]) h

lookup_entry-others : (n : ℕ) (ns : List ℕ) (bs : List Block) → has n ns ≡ false → lookup_entry (nat_eq n) (filter (λ b. not (has b.0 ns)) bs) ≡ lookup_entry (nat_eq n) bs
lookup_entry-others n ns [] h = refl
lookup_entry-others n ns (b ∷ bs) h =
    let others : List Block = filter (λ (c : Block). not (has c.0 ns)) bs in
    (elim (nat_eq n b.0) as (λ t. nat_eq n b.0 ≡ t → lookup_entry (nat_eq n) (cond (not (has b.0 ns)) (b ∷ others) others) ≡ cond t (Some b) (lookup_entry (nat_eq n) bs)) [
      | true ↦ λ t. let kept : has b.0 ns ≡ false = sym (same_in n b.0 ns t) ∙ h in
          ap (λ u. lookup_entry (nat_eq n) (cond (not u) (b ∷ others) others)) kept ∙ ap (λ u. cond u (Some b) (lookup_entry (nat_eq n) others)) t
      | false ↦ λ t. (elim (has b.0 ns) as (λ u. lookup_entry (nat_eq n) (cond (not u) (b ∷ others) others) ≡ lookup_entry (nat_eq n) bs) [
        | true ↦ lookup_entry-others n ns bs h
        | false ↦ ap (λ u. cond u (Some b) (lookup_entry (nat_eq n) others)) t ∙ lookup_entry-others n ns bs h
      ])
    ]) refl

has-push : (k n : ℕ) (ns : List ℕ) → has k (ns ++ n ∷ []) ≡ (has k ns || nat_eq k n)
has-push k n ns = list_any-append (nat_eq k) ns (n ∷ []) ∙ ap (λ t. has k ns || t) (or-false (nat_eq k n))

eq-swap : (a b : ℕ) → nat_eq a b ≡ nat_eq b a
eq-swap a b = elim (eqb_tells a b) [
  | inl e ↦ e.0 ∙ sym (elim (eqb_tells b a) as (λ _. nat_eq b a ≡ true) [ inl f ↦ f.0 | inr f ↦ absurd (f.1 (sym e.1)) ])
  | inr e ↦ e.0 ∙ sym (elim (eqb_tells b a) as (λ _. nat_eq b a ≡ false) [ inl f ↦ absurd (e.1 (sym f.1)) | inr f ↦ f.0 ])
]

-- no other block has the number
others-gone : (n : ℕ) (ns : List ℕ) (bs : List Block) → has n (numbers bs) ≡ false →
    filter (λ b. not (has b.0 (ns ++ n ∷ []))) bs ≡ filter (λ b. not (has b.0 ns)) bs
others-gone n ns [] h = refl
others-gone n ns (b ∷ bs) h =
    let more : List Block = filter (λ (c : Block). not (has c.0 (ns ++ n ∷ []))) bs in
    let other : nat_eq n b.0 ≡ false = (elim (nat_eq n b.0) as (λ t. (t || has n (numbers bs)) ≡ false → t ≡ false) [ true ↦ λ no. no | false ↦ λ _. refl ]) h in
    let rest : has n (numbers bs) ≡ false = sym (ap (λ t. t || has n (numbers bs)) other) ∙ h in
    let test : has b.0 (ns ++ n ∷ []) ≡ has b.0 ns = has-push b.0 n ns ∙ ap (λ t. has b.0 ns || t) (eq-swap b.0 n ∙ other) ∙ or-false (has b.0 ns) in
    ap (λ t. cond (not t) (b ∷ more) more) test ∙ ap (λ l. cond (not (has b.0 ns)) (b ∷ l) l) (others-gone n ns bs rest)

gone_after : (b : Block) (bs : List Block) → AllByRecursion (λ y. nat_eq b.0 y ≡ false) (numbers bs) → has b.0 (numbers bs) ≡ false
gone_after b [] h = refl
gone_after b (c ∷ bs) h = ap (λ t. t || has b.0 (numbers bs)) h.0 ∙ gone_after b bs h.1

-- the block with the number goes, and no other
remove_entry-others : (n : ℕ) (ns : List ℕ) (bs : List Block) → IsDistinct nat_eq (numbers bs) → has n ns ≡ false →
    remove_entry (nat_eq n) (filter (λ b. not (has b.0 ns)) bs) ≡ filter (λ b. not (has b.0 (ns ++ n ∷ []))) bs
unfolding IsDistinct
remove_entry-others n ns [] apart h = refl
remove_entry-others n ns (b ∷ bs) apart h =
    let others : List Block = filter (λ (c : Block). not (has c.0 ns)) bs in
    let more : List Block = filter (λ (c : Block). not (has c.0 (ns ++ n ∷ []))) bs in
    (elim (nat_eq n b.0) as (λ t. nat_eq n b.0 ≡ t → remove_entry (nat_eq n) (cond (not (has b.0 ns)) (b ∷ others) others) ≡ cond (not (has b.0 (ns ++ n ∷ []))) (b ∷ more) more) [
      | true ↦ λ t.
          let kept : has b.0 ns ≡ false = sym (same_in n b.0 ns t) ∙ h in
          let goes : has b.0 (ns ++ n ∷ []) ≡ true = has-push b.0 n ns ∙ ap (λ u. u || nat_eq b.0 n) kept ∙ eq-swap b.0 n ∙ t in
          let alone : has n (numbers bs) ≡ false = same_number n b.0 bs t ∙ gone_after b bs apart.0 in
          ap (λ u. remove_entry (nat_eq n) (cond (not u) (b ∷ others) others)) kept
          ∙ ap (λ u. cond u others (b ∷ remove_entry (nat_eq n) others)) t
          ∙ sym (others-gone n ns bs alone) ∙ sym (ap (λ u. cond (not u) (b ∷ more) more) goes)
      | false ↦ λ t.
          let test : has b.0 (ns ++ n ∷ []) ≡ has b.0 ns = has-push b.0 n ns ∙ ap (λ u. has b.0 ns || u) (eq-swap b.0 n ∙ t) ∙ or-false (has b.0 ns) in
          let rest = remove_entry-others n ns bs apart.1 h in
          (elim (has b.0 ns) as (λ u. remove_entry (nat_eq n) (cond (not u) (b ∷ others) others) ≡ cond (not u) (b ∷ more) more) [
            | true ↦ rest
            | false ↦ ap (λ u. cond u others (b ∷ remove_entry (nat_eq n) others)) t ∙ ap (λ l. b ∷ l) rest
          ])
          ∙ sym (ap (λ u. cond (not u) (b ∷ more) more) test)
    ]) refl

-- one block more is brought to the front
pub brought-push : (n : ℕ) (ns : List ℕ) (bs : List Block) → IsDistinct nat_eq (numbers bs) → has n ns ≡ false →
    promoted (nat_eq n) (brought ns bs) ≡ brought (ns ++ n ∷ []) bs
unfolding brought
brought-push n ns bs apart new =
    let front : List Block = reverse (present ns bs) in
    let others : List Block = filter (λ (b : Block). not (has b.0 ns)) bs in
    let more : List Block = filter (λ (b : Block). not (has b.0 (ns ++ n ∷ []))) bs in
    let absent : has n (numbers front) ≡ false = has-reverse n (present ns bs) ∙ has-present n ns bs ∙ ap (λ t. t && has n (numbers bs)) new in
    let found : lookup_entry (nat_eq n) (front ++ others) ≡ lookup_entry (nat_eq n) bs = lookup_entry-append n front others absent ∙ lookup_entry-others n ns bs new in
    let left : remove_entry (nat_eq n) (front ++ others) ≡ front ++ more = remove_entry-append n front others absent ∙ ap (λ l. front ++ l) (remove_entry-others n ns bs apart new) in
    let goal : Option Block → Type 0 = λ o. option_map_or (λ b. b ∷ (front ++ more)) o (front ++ others) ≡ reverse (present ns bs ++ cons_option o []) ++ more in
    ap (λ o. option_map_or (λ b. b ∷ remove_entry (nat_eq n) (front ++ others)) o (front ++ others)) found
    ∙ ap (λ l. option_map_or (λ b. b ∷ l) (lookup_entry (nat_eq n) bs) (front ++ others)) left
    ∙ (elim (lookup_entry (nat_eq n) bs) as (λ o. lookup_entry (nat_eq n) bs ≡ o → goal o) [
      | None ↦ λ none.
          let gone : has n (numbers bs) ≡ false = sym (is_some-lookup_entry n bs) ∙ ap is_some none in
          ap (λ l. front ++ l) (sym (others-gone n ns bs gone)) ∙ ap (λ l. reverse l ++ more) (sym (append-nil (present ns bs)))
      | Some b ↦ λ _. ap (λ l. l ++ more) (sym (reverse-append (present ns bs) (b ∷ [])))
    ]) refl
    ∙ ap (λ l. reverse l ++ more) (sym (filter_map-append (λ k. lookup_entry (nat_eq k) bs) ns (n ∷ [])))

-- those that are there lead

filter-same : (p q : ℕ → Bool) (ns : List ℕ) → ((k : ℕ) → p k ≡ q k) → filter p ns ≡ filter q ns
filter-same p q [] h = refl
filter-same p q (n ∷ ns) h = ap (λ t. cond t (n ∷ filter p ns) (filter p ns)) (h n) ∙ ap (λ l. cond (q n) (n ∷ l) l) (filter-same p q ns h)

pub missing-same : (xs ys : List ℕ) (n count : ℕ) → ((k : ℕ) → has k xs ≡ has k ys) → missing xs n count ≡ missing ys n count
unfolding missing
missing-same xs ys n count h = ap length (filter-same (λ k. not (has k xs)) (λ k. not (has k ys)) (range_with_len n count) (λ k. ap not (h k)))

-- each of the blocks is present or missing
pub length-present : (ns : List ℕ) (bs : List Block) → length (present ns bs) + length (filter (λ k. not (has k (numbers bs))) ns) ≡ length ns
length-present [] bs = refl
length-present (n ∷ ns) bs =
    let gone : List ℕ = filter (λ k. not (has k (numbers bs))) ns in
    let rest = length-present ns bs in
    (elim (lookup_entry (nat_eq n) bs) as (λ o. lookup_entry (nat_eq n) bs ≡ o → length (cons_option o (present ns bs)) + length (cond (not (has n (numbers bs))) (n ∷ gone) gone) ≡ suc (length ns)) [
      | None ↦ λ none. let absent : has n (numbers bs) ≡ false = sym (is_some-lookup_entry n bs) ∙ ap is_some none in
          ap (λ t. length (present ns bs) + length (cond (not t) (n ∷ gone) gone)) absent ∙ omega (arith, rest)
      | Some b ↦ λ some. let here : has n (numbers bs) ≡ true = sym (is_some-lookup_entry n bs) ∙ ap is_some some in
          ap (λ t. suc (length (present ns bs)) + length (cond (not t) (n ∷ gone) gone)) here ∙ omega (arith, rest)
    ]) refl

length-range : (a n : ℕ) → length (range_with_len a n) ≡ n
length-range a zero = refl
length-range a (suc n) = ap suc (length-range (a + 1) n)

length-map-numbers : (bs : List Block) → length (numbers bs) ≡ length bs
length-map-numbers [] = refl
length-map-numbers (b ∷ bs) = ap suc (length-map-numbers bs)

pub led-brought : (n count : ℕ) (bs : List Block) → IsLed (numbers (brought (range_with_len n count) bs)) n count
unfolding brought missing
led-brought n count bs =
    let ns : List ℕ = range_with_len n count in
    let front : List Block = reverse (present ns bs) in
    let others : List Block = filter (λ (b : Block). not (has b.0 ns)) bs in
    let same : missing (numbers (brought ns bs)) n count ≡ missing (numbers bs) n count = missing-same (numbers (brought ns bs)) (numbers bs) n count (λ k. has-brought k ns bs) in
    let fronts : take (length (numbers front)) (numbers front ++ numbers others) ≡ numbers front = take-append_seam (numbers front) (numbers others) in
    record {
      front = length (numbers front);
      few = omega (arith, same, length-present ns bs, length-range n count, length-reverse (present ns bs), length-map-numbers front);
      there = λ k low high is.
          let in_front : has k (numbers front) ≡ true = has-reverse k (present ns bs) ∙ has-present k ns bs
          ∙ ap (λ t. t && has k (numbers bs)) (has-range k n count low high) ∙ sym (has-brought k ns bs) ∙ is in
          ap (λ l. has k (take (length (numbers front)) l)) (numbers-append front others) ∙ ap (has k) fronts ∙ in_front;
    }

-- nothing is brought
kept-all : (bs : List Block) → filter (λ b. not (has b.0 [])) bs ≡ bs
kept-all [] = refl
kept-all (b ∷ bs) = ap (λ l. b ∷ l) (kept-all bs)

pub brought-none : (n count : ℕ) (bs : List Block) → count ≡ 0 → brought (range_with_len n count) bs ≡ bs
unfolding brought
brought-none n count bs none = ap (λ k. reverse (present (range_with_len n k) bs) ++ filter (λ b. not (has b.0 (range_with_len n k))) bs) none ∙ kept-all bs

-- what holds of each block holds of each after it

All-reverse : (P : Block → Type 0) (bs : List Block) → All P bs → All P (reverse bs)
All-reverse P [] all = all
All-reverse P (b ∷ bs) all =
    All-same P (reverse (b ∷ bs)) (reverse bs ++ b ∷ []) (reverse-append (b ∷ []) bs) (All-push P (reverse bs) b (All-reverse P bs (All-tail P b bs all)) (All-head P b bs all))

-- what holds of each block holds of one that is found
pub All-found : (P : Block → Type 0) (n : ℕ) (bs : List Block) (b : Block) → All P bs → lookup_entry (nat_eq n) bs ≡ Some b → P b
All-found P n [] b all is = cc
All-found P n (c ∷ bs) b all is =
    (elim (nat_eq n c.0) as (λ t. cond t (Some c) (lookup_entry (nat_eq n) bs) ≡ Some b → P b) [
      | true ↦ λ is. let same : c ≡ b = cc in subst P same (All-head P c bs all)
      | false ↦ λ is. All-found P n bs b (All-tail P c bs all) is
    ]) is

All-present : (P : Block → Type 0) (ns : List ℕ) (bs : List Block) → All P bs → All P (present ns bs)
All-present P [] bs all = All-nil P
All-present P (n ∷ ns) bs all =
    (elim (lookup_entry (nat_eq n) bs) as (λ o. lookup_entry (nat_eq n) bs ≡ o → All P (cons_option o (present ns bs))) [
      | None ↦ λ _. All-present P ns bs all
      | Some b ↦ λ is. All-cons P b (present ns bs) (All-found P n bs b all is) (All-present P ns bs all)
    ]) refl

pub All-brought : (P : Block → Type 0) (ns : List ℕ) (bs : List Block) → All P bs → All P (brought ns bs)
unfolding brought
All-brought P ns bs all =
    All-append P (reverse (present ns bs)) (filter (λ b. not (has b.0 ns)) bs) (All-reverse P (present ns bs) (All-present P ns bs all))
    (All-filter (λ b. not (has b.0 ns)) P bs all)

-- each block is the same after it

abbrev IsFound : ℕ → List Block → Block → Type 0
IsFound k bs b = nat_eq k b.0 ≡ true → block_at k bs ≡ Some b

All-present_found : (k : ℕ) (ns : List ℕ) (bs : List Block) → All (IsFound k bs) (present ns bs)
All-present_found k [] bs = All-nil (IsFound k bs)
All-present_found k (n ∷ ns) bs =
    (elim (block_at n bs) as (λ o. block_at n bs ≡ o → All (IsFound k bs) (cons_option o (present ns bs))) [
      | None ↦ λ _. All-present_found k ns bs
      | Some b ↦ λ is.
          let here : IsFound k bs b = λ t. ap (λ m. block_at m bs) (eqb-true k b.0 t ∙ sym (eqb-true n b.0 (number_of_entry n bs b is))) ∙ is in
          All-cons (IsFound k bs) b (present ns bs) here (All-present_found k ns bs)
    ]) refl

-- the block is among the first ones, which were found
block_at-found : (k : ℕ) (bs cs ds : List Block) → All (IsFound k bs) cs → has k (numbers cs) ≡ true → block_at k (cs ++ ds) ≡ block_at k bs
block_at-found k bs [] ds all h = cc
block_at-found k bs (c ∷ cs) ds all h =
    (elim (nat_eq k c.0) as (λ t. nat_eq k c.0 ≡ t → (t || has k (numbers cs)) ≡ true → cond t (Some c) (block_at k (cs ++ ds)) ≡ block_at k bs) [
      | true ↦ λ t _. sym (All-head (IsFound k bs) c cs all t)
      | false ↦ λ _ rest. block_at-found k bs cs ds (All-tail (IsFound k bs) c cs all) rest
    ]) refl h

pub block_at-brought : (k : ℕ) (ns : List ℕ) (bs : List Block) → block_at k (brought ns bs) ≡ block_at k bs
unfolding brought
block_at-brought k ns bs =
    let front : List Block = reverse (present ns bs) in
    let others : List Block = filter (λ (b : Block). not (has b.0 ns)) bs in
    let in_front : has k (numbers front) ≡ (has k ns && has k (numbers bs)) = has-reverse k (present ns bs) ∙ has-present k ns bs in
    (elim (has k (numbers front)) as (λ t. has k (numbers front) ≡ t → block_at k (front ++ others) ≡ block_at k bs) [
      | true ↦ λ t. block_at-found k bs front others (All-reverse (IsFound k bs) (present ns bs) (All-present_found k ns bs)) t
      | false ↦ λ t. lookup_entry-append k front others t ∙ (elim (has k ns) as (λ u. has k ns ≡ u → block_at k others ≡ block_at k bs) [
        | true ↦ λ u.
            let gone : has k (numbers bs) ≡ false = sym (ap (λ v. v && has k (numbers bs)) u) ∙ sym in_front ∙ t in
            let gone' : has k (numbers others) ≡ false = has-others k ns bs ∙ ap (λ v. not v && has k (numbers bs)) u in
            lookup_entry-none k others gone' ∙ sym (lookup_entry-none k bs gone)
        | false ↦ λ u. lookup_entry-others k ns bs u
      ]) refl
    ]) refl
