-- The laws of the definitions.
use Rattle.std.proofs.Common.{◌≡◌, ◌||◌, Some, ℕ, zero, suc, ◌+◌, ◌-◌, ◌*◌, ◌/◌, ◌<◌, ◌≤◌, Bool, true, false, cond, List, [], ◌∷◌, length, map, take, max, refl, sym, ap, ◌∙◌, subst, arith, inl, inr, nat_eq}
use Rattle.std.specs.Prelude.{is_some}
use Rattle.std.proofs.lemmas.Bool.{cases_lt, cases_Bool, and_parts, eqb-true}
use Rattle.std.proofs.lemmas.Bool.Decides.{eqb_tells}
use Rattle.std.proofs.lemmas.List.{length-map}
use Rattle.std.proofs.lemmas.List.Elements.{All-head, All-tail, All-take}
use Rattle.std.specs.List.{All, filter, range_with_len}
use Rattle.extents.specs.declared.span.Span.{Span}
use Rattle.extents.specs.Block.{block_count}
use Rattle.range_cache.specs.Numbers.{has, missing, AreGone, IsGap, IsLed, Stays}
use Rattle.range_cache.specs.Cache.{Block, Blocks, block_at, numbers, put_one, stored, stores, Holds}
use Rattle.range_cache.specs.Piece.{block_in, is_brought, whole_blocks, IsPieceOf}
use Rattle.range_cache.specs.Laws.{HaveSame}
use Rattle.range_cache.proofs.Bytes.{IsOf}
use Rattle.range_cache.proofs.Stored.{All-stored, missing-none, missing-next, stored_stays}
use Rattle.range_cache.proofs.Whole.{all_brought, all_whole, lies_in}

both : (b : Bool) → b ≡ true → b ≡ false → ⊥
both b t f = let e : true ≡ false = sym t ∙ f in cc

not_before : (ns ms : List ℕ) (n count from to begin end : ℕ) → HaveSame ns ms → IsGap ns n count from to → IsGap ms n count begin end → begin ≤ from
not_before ns ms n count from to begin end same gap other = elim (cases_lt from begin) [
  | inl lt ↦ absurd (both (has from ns) (same from ∙ other.before from gap.begins lt) (gap.gone from (omega arith) gap.some))
  | inr le ↦ le
]

not_past : (ns ms : List ℕ) (n count from to begin end : ℕ) → HaveSame ns ms → IsGap ns n count from to → IsGap ms n count begin end → begin ≤ from → end ≤ to
not_past ns ms n count from to begin end same gap other low = elim (cases_lt to end) [
  | inl lt ↦ absurd (both (has to ns) (gap.ends (omega (arith, lt, other.within))) (same to ∙ other.gone to (omega (arith, low, gap.some)) lt))
  | inr le ↦ le
]

pub one_gap : (ns ms : List ℕ) (n count from to begin end : ℕ) → HaveSame ns ms → IsGap ns n count from to → IsGap ms n count begin end → (from ≡ begin) × (to ≡ end)
one_gap ns ms n count from to begin end same gap other =
    let swap : HaveSame ms ns = λ k. sym (same k) in
    let a = not_before ns ms n count from to begin end same gap other in
    let b = not_before ms ns n count begin end from to swap other gap in
    let c = not_past ns ms n count from to begin end same gap other a in
    let d = not_past ms ns n count begin end from to swap other gap b in
    (omega (arith, a, b), omega (arith, c, d))

pub found_there : (k : ℕ) (bs : List Block) → has k (numbers bs) ≡ is_some (block_at k bs)
found_there k [] = refl
found_there k (b ∷ bs) = elim (nat_eq k b.0) as (λ t. (t || has k (numbers bs)) ≡ is_some (cond t (Some b) (block_at k bs))) [
  | true ↦ refl
  | false ↦ found_there k bs
]

at_most_one : (t : Bool) → cond t 0 1 ≤ 1
at_most_one true = omega arith
at_most_one false = omega arith

pub missing-few : (ns : List ℕ) (n count : ℕ) → missing ns n count ≤ count
missing-few ns n zero = omega (arith, missing-none ns n)
missing-few ns n (suc count) = omega (arith, missing-next ns n count, at_most_one (has n ns), missing-few ns (n + 1) count)

pub missing-some : (ns : List ℕ) (n count k : ℕ) → n ≤ k → k < n + count → has k ns ≡ false → 1 ≤ missing ns n count
missing-some ns n zero k low high gone = absurd (omega arith)
missing-some ns n (suc count) k low high gone = elim (eqb_tells k n) [
  | inl e ↦
      let here : cond (has n ns) 0 1 ≡ 1 = ap {B = ℕ} (λ u. cond u 0 1) (ap (λ m. has m ns) (sym e.1) ∙ gone) in
      omega (arith, missing-next ns n count, here)
  | inr e ↦ let other = e.1 in omega (arith, missing-next ns n count, missing-some ns (n + 1) count k (omega arith) (omega arith) gone)
]

pub stores-few : (capacity : ℕ) (new bs : List Block) → stores capacity new bs ≤ length new
unfolding stores
stores-few capacity [] bs = omega arith
stores-few capacity (b ∷ new) bs = omega (arith, at_most_one (has b.0 (numbers bs)), stores-few capacity new (put_one capacity bs b))

pub stores-some : (capacity : ℕ) (new bs : List Block) (n : ℕ) → has n (numbers new) ≡ true → has n (numbers bs) ≡ false → 1 ≤ stores capacity new bs
unfolding stores
stores-some capacity [] bs n among gone = absurd (both false among refl)
stores-some capacity (b ∷ new) bs n among gone = elim (cases_Bool (has b.0 (numbers bs))) [
  | inl t ↦
      let kept : put_one capacity bs b ≡ bs = ap (λ u. cond u bs (b ∷ take (capacity - 1) bs)) t in
      let other : nat_eq n b.0 ≡ false = elim (eqb_tells n b.0) [
        | inl e ↦ absurd (both (has n (numbers bs)) (ap (λ k. has k (numbers bs)) e.1 ∙ t) gone)
        | inr e ↦ e.0
      ] in
      let rest : has n (numbers new) ≡ true = sym (ap (λ u. u || has n (numbers new)) other) ∙ among in
      let some = stores-some capacity new bs n rest gone in
      let same = ap (stores capacity new) kept in
      omega (arith, some, same)
  | inr f ↦
      let one : cond (has b.0 (numbers bs)) 0 1 ≡ 1 = ap {B = ℕ} (λ u. cond u 0 1) f in
      omega (arith, one)
]

has-filter : (p : ℕ → Bool) (block : ℕ → Block) (n a count : ℕ) → ((k : ℕ) → (block k).0 ≡ k) → p n ≡ true → a ≤ n → n < a + count →
    has n (numbers (map block (filter p (range_with_len a count)))) ≡ true
has-filter p block n a zero named t low high = absurd (omega arith)
has-filter p block n a (suc count) named t low high =
    let rest : List ℕ = filter p (range_with_len (a + 1) count) in
    elim (eqb_tells n a) [
      | inl e ↦ let here : p a ≡ true = ap p (sym e.1) ∙ t in
          ap (λ u. has n (numbers (map block (cond u (a ∷ rest) rest)))) here ∙ ap (λ k. nat_eq n k || has n (numbers (map block rest))) (named a) ∙ ap (λ u. u || has n (numbers (map block rest))) e.0
      | inr e ↦
          let other = e.1 in
          let later = has-filter p block n (a + 1) count named t (omega arith) (omega arith) in
          elim (p a) as (λ u. has n (numbers (map block (cond u (a ∷ rest) rest))) ≡ true) [
            | true ↦ ap (λ k. nat_eq n k || has n (numbers (map block rest))) (named a) ∙ ap (λ u. u || has n (numbers (map block rest))) e.0 ∙ later
            | false ↦ later
          ]
    ]

pub whole-brought : (file_length first : ℕ) (bytes : List ℕ) (wanted : Span) (n : ℕ) →
    is_brought file_length first (length bytes) wanted n ≡ true → has n (numbers (whole_blocks file_length first bytes wanted)) ≡ true
unfolding whole_blocks
whole-brought file_length first bytes wanted n t =
    let lies = lies_in file_length first (first + length bytes) n (and_parts _ _ t).0 in
    has-filter (is_brought file_length first (length bytes) wanted) (block_in file_length first bytes) n 0 (block_count file_length) (λ k. refl) t (omega arith) (omega (arith, lies.there))

length-filter-between : (p : ℕ → Bool) (lo hi a count : ℕ) → ((k : ℕ) → a ≤ k → p k ≡ true → (lo ≤ k) × (k < hi)) → length (filter p (range_with_len a count)) ≤ hi - max lo a
length-filter-between p lo hi a zero only = omega arith
length-filter-between p lo hi a (suc count) only =
    let rest : List ℕ = filter p (range_with_len (a + 1) count) in
    let later = length-filter-between p lo hi (a + 1) count (λ k above t. only k (omega arith) t) in
    (elim (p a) as (λ u. p a ≡ u → length (cond u (a ∷ rest) rest) ≤ hi - max lo a) [
      | true ↦ λ t. let here = only a (omega arith) t in omega (arith, here.0, here.1, later)
      | false ↦ λ _. omega (arith, later)
    ]) refl

pub whole-few : (file_length first : ℕ) (bytes : List ℕ) (wanted : Span) (n : ℕ) → wanted.last < wanted.first + n * 16384 → length (whole_blocks file_length first bytes wanted) ≤ n
unfolding whole_blocks
whole-few file_length first bytes wanted n short =
    let p : ℕ → Bool = is_brought file_length first (length bytes) wanted in
    let lo : ℕ = (wanted.first + 16383) / 16384 in
    let hi : ℕ = wanted.last / 16384 + 1 in
    let inside : (k : ℕ) → 0 ≤ k → p k ≡ true → (lo ≤ k) × (k < hi) = λ k _ t.
    let lies = lies_in file_length wanted.first (wanted.last + 1) k (and_parts _ _ t).1 in
    (omega (arith, lies.begins), omega (arith, lies.there, lies.ends)) in
    let few = length-filter-between p lo hi 0 (block_count file_length) inside in
    let same = length-map (filter p (range_with_len 0 (block_count file_length))) (block_in file_length first bytes) in
    omega (arith, few, same, short)

-- blocks of a piece of f are f's, and so are they where they are stored

pub stored_holds : (f : List ℕ) (c : Blocks) (file_length first : ℕ) (bytes : List ℕ) (wanted : Span) → file_length ≡ length f → IsPieceOf f first bytes → Holds f c →
    Holds f (record c { entries = stored c.capacity (whole_blocks file_length first bytes wanted) c.entries })
unfolding Holds
stored_holds f c file_length first bytes wanted whole piece held =
    All-stored (IsOf f) c.capacity (whole_blocks file_length first bytes wanted) c.entries (all_whole f bytes file_length first wanted whole piece) held

pub front_holds : (f : List ℕ) (c : Blocks) (file_length first : ℕ) (bytes : List ℕ) (wanted : Span) (k : ℕ) → file_length ≡ length f → IsPieceOf f first bytes → Holds f c →
    Holds f (record c { entries = stored c.capacity (take k (whole_blocks file_length first bytes wanted)) c.entries })
unfolding Holds
front_holds f c file_length first bytes wanted k whole piece held =
    let new : List Block = whole_blocks file_length first bytes wanted in
    All-stored (IsOf f) c.capacity (take k new) c.entries (All-take (IsOf f) k new (all_whole f bytes file_length first wanted whole piece)) held

-- nothing that is stored is there, and there is room for it

pub law_stored_stay : (c : Blocks) (file_length first : ℕ) (bytes : List ℕ) (wanted : Span) (n count : ℕ) → AreGone (numbers c.entries) (numbers (whole_blocks file_length first bytes wanted))
    → count - missing (numbers c.entries) n count + length (whole_blocks file_length first bytes wanted) ≤ c.capacity → IsLed (numbers c.entries) n count
    → Stays (numbers c.entries) (numbers (stored c.capacity (whole_blocks file_length first bytes wanted) c.entries)) n count (numbers (whole_blocks file_length first bytes wanted))
law_stored_stay c file_length first bytes wanted n count gone room led = stored_stays c.capacity n count (whole_blocks file_length first bytes wanted) c.entries gone room led

-- a run that is missing is among what is missing

pub missing-run : (ns : List ℕ) (n count from to : ℕ) → n ≤ from → to ≤ n + count → ((k : ℕ) → from ≤ k → k < to → has k ns ≡ false) → to - from ≤ missing ns n count
missing-run ns n zero from to low high gone = omega arith
missing-run ns n (suc count) from to low high gone = elim (cases_lt n from) [
  | inl lt ↦ omega (arith, missing-next ns n count, missing-run ns (n + 1) count from to (omega arith) (omega arith) gone)
  | inr le ↦ elim (cases_lt from to) [
    | inl some ↦
        let here : cond (has n ns) 0 1 ≡ 1 = ap {B = ℕ} (λ u. cond u 0 1) (gone n (omega arith) (omega arith)) in
        let rest = missing-run ns (n + 1) count (n + 1) to (omega arith) (omega arith) (λ k above below. gone k (omega arith) below) in
        omega (arith, missing-next ns n count, here, rest)
    | inr none ↦ omega arith
  ]
]

-- a piece brings no other blocks than those that lie wholly in it and in what is wanted

among_all : (P : ℕ → Type 0) (n : ℕ) (bs : List Block) → All (λ b. P b.0) bs → has n (numbers bs) ≡ true → P n
among_all P n [] all among = absurd (both false among refl)
among_all P n (b ∷ bs) all among =
    (elim (nat_eq n b.0) as (λ t. nat_eq n b.0 ≡ t → (t || has n (numbers bs)) ≡ true → P n) [
      | true ↦ λ t _. subst P (sym (eqb-true n b.0 t)) (All-head (λ (c : Block). P c.0) b bs all)
      | false ↦ λ _ later. among_all P n bs (All-tail (λ (c : Block). P c.0) b bs all) later
    ]) refl among

pub only-brought : (file_length first : ℕ) (bytes : List ℕ) (wanted : Span) (n : ℕ) →
    has n (numbers (whole_blocks file_length first bytes wanted)) ≡ true → is_brought file_length first (length bytes) wanted n ≡ true
unfolding whole_blocks
only-brought file_length first bytes wanted n among =
    let P : ℕ → Type 0 = λ k. is_brought file_length first (length bytes) wanted k ≡ true in
    among_all P n (whole_blocks file_length first bytes wanted) (all_brought (λ b. P b.0) file_length first bytes wanted (λ k t. t) (range_with_len 0 (block_count file_length))) among
