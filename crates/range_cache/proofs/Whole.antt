-- The blocks that a piece brings.
use Rattle.std.proofs.Common.{◌≡◌, ◌⊎◌, ℕ, zero, suc, ◌+◌, ◌-◌, ◌*◌, ◌/◌, ◌<◌, ◌≤◌, Bool, true, false, cond, List, [], ◌∷◌, length, take, drop, map, min, max, refl, sym, ap, ◌∙◌, arith, inl, inr, length-drop}
use Rattle.std.proofs.lemmas.Bool.{lt-ltb, ltb-true, le-leb, leb-true, and_parts, and_from, cases_Bool, cases_lt}
use Rattle.std.proofs.lemmas.List.{take_min}
use Rattle.std.proofs.lemmas.List.Elements.{All-nil, All-cons}
use Rattle.std.proofs.lemmas.Bool.Decides.{eqb_tells}
use Rattle.std.specs.Int.{div_ceil}
use Rattle.std.specs.List.{All, filter, range_with_len, slice_range}
use Rattle.extents.specs.declared.span.Span.{Span}
use Rattle.extents.specs.Block.{block_count, end_of, is_whole}
use Rattle.range_cache.specs.Cache.{Block}
use Rattle.range_cache.specs.Piece.{block_in, is_brought, whole_blocks, IsPieceOf}
use Rattle.range_cache.proofs.Bytes.{slice_of_slice, IsOf}

-- where a block that lies wholly in some places lies
pub record LiesIn (file_length first end n : ℕ) : Type 0 where
  pub there : n * 16384 < file_length
  pub begins : first ≤ n * 16384
  pub ends : min ((n + 1) * 16384) file_length ≤ end

pub lies_in : (file_length first end n : ℕ) → is_whole file_length first end n ≡ true → LiesIn file_length first end n
lies_in file_length first end n t =
    let outer = and_parts _ _ t in
    let inner = and_parts _ _ outer.0 in
    record { there = ltb-true _ _ inner.0; begins = leb-true _ _ inner.1; ends = leb-true _ _ outer.1 }

pub lies_whole : (file_length first end n : ℕ) → LiesIn file_length first end n → is_whole file_length first end n ≡ true
lies_whole file_length first end n l = and_from _ _ (and_from _ _ (lt-ltb _ _ l.there) (le-leb _ _ l.begins)) (le-leb _ _ l.ends)

-- a test that passes from lo up to hi
filter-between : (p : ℕ → Bool) (lo hi a n : ℕ) → a ≤ lo → hi ≤ a + n →
    ((k : ℕ) → lo ≤ k → k < hi → p k ≡ true) → ((k : ℕ) → a ≤ k → p k ≡ true → (lo ≤ k) × (k < hi)) →
    filter p (range_with_len a n) ≡ range_with_len lo (hi - lo)
filter-between p lo hi a zero low high passes only = let none : hi - lo ≡ 0 = omega arith in sym (ap (range_with_len lo) none)
filter-between p lo hi a (suc n) low high passes only =
    let rest : List ℕ = filter p (range_with_len (a + 1) n) in
    elim (cases_Bool (p a)) [
      | inl t ↦
          let here = only a (omega arith) t in
          let at : lo ≡ a = omega (arith, here.0) in
          let count : hi - lo ≡ suc (hi - (a + 1)) = omega (arith, here.0, here.1) in
          let tail : rest ≡ range_with_len (a + 1) (hi - (a + 1)) = filter-between p (a + 1) hi (a + 1) n (omega arith) (omega arith)
          (λ k above below. passes k (omega arith) below)
          (λ k above u. (above, (only k (omega arith) u).1)) in
          ap (λ b. cond b (a ∷ rest) rest) t ∙ ap (λ l. a ∷ l) tail
          ∙ sym (ap (range_with_len lo) count ∙ ap (λ k. range_with_len k (suc (hi - (a + 1)))) at)
      | inr f ↦ ap (λ b. cond b (a ∷ rest) rest) f ∙ elim (eqb_tells lo a) [
        | inl e ↦
            let at : lo ≡ a = e.1 in
            let past : hi ≤ a = elim (cases_lt a hi) [ inl lt ↦ absurd (let both : true ≡ false = sym (passes a (omega arith) lt) ∙ f in cc) | inr ge ↦ ge ] in
            let none : hi - lo ≡ 0 = omega arith in
            let none' : hi - (a + 1) ≡ 0 = omega arith in
            let tail : rest ≡ range_with_len (a + 1) (hi - (a + 1)) = filter-between p (a + 1) hi (a + 1) n (omega arith) (omega arith)
            (λ k above below. absurd (omega arith))
            (λ k above u. (above, (only k (omega arith) u).1)) in
            tail ∙ ap (range_with_len (a + 1)) none' ∙ sym (ap (range_with_len lo) none)
        | inr e ↦ let other = e.1 in
            filter-between p lo hi (a + 1) n (omega arith) (omega arith) passes (λ k above u. only k (omega arith) u)
      ]
    ]

-- where what a piece brings begins and ends, as it is computed
pub record IsBetween (file_length first len : ℕ) (wanted : Span) (from to : ℕ) : Type 0 where
  pub end : ℕ
  pub end_is : end ≡ min (first + len) (wanted.last + 1)
  pub from_is : from ≡ div_ceil (max first wanted.first) 16384
  pub to_is : ((end < file_length) × (to ≡ end / 16384)) ⊎ ((file_length ≤ end) × (to ≡ div_ceil file_length 16384))

brought_between : (file_length first len : ℕ) (wanted : Span) (from to : ℕ) → first + len ≤ file_length → IsBetween file_length first len wanted from to →
    (k : ℕ) → is_brought file_length first len wanted k ≡ true → (from ≤ k) × (k < to)
brought_between file_length first len wanted from to within between k t =
    let parts = and_parts _ _ t in
    let piece = lies_in file_length first (first + len) k parts.0 in
    let asked = lies_in file_length wanted.first (wanted.last + 1) k parts.1 in
    elim between.to_is [
      | inl l ↦ (omega (arith, between.from_is, piece.begins, asked.begins), omega (arith, l.0, l.1, between.end_is, piece.ends, asked.ends))
      | inr r ↦ (omega (arith, between.from_is, piece.begins, asked.begins), omega (arith, r.1, piece.there))
    ]

between_brought : (file_length first len : ℕ) (wanted : Span) (from to : ℕ) → first + len ≤ file_length → IsBetween file_length first len wanted from to →
    (k : ℕ) → from ≤ k → k < to → is_brought file_length first len wanted k ≡ true
between_brought file_length first len wanted from to within between k low high =
    let begins : max first wanted.first ≤ k * 16384 = omega (arith, between.from_is) in
    let there : k * 16384 < file_length = elim between.to_is [ inl l ↦ omega (arith, l.0, l.1) | inr r ↦ omega (arith, r.1) ] in
    let ends : min ((k + 1) * 16384) file_length ≤ between.end = elim between.to_is [ inl l ↦ omega (arith, l.0, l.1) | inr r ↦ omega (arith, r.0) ] in
    and_from _ _
    (lies_whole file_length first (first + len) k (record { there = there; begins = omega arith; ends = omega (arith, between.end_is) }))
    (lies_whole file_length wanted.first (wanted.last + 1) k (record { there = there; begins = omega arith; ends = omega (arith, between.end_is) }))

-- what a piece brings is a run of blocks
pub run_between : (file_length first len : ℕ) (wanted : Span) (from to : ℕ) → first + len ≤ file_length → IsBetween file_length first len wanted from to →
    filter (is_brought file_length first len wanted) (range_with_len 0 (block_count file_length)) ≡ range_with_len from (to - from)
run_between file_length first len wanted from to within between =
    let high : to ≤ 0 + block_count file_length = elim between.to_is [ inl l ↦ omega (arith, l.0, l.1) | inr r ↦ omega (arith, r.1) ] in
    filter-between (is_brought file_length first len wanted) from to 0 (block_count file_length) (omega arith) high
    (between_brought file_length first len wanted from to within between)
    (λ k _ t. brought_between file_length first len wanted from to within between k t)

-- each block that a piece of f brings is f's

slice_to_end : (f : List ℕ) (a b : ℕ) → slice_range f a (min b (length f)) ≡ slice_range f a b
slice_to_end f a b =
    let count : min (b - a) (length (drop a f)) ≡ min b (length f) - a = omega (arith, length-drop a f) in
    ap (λ k. take k (drop a f)) (sym count) ∙ take_min (b - a) (drop a f)

pub block_of_piece : (f bytes : List ℕ) (file_length first n : ℕ) → file_length ≡ length f → IsPieceOf f first bytes → LiesIn file_length first (first + length bytes) n →
    IsOf f (block_in file_length first bytes n)
block_of_piece f bytes file_length first n whole piece lies =
    let end : ℕ = end_of file_length n in
    let start : first + (n * 16384 - first) ≡ n * 16384 = omega (arith, lies.begins) in
    let stop : first + (end - first) ≡ min ((n + 1) * 16384) (length f) = omega (arith, lies.begins, lies.there, whole) in
    ap (λ l. slice_range l (n * 16384 - first) (end - first)) piece
    ∙ slice_of_slice f first (first + length bytes) (n * 16384 - first) (end - first) (omega (arith, lies.begins, lies.there)) (omega (arith, lies.begins, lies.there, lies.ends))
    ∙ ap (λ k. slice_range f k (first + (end - first))) start ∙ ap (slice_range f (n * 16384)) stop
    ∙ slice_to_end f (n * 16384) ((n + 1) * 16384)

-- what holds of each block that a piece brings
pub all_brought : (P : Block → Type 0) (file_length first : ℕ) (bytes : List ℕ) (wanted : Span) →
    ((n : ℕ) → is_brought file_length first (length bytes) wanted n ≡ true → P (block_in file_length first bytes n)) → (ns : List ℕ) →
    All P (map (block_in file_length first bytes) (filter (is_brought file_length first (length bytes) wanted) ns))
all_brought P file_length first bytes wanted h [] = All-nil P
all_brought P file_length first bytes wanted h (n ∷ ns) =
    let rest = all_brought P file_length first bytes wanted h ns in
    let others : List ℕ = filter (is_brought file_length first (length bytes) wanted) ns in
    (elim (is_brought file_length first (length bytes) wanted n) as (λ t. is_brought file_length first (length bytes) wanted n ≡ t → All P (map (block_in file_length first bytes) (cond t (n ∷ others) others))) [
      | true ↦ λ t. All-cons P (block_in file_length first bytes n) (map (block_in file_length first bytes) others) (h n t) rest
      | false ↦ λ _. rest
    ]) refl

pub all_whole : (f bytes : List ℕ) (file_length first : ℕ) (wanted : Span) → file_length ≡ length f → IsPieceOf f first bytes → All (IsOf f) (whole_blocks file_length first bytes wanted)
unfolding whole_blocks
all_whole f bytes file_length first wanted whole piece =
    all_brought (IsOf f) file_length first bytes wanted
    (λ n t. block_of_piece f bytes file_length first n whole piece (lies_in file_length first (first + length bytes) n (and_parts _ _ t).0))
    (range_with_len 0 (block_count file_length))
