-- The blocks of a piece that comes in parts.
use Rattle.std.proofs.Common.{◌≡◌, ℕ, zero, suc, ◌+◌, ◌-◌, ◌*◌, ◌/◌, ◌<◌, ◌≤◌, Bool, true, false, cond, not, ◌&&◌, List, [], ◌∷◌, ◌++◌, length, take, drop, map, refl, sym, ap, ◌∙◌, arith, inl, inr, append_assoc, append-nil, length-append, length-take, length-drop, take-append-drop}
use Rattle.std.proofs.Math.Dec.{leb, ltb}
use Rattle.std.proofs.Math.Seq.{drop-append-add}
use Rattle.std.proofs.lemmas.Bool.{le-leb, and_parts, cases_lt}
use Rattle.std.proofs.lemmas.List.{take-append-le, drop-append-le}
use Rattle.std.proofs.lemmas.List.Elements.{All-head, All-tail}
use Rattle.std.specs.List.{All, filter, range_with_len, slice_range}
use Rattle.extents.specs.declared.span.Span.{Span}
use Rattle.extents.specs.Block.{block_count, end_of, is_whole}
use Rattle.range_cache.specs.Numbers.{has}
use Rattle.range_cache.specs.Cache.{Block, Blocks, numbers, put_one, stored, stores}
use Rattle.range_cache.specs.Piece.{block_in, is_brought, is_wanted, whole_blocks}
use Rattle.range_cache.specs.Laws.{IsEdge, EdgesPart, PartsBringNone, BesideBringNone, IsCutIn, begun, lacking, CutsPart, StoredJoin, StoresJoin, UnwantedStay}
use Rattle.range_cache.proofs.Whole.{LiesIn, lies_in, all_brought}

-- ---- storing

pub stored_join : StoredJoin
unfolding stored
stored_join capacity [] later bs = refl
stored_join capacity (b ∷ new) later bs = stored_join capacity new later (put_one capacity bs b)

pub stores_join : StoresJoin
unfolding stored stores
stores_join capacity [] later bs = omega arith
stores_join capacity (b ∷ new) later bs =
    let rest = stores_join capacity new later (put_one capacity bs b) in
    ap (λ n. cond (has b.0 (numbers bs)) 0 1 + n) rest ∙ omega arith

-- blocks that are there are not stored
stored_there : (capacity : ℕ) (new bs : List Block) → All (λ b. has b.0 (numbers bs) ≡ true) new →
    (stored capacity new bs ≡ bs) × (stores capacity new bs ≡ 0)
unfolding stored stores
stored_there capacity [] bs all = (refl, refl)
stored_there capacity (b ∷ new) bs all =
    let P : Block → Type 0 = λ b. has b.0 (numbers bs) ≡ true in
    let here : has b.0 (numbers bs) ≡ true = All-head P b new all in
    let same : put_one capacity bs b ≡ bs = ap (λ t. cond t bs (b ∷ take (capacity - 1) bs)) here in
    let rest = stored_there capacity new bs (All-tail P b new all) in
    let none : cond (has b.0 (numbers bs)) 0 1 ≡ 0 = ap {B = ℕ} (λ t. cond t 0 1) here in
    let later = ap (stores capacity new) same in
    (ap (stored capacity new) same ∙ rest.0, omega (arith, rest.1, none, later))

-- ---- a run of blocks, parted

-- what a test finds from a on, where it finds nothing
filter_none : (p : ℕ → Bool) (a n : ℕ) → ((k : ℕ) → a ≤ k → p k ≡ false) → filter p (range_with_len a n) ≡ []
filter_none p a zero none = refl
filter_none p a (suc n) none =
    let rest : List ℕ = filter p (range_with_len (a + 1) n) in
    ap (λ t. cond t (a ∷ rest) rest) (none a (omega arith)) ∙ filter_none p (a + 1) n (λ k above. none k (omega arith))

-- the tests and what is made of the numbers that pass them, parted at s
record IsParted (p q r : ℕ → Bool) (f g h : ℕ → Block) (s : ℕ) : Type 0 where
  below : (k : ℕ) → k < s → p k ≡ q k
  above : (k : ℕ) → s ≤ k → p k ≡ r k
  first_ends : (k : ℕ) → s ≤ k → q k ≡ false
  second_begins : (k : ℕ) → k < s → r k ≡ false
  first_same : (k : ℕ) → q k ≡ true → f k ≡ g k
  second_same : (k : ℕ) → r k ≡ true → f k ≡ h k

-- where the test of the first part is passed, one block comes and then the others
part_here : (p q r : ℕ → Bool) (f g h : ℕ → Block) (a : ℕ) (ps qs rs : List ℕ) → p a ≡ q a → r a ≡ false → (q a ≡ true → f a ≡ g a) →
    map f ps ≡ map g qs ++ map h rs →
    map f (cond (p a) (a ∷ ps) ps) ≡ map g (cond (q a) (a ∷ qs) qs) ++ map h (cond (r a) (a ∷ rs) rs)
part_here p q r f g h a ps qs rs same none made rest =
    ap (λ t. map f (cond t (a ∷ ps) ps)) same
    ∙ (elim (q a) as (λ t. q a ≡ t → map f (cond t (a ∷ ps) ps) ≡ map g (cond t (a ∷ qs) qs) ++ map h rs) [
      | true ↦ λ t. ap (λ b. b ∷ map f ps) (made t) ∙ ap (λ l. g a ∷ l) rest
      | false ↦ λ _. rest
    ]) refl
    ∙ ap (λ t. map g (cond (q a) (a ∷ qs) qs) ++ map h (cond t (a ∷ rs) rs)) (sym none)

-- from s on only the second part brings blocks
part_later : (p q r : ℕ → Bool) (f g h : ℕ → Block) (s a n : ℕ) → IsParted p q r f g h s → s ≤ a →
    map f (filter p (range_with_len a n)) ≡ map h (filter r (range_with_len a n))
part_later p q r f g h s a zero is past = refl
part_later p q r f g h s a (suc n) is past =
    let ps : List ℕ = filter p (range_with_len (a + 1) n) in
    let rs : List ℕ = filter r (range_with_len (a + 1) n) in
    let rest = part_later p q r f g h s (a + 1) n is (omega arith) in
    ap (λ t. map f (cond t (a ∷ ps) ps)) (is.above a past)
    ∙ (elim (r a) as (λ t. r a ≡ t → map f (cond t (a ∷ ps) ps) ≡ map h (cond t (a ∷ rs) rs)) [
      | true ↦ λ t. ap (λ b. b ∷ map f ps) (is.second_same a t) ∙ ap (λ l. h a ∷ l) rest
      | false ↦ λ _. rest
    ]) refl

parted : (p q r : ℕ → Bool) (f g h : ℕ → Block) (s a n : ℕ) → IsParted p q r f g h s →
    map f (filter p (range_with_len a n)) ≡ map g (filter q (range_with_len a n)) ++ map h (filter r (range_with_len a n))
parted p q r f g h s a zero is = refl
parted p q r f g h s a (suc n) is = elim (cases_lt a s) [
  | inl lt ↦
      part_here p q r f g h a (filter p (range_with_len (a + 1) n)) (filter q (range_with_len (a + 1) n)) (filter r (range_with_len (a + 1) n))
      (is.below a lt) (is.second_begins a lt) (is.first_same a) (parted p q r f g h s (a + 1) n is)
  | inr past ↦
      let none = filter_none q a (suc n) (λ k above. is.first_ends k (omega arith)) in
      part_later p q r f g h s a (suc n) is past
      ∙ ap (λ l. map g l ++ map h (filter r (range_with_len a (suc n)))) (sym none)
]

-- ---- a piece, parted at an edge

never : (b : Bool) → (b ≡ true → ⊥) → b ≡ false
never true h = absurd (h refl)
never false h = refl

slice_first : (x y : List ℕ) (a b : ℕ) → b ≤ length x → slice_range (x ++ y) a b ≡ slice_range x a b
slice_first x y a b short = elim (cases_lt (length x) a) [
  | inl past ↦
      let none : b - a ≡ 0 = omega arith in
      ap (λ n. take n (drop a (x ++ y))) none ∙ sym (ap (λ n. take n (drop a x)) none)
  | inr in_x ↦
      ap (take (b - a)) (drop-append-le a x y in_x) ∙ take-append-le (b - a) (drop a x) y (omega (arith, length-drop a x))
]

slice_second : (x y : List ℕ) (a b : ℕ) → slice_range (x ++ y) (length x + a) (length x + b) ≡ slice_range y a b
slice_second x y a b =
    let count : length x + b - (length x + a) ≡ b - a = omega arith in
    ap (take (length x + b - (length x + a))) (drop-append-add x y a) ∙ ap (λ n. take n (drop a y)) count

module _ (file_length first : ℕ) (x y : List ℕ) (wanted : Span) (edge : IsEdge file_length (first + length x)) where
  abbrev at : ℕ
  at = first + length x

  -- the first block that doesn't begin before the edge
  abbrev s : ℕ
  s = (at + 16383) / 16384

  -- a block before the edge ends by it, one after it begins after it
  ends_before : (k : ℕ) → k < s → end_of file_length k ≤ at
  ends_before k below = elim edge [ inl e ↦ omega (arith, e) | inr m ↦ omega (arith, m.1) ]

  wanted_here : ℕ → Bool
  wanted_here k = is_whole file_length wanted.first (wanted.last + 1) k

  below_same : (k : ℕ) → k < s → is_brought file_length first (length (x ++ y)) wanted k ≡ is_brought file_length first (length x) wanted k
  below_same k below =
      let ends = ends_before k below in
      let long = length-append x y in
      let a : leb (end_of file_length k) (first + length (x ++ y)) ≡ true = le-leb _ _ (omega (arith, ends, long)) in
      let b : leb (end_of file_length k) at ≡ true = le-leb _ _ ends in
      ap (λ t. ((ltb (k * 16384) file_length && leb first (k * 16384)) && t) && is_whole file_length wanted.first (wanted.last + 1) k) (a ∙ sym b)

  above_same : (k : ℕ) → s ≤ k → is_brought file_length first (length (x ++ y)) wanted k ≡ is_brought file_length at (length y) wanted k
  above_same k above =
      let a : leb first (k * 16384) ≡ true = le-leb _ _ (omega arith) in
      let b : leb at (k * 16384) ≡ true = le-leb _ _ (omega arith) in
      let end : first + length (x ++ y) ≡ at + length y = omega (arith, length-append x y) in
      ap (λ t. ((ltb (k * 16384) file_length && t) && leb (end_of file_length k) (first + length (x ++ y))) && is_whole file_length wanted.first (wanted.last + 1) k) (a ∙ sym b)
      ∙ ap (λ e. is_whole file_length at e k && is_whole file_length wanted.first (wanted.last + 1) k) end

  first_ends : (k : ℕ) → s ≤ k → is_brought file_length first (length x) wanted k ≡ false
  first_ends k above = never _ (λ t. let l = lies_in file_length first at k (and_parts _ _ t).0 in absurd (omega (arith, l.there, l.ends)))

  second_begins : (k : ℕ) → k < s → is_brought file_length at (length y) wanted k ≡ false
  second_begins k below = never _ (λ t. let l = lies_in file_length at (at + length y) k (and_parts _ _ t).0 in absurd (omega (arith, l.begins)))

  first_same : (k : ℕ) → is_brought file_length first (length x) wanted k ≡ true → block_in file_length first (x ++ y) k ≡ block_in file_length first x k
  first_same k t =
      let l = lies_in file_length first at k (and_parts _ _ t).0 in
      ap (λ bytes. (k, bytes)) (slice_first x y (k * 16384 - first) (end_of file_length k - first) (omega (arith, l.ends, l.begins)))

  second_same : (k : ℕ) → is_brought file_length at (length y) wanted k ≡ true → block_in file_length first (x ++ y) k ≡ block_in file_length at y k
  second_same k t =
      let l = lies_in file_length at (at + length y) k (and_parts _ _ t).0 in
      let a : k * 16384 - first ≡ length x + (k * 16384 - at) = omega (arith, l.begins) in
      let b : end_of file_length k - first ≡ length x + (end_of file_length k - at) = omega (arith, l.begins, l.there) in
      ap (λ bytes. (k, bytes))
      (ap (λ n. slice_range (x ++ y) n (end_of file_length k - first)) a
      ∙ ap (slice_range (x ++ y) (length x + (k * 16384 - at))) b
      ∙ slice_second x y (k * 16384 - at) (end_of file_length k - at))

  at_edge : whole_blocks file_length first (x ++ y) wanted ≡ whole_blocks file_length first x wanted ++ whole_blocks file_length at y wanted
  unfolding whole_blocks
  at_edge =
      parted (is_brought file_length first (length (x ++ y)) wanted) (is_brought file_length first (length x) wanted)
      (is_brought file_length at (length y) wanted) (block_in file_length first (x ++ y)) (block_in file_length first x) (block_in file_length at y)
      s 0 (block_count file_length)
      (record {
        below = below_same;
        above = above_same;
        first_ends = first_ends;
        second_begins = second_begins;
        first_same = first_same;
        second_same = second_same;
      })

pub edges_part : EdgesPart
edges_part file_length first front rest wanted edge = at_edge file_length first front rest wanted edge

-- ---- parts of a block

pub parts_bring_none : PartsBringNone
unfolding whole_blocks
parts_bring_none file_length first bytes wanted n part =
    ap (map (block_in file_length first bytes))
    (filter_none (is_brought file_length first (length bytes) wanted) 0 (block_count file_length) (λ k _. never _ (λ t. missed k (lies_in file_length first (first + length bytes) k (and_parts _ _ t).0))))
  where
    missed : (k : ℕ) → LiesIn file_length first (first + length bytes) k → ⊥
    missed k l =
        let begins = part.begins in
        let ends = part.ends in
        elim part.lacks [
          | inl lt ↦ omega (arith, l.there, l.begins, l.ends)
          | inr lt ↦ omega (arith, l.there, l.begins, l.ends)
        ]

pub beside_bring_none : BesideBringNone
unfolding whole_blocks
beside_bring_none file_length first bytes wanted beside =
    ap (map (block_in file_length first bytes))
    (filter_none (is_brought file_length first (length bytes) wanted) 0 (block_count file_length) (λ k _. never _ (λ t.
    let parts = and_parts _ _ t in
    missed k (lies_in file_length first (first + length bytes) k parts.0) (lies_in file_length wanted.first (wanted.last + 1) k parts.1))))
  where
    missed : (k : ℕ) → LiesIn file_length first (first + length bytes) k → LiesIn file_length wanted.first (wanted.last + 1) k → ⊥
    missed k l w = omega (arith, beside, l.there, l.begins, l.ends, w.begins, w.ends)

module _ (file_length first : ℕ) (front rest : List ℕ) (wanted : Span) (n : ℕ) (is : IsCutIn file_length first front rest n) where
  abbrev w : ℕ → List ℕ → List Block
  w place bytes = whole_blocks file_length place bytes wanted

  abbrev start : ℕ
  start = n * 16384

  abbrev m : ℕ
  m = lacking file_length first front n

  -- the whole blocks of the front, and the block that is cut
  abbrev before : List ℕ
  before = take (start - first) front

  abbrev part : List ℕ
  part = begun first front n

  abbrev block : List ℕ
  block = part ++ take m rest

  begins_at : first + length before ≡ start
  begins_at =
      let a = is.begins in let b = is.reached in
      omega (arith, a, b, length-take (start - first) front)

  long_part : start + length part ≡ first + length front
  long_part =
      let a = is.begins in let b = is.reached in
      omega (arith, a, b, length-drop (start - first) front)

  long_block : start + length block ≡ end_of file_length n
  long_block =
      let a = is.cut in let b = is.ends in
      omega (arith, a, b, long_part, length-append part (take m rest), length-take m rest)

  edge_before : IsEdge file_length (first + length before)
  edge_before = inr (n, begins_at)

  edge_behind : IsEdge file_length (start + length block)
  edge_behind = elim (cases_lt ((n + 1) * 16384) file_length) [
    | inl inside ↦ inr (n + 1, omega (arith, inside, long_block))
    | inr last ↦ inl (omega (arith, last, long_block))
  ]

  joined : front ++ rest ≡ before ++ (block ++ drop m rest)
  joined =
      ap (λ t. t ++ rest) (sym (take-append-drop (start - first) front))
      ∙ append_assoc before part rest
      ∙ ap (λ t. before ++ (part ++ t)) (sym (take-append-drop m rest))
      ∙ ap (λ t. before ++ t) (sym (append_assoc part (take m rest) (drop m rest)))

  behind : w start (block ++ drop m rest) ≡ w start block ++ w (end_of file_length n) (drop m rest)
  behind =
      edges_part file_length start block (drop m rest) wanted edge_behind
      ∙ ap (λ place. w start block ++ w place (drop m rest)) long_block

  none : w start part ≡ []
  none =
      let cut = is.cut in
      parts_bring_none file_length start part wanted n
      (record { begins = omega arith; ends = omega (arith, cut, long_part); lacks = inr (omega (arith, cut, long_part)) })

  of_front : w first front ≡ w first before
  of_front =
      ap (w first) (sym (take-append-drop (start - first) front))
      ∙ edges_part file_length first before part wanted edge_before
      ∙ ap (λ place. w first before ++ w place part) begins_at
      ∙ ap (λ bs. w first before ++ bs) none
      ∙ append-nil (w first before)

  cut_parts : w first (front ++ rest) ≡ w first front ++ (w start block ++ w (end_of file_length n) (drop m rest))
  cut_parts =
      ap (w first) joined
      ∙ edges_part file_length first before (block ++ drop m rest) wanted edge_before
      ∙ ap (λ place. w first before ++ w place (block ++ drop m rest)) begins_at
      ∙ ap (λ bs. w first before ++ bs) behind
      ∙ ap (λ bs. bs ++ (w start block ++ w (end_of file_length n) (drop m rest))) (sym of_front)

pub cuts_part : CutsPart
cuts_part file_length first front rest wanted n is = cut_parts file_length first front rest wanted n is

-- ---- a block that isn't wanted

there_by : (whole there : Bool) → (whole && not there) ≡ false → whole ≡ true → there ≡ true
there_by true true is t = refl
there_by true false is t = absurd (let wrong : true ≡ false = is in cc)
there_by false there is t = absurd (let wrong : false ≡ true = t in cc)

unwanted_there : (c : Blocks) (file_length : ℕ) (bytes : List ℕ) (wanted : Span) (n : ℕ) → is_wanted c file_length wanted n ≡ false →
    n * 16384 + length bytes ≤ end_of file_length n →
    All (λ b. has b.0 (numbers c.entries) ≡ true) (whole_blocks file_length (n * 16384) bytes wanted)
unfolding whole_blocks is_wanted
unwanted_there c file_length bytes wanted n other within =
    all_brought (λ b. has b.0 (numbers c.entries) ≡ true) file_length (n * 16384) bytes wanted
    (λ k t.
    let parts = and_parts _ _ t in
    let lies = lies_in file_length (n * 16384) (n * 16384 + length bytes) k parts.0 in
    let same : k ≡ n = omega (arith, within, lies.there, lies.begins, lies.ends) in
    there_by (is_whole file_length wanted.first (wanted.last + 1) k) (has k (numbers c.entries))
    (ap (λ j. is_whole file_length wanted.first (wanted.last + 1) j && not (has j (numbers c.entries))) same ∙ other) parts.1)
    (range_with_len 0 (block_count file_length))

pub unwanted_stay : UnwantedStay
unwanted_stay c file_length bytes wanted n other within =
    stored_there c.capacity (whole_blocks file_length (n * 16384) bytes wanted) c.entries (unwanted_there c file_length bytes wanted n other within)
