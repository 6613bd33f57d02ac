-- Spans that are asked for early lie apart.
use Rattle.std.proofs.Common.{ℕ, ◌*◌, ◌<◌, ◌≤◌, List, [], ◌∷◌, ◌++◌, arith, inl, inr, ◌∙◌, ◌≡◌, ◌+◌, ◌/◌, Option, Some, None, sym, ap, subst}
use Rattle.std.specs.Prelude.{IfNone, IfSome, IsSomeAnd}
use Rattle.std.specs.List.{All, Any}
use Rattle.std.proofs.lemmas.List.{get_or_append_left, length_push}
use Rattle.std.specs.Option.{unwrap_or}
use Rattle.std.proofs.lemmas.Bool.{cases_lt}
use Rattle.std.proofs.lemmas.List.Elements.{All-push}
use Rattle.std.proofs.lemmas.List.Quantifiers.{all_pairs_push}
use Rattle.extents.specs.declared.span.Span.{Span}
use Rattle.cog_reader.specs.Early.{AreApart, ArePassed, AreThereInReach, BeginsIn, Fits, IsInReach, IsSeenTo, LeavesNothing, LeavesNothingInReach}
use Rattle.cog_reader.specs.Going.{CachedReader, known_at, Touches}
use Rattle.cog_reader.proofs.AheadLemmas.{touched}
use Rattle.cog_reader.specs.Reader.{file_length_of}
use Rattle.extents.specs.Block.{blocks, first_block}
use Rattle.extents.specs.Extent.{Extent}
use Rattle.extents.specs.Extent.{extent_of_span}

-- all of them end before a position
abbrev pub AreBefore : ℕ → List Span → Type 0
AreBefore at spans = All (λ (s : Span). s.last < at) spans

-- an element that is there is still there where one more is
pub any_more : {X : Type 0} (P : X → Type 0) (xs : List X) (y : X) → Any P xs → Any P (xs ++ y ∷ [])
any_more P xs y (k, x, lt, is, p) = (k, x, omega (arith, lt, length_push xs y), get_or_append_left xs (y ∷ []) x k lt ∙ is, p)

pub seen_more : (w : CachedReader) (spans : List Span) (span : Span) (k : ℕ) → IsSeenTo w spans k → IsSeenTo w (spans ++ span ∷ []) k
seen_more w spans span k seen = elim seen [
  | inl there ↦ inl there
  | inr asked ↦ inr (any_more (λ (s : Span). (s.first ≤ k * 16384) × (k * 16384 ≤ s.last)) spans span asked)
]

pub leaves_more : (w : CachedReader) (asked : Span) (spans : List Span) (span s : Span) → LeavesNothing w asked spans s → LeavesNothing w asked (spans ++ span ∷ []) s
leaves_more w asked spans span s l = record {
  index = l.index;
  range = l.range;
  known = l.known;
  begins = l.begins;
  before = λ i r k le is touches behind ahead. seen_more w spans span k (l.before i r k le is touches behind ahead);
}

same_value : (a b : Extent) → Some a ≡ Some b → a ≡ b
same_value a b same = ap (λ (o : Option Extent). unwrap_or o a) same

-- the blocks of the range that is wanted at a place
pub place_blocks : (w : CachedReader) (i place : ℕ) (r : Extent) (range : Span) (k : ℕ) → i ≡ place → known_at w.reader place ≡ Some (extent_of_span range)
    → known_at w.reader i ≡ Some r → Touches r k → (range.first / 16384 ≤ k) × (k < range.last / 16384 + 1)
place_blocks w i place r range k same known is touches =
    let one : Some r ≡ Some (extent_of_span range) = sym is ∙ ap (known_at w.reader) same ∙ known in
    let t = subst (λ x. Touches x k) (same_value r (extent_of_span range) one) touches in
    (t.0, omega (arith, t.0, t.1, touched range, range.ascending))

-- all blocks of the ranges before a place are seen to, and those from one number up to another
abbrev pub ArePassedBy : CachedReader → Span → List Span → ℕ → Type 0
ArePassedBy w asked spans index =
    (i : ℕ) (r : Extent) (k : ℕ) → i < index → known_at w.reader i ≡ Some r → Touches r k → asked.last < k * 16384 → IsSeenTo w spans k

abbrev pub AreSeenTo : CachedReader → Span → List Span → ℕ → ℕ → Type 0
AreSeenTo w asked spans least to = (k : ℕ) → least ≤ k → k < to → asked.last < k * 16384 → IsSeenTo w spans k

pub last_leaves : (w : CachedReader) (asked span : Span) (spans : List Span) (index least from to : ℕ) → BeginsIn w index least from → span.first ≡ from * 16384 → from < to
    → ArePassedBy w asked spans index → AreSeenTo w asked spans least to → LeavesNothing w asked spans span
last_leaves w asked span spans index least from to (r, known, first, touches) at some passed seen = record {
  index = index;
  range = r;
  known = known;
  begins = let same : from ≡ span.first / 16384 = omega (arith, at) in subst (λ n. Touches r n) same touches;
  before = λ i x k le is t behind before. elim (cases_lt i index) [
    | inl old ↦ passed i x k old is t behind
    | inr more ↦
        let place : i ≡ index = omega (arith, le, more) in
        let same : x ≡ r = same_value x r (sym is ∙ ap (known_at w.reader) place ∙ known) in
        let low = (subst (λ y. Touches y k) same t).0 in
        seen k (omega (arith, low, first)) (omega (arith, before, at, some)) behind
  ];
}

pub one_apart : (spans : List Span) (span : Span) (at : ℕ) → AreBefore at spans → at ≤ span.first → AreApart spans → AreApart (spans ++ span ∷ [])
one_apart spans span at before behind apart = all_pairs_push (λ (s t : Span). s.last < t.first) spans span apart (λ k d lt. omega (arith, before k d lt, behind))

pub one_before : (spans : List Span) (span : Span) (at next : ℕ) → AreBefore at spans → at ≤ next → span.last < next → AreBefore next (spans ++ span ∷ [])
one_before spans span at next before later ends = All-push (λ (s : Span). s.last < next) spans span (λ k d lt. omega (arith, before k d lt, later)) ends

-- ---- what ends what is in reach: nothing from a place on is in reach

abbrev pub IsEnd : CachedReader → ℕ → Type 0
IsEnd w at = (place : ℕ) → at ≤ place → IsInReach w place → ⊥

-- a range that isn't known, or ends after the file
pub unknown_ends : (w : CachedReader) (at : ℕ) → IfSome (known_at w.reader at) (λ r. file_length_of w.reader < r.first + r.len) → IsEnd w at
unknown_ends w at past place far reach = no (known_at w.reader at) past (reach.each at far)
  where
    no : (o : Option Extent) → IfSome o (λ r. file_length_of w.reader < r.first + r.len) → IsSomeAnd o (Fits w) → ⊥
    no None past fits = fits
    no (Some r) past fits = omega (arith, past, fits.0)

-- one past all that are known
pub last_ends : (w : CachedReader) (at : ℕ) → ((index : ℕ) → at ≤ index → known_at w.reader index ≡ None) → IsEnd w at
last_ends w at none place far reach = subst (λ o. IsSomeAnd o (Fits w)) (none place far) (reach.each place (omega arith))

-- one that doesn't fit in the cache
pub full_ends : (w : CachedReader) (at : ℕ) (r : Extent) → known_at w.reader at ≡ Some r → w.cache.capacity < blocks r.first r.len → IsEnd w at
full_ends w at r is long place far reach = let fits = subst (λ o. IsSomeAnd o (Fits w)) is (reach.each at far) in omega (arith, fits.1, long)

-- one that begins before an earlier one
pub back_ends : (w : CachedReader) (from at : ℕ) (first r : Extent) → known_at w.reader from ≡ Some first → from ≤ at → known_at w.reader at ≡ Some r → first_block r.first < first_block first.first → IsEnd w at
back_ends w from at first r begins low is back place far reach = omega (arith, reach.order from at first r low far begins is, back)

-- what follows where there is no value
pub if_none : {X : Type 0} (o : Option X) (P Q : Type 0) → IfNone o P → (P → Q) → IfNone o Q
if_none None P Q is then = then is
if_none (Some x) P Q is then = tt

-- where what is in reach ends, the ranges before are all
pub ended : (w : CachedReader) (from at least to : ℕ) → ArePassed w from at least to → ((first : Extent) → known_at w.reader from ≡ Some first → first_block first.first ≡ least → IsEnd w at) → AreThereInReach w from least to
ended w from at least to passed end first r place k begins low far reach is touches behind = elim (cases_lt place at) [
  | inl old ↦ (passed place r k far old is touches).1 behind
  | inr past ↦ absurd (end first begins low place past reach)
]

-- a range begins in a block
abbrev pub Begins : CachedReader → ℕ → ℕ → Type 0
Begins w place least = (r : Extent) × (known_at w.reader place ≡ Some r) × (first_block r.first ≡ least)

-- where no run follows, nothing in reach is left out
pub nothing_more : (w : CachedReader) (asked : Span) (spans : List Span) (index least to : ℕ) → Begins w index least → ArePassedBy w asked spans index → AreSeenTo w asked spans least to → AreThereInReach w index least to → LeavesNothingInReach w asked spans
nothing_more w asked spans index least to (first, known, begins) passed seen there place r k reach is touches behind = elim (cases_lt place index) [
  | inl old ↦ passed place r k old is touches behind
  | inr far ↦ elim (cases_lt k to) [
    | inl near ↦ seen k (omega (arith, reach.order index place first r far (omega arith) known is, begins, touches.0)) near behind
    | inr new ↦ inl (there first r place k known begins far reach is touches new)
  ]
]
