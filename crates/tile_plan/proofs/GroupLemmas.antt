-- Groups, one tile more, and what is true of all of them.
use Rattle.std.proofs.Common.{append_assoc, ◌≡◌, ℕ, zero, suc, ◌+◌, ◌<◌, ◌≤◌, inl, inr, true, false, List, [], ◌∷◌, ◌++◌, length, get_or, set, map, None, Some, refl, sym, subst, ap, ◌∙◌, arith}
use Rattle.std.specs.Prelude.{nat_le, ◌==◌}
use Rattle.std.specs.List.{flat_map, AllByRecursion, IsAmong, range_with_len}
use Rattle.std.proofs.lemmas.Bool.{and_parts, cases_Bool, eqb-true, leb-true}
use Rattle.std.proofs.lemmas.List.FromFn.{length-map-range_with_len, get_or-map-range_with_len}
use Rattle.std.proofs.lemmas.List.Elements.{All-cons, All-nil, All-push}
use Rattle.tiff_dir.specs.declared.level.Level.{Level}
use Rattle.tiff_dir.specs.Level.{tile_total}
use Rattle.tiff_dir.specs.Described.{grid_of}
use Rattle.extents.specs.Extent.{Extent}
use Rattle.tiff_dir.specs.Query.{joins, joined_after}
use Rattle.extents.specs.Extent.{extent_of_span}
use Rattle.tile_plan.specs.declared.plan.Group.{Group}
use Rattle.tile_plan.specs.Groups as groups
use Rattle.tile_plan.specs.Groups.{with_tile, alone, grouped_after, grouped}
use Rattle.tile_plan.specs.Plan.{group_of, Adjoin, IsGroup}
use Rattle.tile_plan.specs.Adding.{added}

-- ---- in the list of groups

-- the last group takes the tile
pub added_join : (gs : List Group) (n : ℕ) (g new : Group) (t : ℕ) (r : Extent) → suc n ≡ length gs → g ≡ get_or gs n g → joins (group_of g).range r ≡ true
    → group_of new ≡ with_tile (group_of g) t r → map group_of (set gs n new) ≡ added (map group_of gs) t r
added_join [] n g new t r size is joined next = absurd (omega (arith, size))
added_join (h ∷ []) zero g new t r size is joined next =
    let here : joins (group_of h).range r ≡ true = ap (λ k. joins (group_of k).range r) (sym is) ∙ joined in
    rw here (ap (λ k. k ∷ []) (next ∙ ap (λ k. with_tile (group_of k) t r) is))
added_join (h ∷ []) (suc n) g new t r size is joined next = absurd (omega (arith, size))
added_join (h ∷ i ∷ gs) zero g new t r size is joined next = absurd (omega (arith, size))
added_join (h ∷ i ∷ gs) (suc n) g new t r size is joined next = front gs i n (added_join (i ∷ gs) n g new t r (omega (arith, size)) is joined next) where
  front : (gs : List Group) (i : Group) (n : ℕ) → map group_of (set (i ∷ gs) n new) ≡ added (map group_of (i ∷ gs)) t r
      → group_of h ∷ map group_of (set (i ∷ gs) n new) ≡ added (group_of h ∷ map group_of (i ∷ gs)) t r
  front gs i n same = ap (λ l. group_of h ∷ l) same

-- the tile is a group of its own, after the last group
pub added_apart : (gs : List Group) (n : ℕ) (g new : Group) (t : ℕ) (r : Extent) → suc n ≡ length gs → g ≡ get_or gs n g → joins (group_of g).range r ≡ false
    → group_of new ≡ alone t r → map group_of (gs ++ new ∷ []) ≡ added (map group_of gs) t r
added_apart [] n g new t r size is apart next = absurd (omega (arith, size))
added_apart (h ∷ []) zero g new t r size is apart next =
    let here : joins (group_of h).range r ≡ false = ap (λ k. joins (group_of k).range r) (sym is) ∙ apart in
    rw here (ap (λ k. group_of h ∷ k ∷ []) next)
added_apart (h ∷ []) (suc n) g new t r size is apart next = absurd (omega (arith, size))
added_apart (h ∷ i ∷ gs) zero g new t r size is apart next = absurd (omega (arith, size))
added_apart (h ∷ i ∷ gs) (suc n) g new t r size is apart next = ap (λ l. group_of h ∷ l) (added_apart (i ∷ gs) n g new t r (omega (arith, size)) is apart next)

-- or the first
pub added_first : (gs : List Group) (new : Group) (t : ℕ) (r : Extent) → length gs ≡ 0 → group_of new ≡ alone t r → map group_of (gs ++ new ∷ []) ≡ added (map group_of gs) t r
added_first [] new t r none next = ap (λ k. k ∷ []) next
added_first (h ∷ gs) new t r none next = absurd (omega (arith, none))

-- ---- in the definition

-- a group before is followed by a list that isn't empty
some_after : (range : ℕ → Extent) (g : groups.Group) (ts : List ℕ) → (h : groups.Group) × (hs : List groups.Group) × (grouped_after range g ts ≡ h ∷ hs)
unfolding grouped_after
some_after range g [] = (g, [], refl)
some_after range g (t ∷ ts) = elim (cases_Bool (joins g.range (range t))) [
  | inl h ↦ (let rest = some_after range (with_tile g t (range t)) ts in (rest.0, rest.1, rw h rest.2))
  | inr h ↦ (g, grouped_after range (alone t (range t)) ts, rw h refl)
]

later : (g h : groups.Group) (zs hs : List groups.Group) (t : ℕ) (r : Extent) → zs ≡ h ∷ hs → added (g ∷ zs) t r ≡ g ∷ added zs t r
later g h zs hs t r is = rw is refl

more_after : (range : ℕ → Extent) (g : groups.Group) (ts : List ℕ) (t : ℕ) → grouped_after range g (ts ++ t ∷ []) ≡ added (grouped_after range g ts) t (range t)
unfolding grouped_after
more_after range g [] t = elim (cases_Bool (joins g.range (range t))) [ inl h ↦ rw h refl | inr h ↦ rw h refl ]
more_after range g (u ∷ ts) t = elim (cases_Bool (joins g.range (range u))) [
  | inl h ↦ rw h (more_after range (with_tile g u (range u)) ts t)
  | inr h ↦ (
      let next = alone u (range u) in
      let rest = some_after range next ts in
      rw h (ap (λ l. g ∷ l) (more_after range next ts t) ∙ sym (later g rest.0 (grouped_after range next ts) rest.1 t (range t) rest.2))
      )
]

-- the groups of one tile more
pub grouped_more : (range : ℕ → Extent) (ts : List ℕ) (t : ℕ) → grouped range (ts ++ t ∷ []) ≡ added (grouped range ts) t (range t)
unfolding grouped grouped_after
grouped_more range [] t = refl
grouped_more range (u ∷ ts) t = more_after range (alone u (range u)) ts t

pub grouped_none : (range : ℕ → Extent) → grouped range [] ≡ []
unfolding grouped
grouped_none range = refl

-- ---- their ranges

ranges_after : (range : ℕ → Extent) (g : groups.Group) (ts : List ℕ) → map (λ (h : groups.Group). h.range) (grouped_after range g ts) ≡ joined_after (Some g.range) (map (λ t. Some (range t)) ts)
unfolding grouped_after
ranges_after range g [] = refl
ranges_after range g (t ∷ ts) = elim (cases_Bool (joins g.range (range t))) [
  | inl h ↦ rw h (ranges_after range (with_tile g t (range t)) ts)
  | inr h ↦ rw h (ap (λ l. g.range ∷ l) (ranges_after range (alone t (range t)) ts))
]

-- the ranges of the groups are those of the tiles, joined
pub ranges_joined : (range : ℕ → Extent) (ts : List ℕ) → map (λ (h : groups.Group). h.range) (grouped range ts) ≡ joined_after None (map (λ t. Some (range t)) ts)
unfolding grouped
ranges_joined range [] = refl
ranges_joined range (t ∷ ts) = ranges_after range (alone t (range t)) ts

pub ranges_kept : (gs : List Group) → map (λ (g : Group). extent_of_span g.span) gs ≡ map (λ (h : groups.Group). h.range) (map group_of gs)
ranges_kept [] = refl
ranges_kept (g ∷ gs) = ap (λ l. extent_of_span g.span ∷ l) (ranges_kept gs)

-- ---- their tiles

tiles_after : (range : ℕ → Extent) (g : groups.Group) (ts : List ℕ) → flat_map (λ (h : groups.Group). h.tiles) (grouped_after range g ts) ≡ g.tiles ++ ts
unfolding grouped_after
tiles_after range g [] = refl
tiles_after range g (t ∷ ts) = elim (cases_Bool (joins g.range (range t))) [
  | inl h ↦ rw h (tiles_after range (with_tile g t (range t)) ts ∙ append_assoc g.tiles (t ∷ []) ts)
  | inr h ↦ rw h (ap (λ l. g.tiles ++ l) (tiles_after range (alone t (range t)) ts))
]

tiles_joined : (range : ℕ → Extent) (ts : List ℕ) → flat_map (λ (h : groups.Group). h.tiles) (grouped range ts) ≡ ts
unfolding grouped grouped_after
tiles_joined range [] = refl
tiles_joined range (t ∷ ts) = tiles_after range (alone t (range t)) ts

tiles_kept : (gs : List Group) → flat_map (λ (g : Group). g.tiles.items) gs ≡ flat_map (λ (h : groups.Group). h.tiles) (map group_of gs)
tiles_kept [] = refl
tiles_kept (g ∷ gs) = ap (λ l. g.tiles.items ++ l) (tiles_kept gs)

-- the tiles of the groups are the tiles that were grouped
pub tiles_of_groups : (range : ℕ → Extent) (ts : List ℕ) (gs : List Group) → map group_of gs ≡ grouped range ts → flat_map (λ (g : Group). g.tiles.items) gs ≡ ts
tiles_of_groups range ts gs is = tiles_kept gs ∙ ap (flat_map (λ (h : groups.Group). h.tiles)) is ∙ tiles_joined range ts

-- ---- each group

-- a tile of the level has few bytes, inside a file of so many
pub record IsFit (range : ℕ → Extent) (l : Level) (file_length t : ℕ) : Type 0 where
  pub within : t < tile_total (grid_of l)
  pub few : (range t).len ≤ 1048576
  pub inside : (range t).first + (range t).len ≤ file_length

adjoin_more : (range : ℕ → Extent) (at : ℕ) (ts : List ℕ) (t end : ℕ) → Adjoin range at ts end → (range t).first ≡ end → Adjoin range at (ts ++ t ∷ []) (end + (range t).len)
adjoin_more range at [] t end is first = (first ∙ sym is, ap (λ k. k + (range t).len) is)
adjoin_more range at (u ∷ ts) t end (begin, rest) first = (begin, adjoin_more range (at + (range u).len) ts t end rest first)

group_alone : (range : ℕ → Extent) (l : Level) (file_length t : ℕ) → IsFit range l file_length t → IsGroup range l file_length (alone t (range t))
group_alone range l file_length t fit = record { tiles = All-cons (λ t. t < tile_total (grid_of l)) t [] fit.within (All-nil (λ t. t < tile_total (grid_of l))); adjoin = (refl, refl); few = fit.few; inside = fit.inside }

group_more : (range : ℕ → Extent) (l : Level) (file_length : ℕ) (g : groups.Group) (t : ℕ) → IsGroup range l file_length g → IsFit range l file_length t → joins g.range (range t) ≡ true → IsGroup range l file_length (with_tile g t (range t))
group_more range l file_length g t is fit joined =
    let (next, few) = and_parts ((range t).first == g.range.first + g.range.len) (nat_le (g.range.len + (range t).len) 1048576) joined in
    let first = eqb-true (range t).first (g.range.first + g.range.len) next in
    let end : g.range.first + g.range.len + (range t).len ≡ g.range.first + (g.range.len + (range t).len) = omega arith in
    record {
      tiles = All-push (λ t. t < tile_total (grid_of l)) g.tiles t is.tiles fit.within;
      adjoin = subst (Adjoin range g.range.first (g.tiles ++ t ∷ [])) end (adjoin_more range g.range.first g.tiles t (g.range.first + g.range.len) is.adjoin first);
      few = leb-true (g.range.len + (range t).len) 1048576 few;
      inside = omega (arith, fit.inside, first);
    }

each_after : (range : ℕ → Extent) (l : Level) (file_length : ℕ) (g : groups.Group) (ts : List ℕ) → IsGroup range l file_length g → AllByRecursion (IsFit range l file_length) ts → AllByRecursion (IsGroup range l file_length) (grouped_after range g ts)
unfolding grouped_after
each_after range l file_length g [] is all = (is, tt)
each_after range l file_length g (t ∷ ts) is (fit, all) = elim (cases_Bool (joins g.range (range t))) [
  | inl h ↦ rw h (each_after range l file_length (with_tile g t (range t)) ts (group_more range l file_length g t is fit h) all)
  | inr h ↦ rw h (is, each_after range l file_length (alone t (range t)) ts (group_alone range l file_length t fit) all)
]

-- each group of fitting tiles is the bytes of its tiles
pub each_group : (range : ℕ → Extent) (l : Level) (file_length : ℕ) (ts : List ℕ) → AllByRecursion (IsFit range l file_length) ts → AllByRecursion (IsGroup range l file_length) (grouped range ts)
unfolding grouped grouped_after
each_group range l file_length [] all = tt
each_group range l file_length (t ∷ ts) (fit, all) = each_after range l file_length (alone t (range t)) ts (group_alone range l file_length t fit) all

pub all_of : {X Y : Type 0} (P : Y → Type 0) (f : X → Y) (xs : List X) → AllByRecursion P (map f xs) → AllByRecursion (λ x. P (f x)) xs
all_of P f [] all = tt
all_of P f (x ∷ xs) (p, ps) = (p, all_of P f xs ps)

-- ---- numbers that are counted

pub all_counted : (P : ℕ → Type 0) (e : ℕ → ℕ) (a n : ℕ) → ((k : ℕ) → a ≤ k → k < a + n → P (e k)) → AllByRecursion P (map e (range_with_len a n))
all_counted P e a zero each = tt
all_counted P e a (suc n) each = (each a (omega arith) (omega arith), all_counted P e (a + 1) n (λ k low high. each k (omega (arith, low)) (omega (arith, high))))

pub among_counted : (e : ℕ → ℕ) (n : ℕ) (ts : List ℕ) (k : ℕ) → map e (range_with_len 0 n) ≡ ts → k < n → IsAmong ts (e k)
among_counted e n ts k is less =
    let size : length (map e (range_with_len 0 n)) ≡ n = length-map-range_with_len e 0 n in
    let here : get_or (map e (range_with_len 0 n)) k (e k) ≡ e k = get_or-map-range_with_len e 0 n k k (e k) less (omega arith) in
    subst (λ l. IsAmong l (e k)) is (k, (omega (arith, size, less), sym here))

pub counted_among : (e : ℕ → ℕ) (n : ℕ) (ts : List ℕ) (t : ℕ) → map e (range_with_len 0 n) ≡ ts → IsAmong ts t → (k : ℕ) × (k < n) × (t ≡ e k)
counted_among e n ts t is among =
    let here = subst (λ l. IsAmong l t) (sym is) among in
    let size : length (map e (range_with_len 0 n)) ≡ n = length-map-range_with_len e 0 n in
    let less : here.0 < n = omega (arith, size, here.1.0) in
    (here.0, less, here.1.1 ∙ get_or-map-range_with_len e 0 n here.0 here.0 t less (omega arith))
