-- What a state becomes without another byte.
use Rattle.std.proofs.Common.{◌≡◌, ℕ, suc, ◌+◌, ◌*◌, ◌<◌, ◌≤◌, ◌++◌, ◌∷◌, [], inl, inr, Bool, true, false, if◌then◌else◌, List, length, drop, get_or, Option, Some, None, refl, sym, subst, ap, ◌∙◌, arith, eq-eqb}
use Rattle.std.specs.Prelude.{Result, Ok, Err, IfOk, IsSome, ◌||◌, ◌⊎◌, ◌==◌, slice_get, IsSomeAnd}
use Rattle.std.specs.Option.{option_map, option_map_or, option_to_list}
use Rattle.std.specs.List.{cons_option, filter, flat_map, list_any, range_with_len}
use Rattle.std.proofs.Math.Nat.{mul-le-mul_left}
use Rattle.std.proofs.lemmas.Bool.{lt-ltb, false≢true}
use Rattle.std.proofs.lemmas.List.{length-map}
use Rattle.std.proofs.lemmas.List.FromFn.{length-range_with_len}
use Rattle.std.proofs.lemmas.Option.{none-some, get_or_from_slice_get, slice_get_within, slice_get-map}
use Rattle.std.proofs.lemmas.List.Folds.{list_any_at}
use Rattle.tiff_dir.specs.declared.level.Kind.{Kind}
use Rattle.tiff_dir.specs.declared.level.Kind.TheVariants as kind
use Rattle.tiff_dir.specs.declared.geo.GeoPlaces.{GeoPlaces}
use Rattle.tiff_dir.specs.declared.level.Level.{Level}
use Rattle.tiff_dir.specs.declared.level.Place.{Place}
use Rattle.tiff_dir.specs.declared.query.Query.{Query}
use Rattle.tiff_dir.specs.declared.query.Query.TheVariants.{Window, Info}
use Rattle.tiff_dir.specs.declared.fault.FileFault.{FileFault}
use Rattle.tiff_dir.specs.declared.fault.FileFault.TheVariants.{PastEnd, FieldType, TooLarge}
use Rattle.tiff_dir.specs.File.{size_of}
use Rattle.tiff_dir.specs.WalkState.{WalkState}
use Rattle.tiff_dir.specs.Level.{level_layout, tile_total}
use Rattle.tiff_dir.specs.Described.{AreLevels, grid_of, layout_of}
use Rattle.tiff_dir.specs.Fault.{IsFaultOfDirectories}
use Rattle.tiff_dir.specs.Faulty.{IsFaulty, IsFaultOfInfo, IsFaultOfWindow}
use Rattle.tiff_dir.specs.Geo.{geo_ranges, IsGeoFault}
use Rattle.extents.specs.Extent.{Extent, ends_past}
use Rattle.tiff_dir.specs.Needs.{extent_of_place}
use Rattle.tiff_dir.specs.Query as queries
use Rattle.tiff_dir.specs.Query.{array_ranges, joined_after, joins, is_refused, needs_of_query, rectangle, tile_ranges, tiles_in}
use Rattle.tiff_dir.specs.Walk as walk
use Rattle.extents.specs.Extent.{extent_of_span}
use Rattle.tiff_dir.specs.Walk.{levels_of, AreGeoPlaces, AreTyped, HasEnded, IsDescribed}
use Rattle.tile_plan.specs.declared.asked.Rectangle.{Rectangle}
use Rattle.tile_plan.specs.declared.window_builder.WindowBuilder.{WindowBuilder}
use Rattle.tile_plan.specs.declared.plan.Group.{Group}
use Rattle.tile_plan.specs.Groups as groups
use Rattle.tile_plan.specs.Groups.{with_tile, alone, grouped_after, grouped}
use Rattle.tile_plan.specs.Levels.{rectangle_of, HasLevels, IsAsked, IsSmall}
use Rattle.tile_plan.specs.Plan.{group_of, tiles_of, IsGroup, IsPlanned}
use Rattle.tile_plan.specs.declared.arrays.Arrays.{Arrays}
use Rattle.cog_reader.specs.declared.fields.GeoFields.{GeoFields}
use Rattle.cog_reader.specs.declared.kept_arrays.KeptArrays.{KeptArrays}
use Rattle.cog_reader.specs.declared.kept_arrays.KeptArrays.TheVariants as kept
use Rattle.cog_reader.specs.declared.outcome.Outcome.{Outcome}
use Rattle.cog_reader.specs.declared.outcome.Outcome.TheVariants as outcomes
use Rattle.cog_reader.specs.declared.outcome.Window.{Window as Samples}
use Rattle.cog_reader.specs.declared.state.State.{State}
use Rattle.cog_reader.specs.declared.state.ReaderStep.{ReaderStep}
use Rattle.cog_reader.specs.declared.state.ReaderStep.TheVariants.{Read, Answer}
use Rattle.cog_reader.specs.declared.state.State.TheVariants.{Directories, Arrays as Reads, Tiles, GeoFields as Geo, Answered}
use Rattle.cog_reader.specs.GeoFields.{present_in, IsReadOf, FieldsState}
use Rattle.cog_reader.specs.KeptArrays.{arrays_held, next_array, HasBoth, KeptAgrees}
use Rattle.tile_plan.specs.WindowBuilder.{tile_extent, IsPlan, IsUnderway, WindowState, AreArraysOf}
use Rattle.cog_reader.specs.Outcome.{IsTrueOf, IsWindowOf}
use Rattle.cog_reader.specs.Reader.{outcome_in, own_given, IsClean, IsState, StateAgrees}
use Rattle.cog_reader.specs.ReaderStep.{Becomes, IsBase, IsFair, IsStep}
use Rattle.cog_reader.proofs.FieldLemmas.{geo_ranges_are, few_bytes, some_bytes}
use Rattle.cog_reader.proofs.ArrayLemmas.{ranges_are, array_some}

-- nothing of the directories is still to come
abbrev pub IsOver : WalkState → Type 0
IsOver w = (f : List ℕ) → walk.WalkAgrees w f → walk.to_come w f ≡ []

-- ---- a query that is done

pub becomes_done : (file_length : ℕ) (w : WalkState) (k : KeptArrays) (q : Query) (old : State) (o : Outcome) → ((f : List ℕ) → IsBase f file_length w k → StateAgrees f q k old → IsTrueOf f q o) → Becomes file_length w k q old (Answered o)
becomes_done file_length w k q old o true_of = record {
  sound = tt;
  same = true_of;
  come = λ f base here none. absurd (none-some o (sym none));
  steps = omega arith;
  done = λ done. refl;
}

pub becomes_more : (file_length : ℕ) (w : WalkState) (k : KeptArrays) (q : Query) (a b c : State) → Becomes file_length w k q a b → Becomes file_length w k q b c → Becomes file_length w k q a c
becomes_more file_length w k q a b c x y = record {
  sound = y.sound;
  same = λ f base here. y.same f base (x.same f base here);
  come = λ f base here none. y.come f base (x.same f base here) none ∙ x.come f base here (undone (outcome_in b) refl none);
  steps = omega (arith, x.steps, y.steps);
  done = λ done. y.done (x.done done);
} where
  undone : (o : Option Outcome) → outcome_in b ≡ o → outcome_in c ≡ None → outcome_in b ≡ None
  undone None is none = is
  undone (Some o) is none = absurd (false≢true (subst IsSome none (y.done (subst IsSome (sym is) refl))))

pub becomes_same : (file_length : ℕ) (w : WalkState) (k : KeptArrays) (q : Query) (a : State) → IsState file_length w k a → Becomes file_length w k q a a
becomes_same file_length w k q a sound = record { sound = sound; same = λ f base here. here; come = λ f base here none. refl; steps = omega arith; done = λ done. done }

pub step_more : (file_length : ℕ) (w : WalkState) (k : KeptArrays) (q : Query) (a b : State) (s : ReaderStep) → Becomes file_length w k q a b → IsStep file_length w k q b s → IsStep file_length w k q a s
step_more file_length w k q a b (Read new span) x y = (becomes_more file_length w k q a b new x y.0, y.1)
step_more file_length w k q a b (Answer o) x y = becomes_more file_length w k q a b (Answered o) x y

-- ---- a level of the walk

-- what the walk tells of level n
pub record IsLevelOf (w : WalkState) (n : ℕ) (l : Level) : Type 0 where
  pub there : slice_get (levels_of w) n ≡ Some l
  pub layout : (f : List ℕ) → walk.WalkAgrees w f → level_layout f n ≡ Some (layout_of l)
  pub described : (f : List ℕ) → walk.WalkAgrees w f → IsDescribed f n l
  pub clean : (f : List ℕ) → walk.WalkAgrees w f → IsClean f

there_is : (ls : List Level) (n : ℕ) (l : Level) (P : Level → Type 0) → IsSomeAnd (slice_get ls n) P → l ≡ get_or ls n l → slice_get ls n ≡ Some l
there_is ls n l P some is = at (slice_get ls n) refl some where
  at : (o : Option Level) → slice_get ls n ≡ o → IsSomeAnd o P → slice_get ls n ≡ Some l
  at None none bad = absurd bad
  at (Some m) same good = same ∙ ap Some (sym (get_or_from_slice_get ls n m l same) ∙ sym is)

pub level_told : (w : WalkState) (ls : List Level) (n : ℕ) (l : Level) (r : Rectangle) → ls ≡ levels_of w → IsSomeAnd (slice_get (levels_of w) n) (λ m. IsSmall m r) → l ≡ get_or ls n l
    → ((f : List ℕ) → walk.WalkAgrees w f → AreLevels f ls)
    → ((f : List ℕ) (ls : List Level) (n : ℕ) (l : Level) → AreLevels f ls → slice_get ls n ≡ Some l → IsDescribed f n l)
    → ((f : List ℕ) → walk.WalkAgrees w f → IsClean f) → IsLevelOf w n l
level_told w ls n l r same some is levels law clean =
    let here = there_is ls n l (λ m. IsSmall m r) (subst (λ xs. IsSomeAnd (slice_get xs n) (λ m. IsSmall m r)) (sym same) some) is in record {
      there = ap (λ xs. slice_get xs n) (sym same) ∙ here;
      layout = λ f told. (law f ls n l (levels f told) here).layout;
      described = λ f told. law f ls n l (levels f told) here;
      clean = clean;
    }

-- ---- an array that is read

-- the arrays of a window's level
arrays_are : (f : List ℕ) (q : Query) (r : Rectangle) (l : Level) → rectangle f q ≡ Some (rectangle_of r) → is_refused f q ≡ false → level_layout f r.level ≡ Some (layout_of l)
    → array_ranges f q ≡ extent_of_place l.offsets ∷ extent_of_place l.counts ∷ []
unfolding array_ranges
arrays_are f q r l asks good layout =
    let parts = ranges_are f r.level (layout_of l) layout in
    rw (good, asks, parts.0, parts.1) refl

-- what a window needs besides the directories
pub needs_split : (f : List ℕ) (q : Query) (r : Rectangle) (l : Level) → rectangle f q ≡ Some (rectangle_of r) → is_refused f q ≡ false → level_layout f r.level ≡ Some (layout_of l)
    → needs_of_query f q ≡ extent_of_place l.offsets ∷ extent_of_place l.counts ∷ joined_after None (tile_ranges f q)
unfolding needs_of_query array_ranges rectangle
needs_split f Info r l asks good layout = absurd (none-some (rectangle_of r) asks)
needs_split f (Window x y wide tall p) r l asks good layout =
    let parts = ranges_are f r.level (layout_of l) layout in
    rw (good, asks, parts.0, parts.1) refl

-- the next array is one of the two
which : (k : KeptArrays) (n : ℕ) (l : Level) (p : Place) → next_array k n l ≡ Some p → (p ≡ l.offsets) ⊎ (p ≡ l.counts)
which kept.Nothing n l p is = inl (cc)
which (kept.Offsets m o) n l p is = at (m == n) is where
  at : (b : Bool) → (if b then Some l.counts else Some l.offsets) ≡ Some p → (p ≡ l.offsets) ⊎ (p ≡ l.counts)
  at true is = inr (cc)
  at false is = inl (cc)
which (kept.Both m a) n l p is = at (m == n) is where
  at : (b : Bool) → (if b then None else Some l.offsets) ≡ Some p → (p ≡ l.offsets) ⊎ (p ≡ l.counts)
  at true is = absurd (none-some p is)
  at false is = inl (cc)

pub window_fault : (f : List ℕ) (q : Query) (r : queries.Rectangle) (fault : FileFault) → rectangle f q ≡ Some r → IsFaultOfWindow f q fault → IsFaulty f q fault
unfolding IsFaulty rectangle
window_fault f Info r fault asks bad = absurd (none-some r asks)
window_fault f (Window x y w h p) r fault asks bad = inr bad

pub past_array : (f : List ℕ) (q : Query) (r : Rectangle) (l : Level) (k : KeptArrays) (p : Place) → rectangle f q ≡ Some (rectangle_of r) → is_refused f q ≡ false → level_layout f r.level ≡ Some (layout_of l)
    → next_array k r.level l ≡ Some p → length f < p.first + p.len → IsFaulty f q PastEnd
past_array f q r l k p asks good layout next past =
    let ends : ends_past f (extent_of_place p) ≡ true = lt-ltb (length f) (p.first + p.len) past in
    window_fault f q (rectangle_of r) PastEnd asks (ap (λ rs. list_any (ends_past f) (rs ++ flat_map option_to_list (tile_ranges f q))) (arrays_are f q r l asks good layout) ∙ elim (which k r.level l p next) [
      | inl same ↦ first (ends_past f) (extent_of_place l.offsets) (extent_of_place l.counts) (flat_map option_to_list (tile_ranges f q)) (ap (λ x. ends_past f (extent_of_place x)) (sym same) ∙ ends)
      | inr same ↦ second (ends_past f) (extent_of_place l.offsets) (extent_of_place l.counts) (flat_map option_to_list (tile_ranges f q)) (ap (λ x. ends_past f (extent_of_place x)) (sym same) ∙ ends)
    ]) where
      first : (p : Extent → Bool) (a b : Extent) (rest : List Extent) → p a ≡ true → list_any p (a ∷ b ∷ rest) ≡ true
      first p a b rest is = rw is refl

      second : (p : Extent → Bool) (a b : Extent) (rest : List Extent) → p b ≡ true → list_any p (a ∷ b ∷ rest) ≡ true
      second p a b rest is = at (p a) where
        at : (v : Bool) → (v || (p b || list_any p rest)) ≡ true
        at true = refl
        at false = rw is refl

-- ---- an array that can be given

few_size : (k : Kind) → size_of k ≤ 8
few_size kind.Byte = omega arith
few_size kind.Ascii = omega arith
few_size kind.Short = omega arith
few_size kind.Long = omega arith
few_size kind.Rational = omega arith
few_size kind.SignedByte = omega arith
few_size kind.Undefined = omega arith
few_size kind.SignedShort = omega arith
few_size kind.SignedLong = omega arith
few_size kind.SignedRational = omega arith
few_size kind.Float = omega arith
few_size kind.Double = omega arith

few_values : (count : ℕ) (k : Kind) → count ≤ 65536 → count * size_of k ≤ 1048576
few_values count k few = (let h = mul-le-mul_left count (few_size k) in omega (arith, h, few))

pub some_array : (k : KeptArrays) (n : ℕ) (l : Level) (p : Place) → next_array k n l ≡ Some p → 0 < p.len
some_array k n l p next = elim (which k n l p next) [
  | inl same ↦ (let some = (array_some l).0 in let len = ap (λ (y : Place). y.len) same in omega (arith, some, len))
  | inr same ↦ (let some = (array_some l).1 in let len = ap (λ (y : Place). y.len) same in omega (arith, some, len))
]

pub fair_array : (file_length : ℕ) (k : KeptArrays) (n : ℕ) (l : Level) (p : Place) → next_array k n l ≡ Some p → (file_length < p.first + p.len → ⊥) → IsFair file_length (extent_of_place p)
fair_array file_length k n l p next inside = elim (which k n l p next) [
  | inl same ↦ at l.offsets (array_some l).0 (let h = few_values l.offsets.count l.offsets.kind (let t = l.tiles in let e = l.offset_of_each in omega (arith, t, e)) in let e = l.lens.0 in omega (arith, h, e)) same
  | inr same ↦ at l.counts (array_some l).1 (let h = few_values l.counts.count l.counts.kind (let t = l.tiles in let e = l.count_of_each in omega (arith, t, e)) in let e = l.lens.1 in omega (arith, h, e)) same
] where
  at : (x : Place) → 0 < x.len → x.len ≤ 1048576 → p ≡ x → IsFair file_length (extent_of_place p)
  at x some few same =
      let len = ap (λ (y : Place). y.len) same in record {
        some = omega (arith, len, some);
        inside = omega (arith, inside);
        few = omega (arith, len, few);
      }

-- ---- groups that are planned

grouped_few : (range : ℕ → Extent) (g : groups.Group) (ts : List ℕ) → length (grouped_after range g ts) ≤ 1 + length ts
unfolding grouped_after
grouped_few range g [] = omega arith
grouped_few range g (t ∷ ts) = at (joins g.range (range t)) (grouped_few range (with_tile g t (range t)) ts) (grouped_few range (alone t (range t)) ts) where
  at : (b : Bool) → length (grouped_after range (with_tile g t (range t)) ts) ≤ 1 + length ts → length (grouped_after range (alone t (range t)) ts) ≤ 1 + length ts
      → length (if b then grouped_after range (with_tile g t (range t)) ts else g ∷ grouped_after range (alone t (range t)) ts) ≤ 1 + length (t ∷ ts)
  at true h k = omega (arith, h)
  at false h k = omega (arith, k)

all_few : (range : ℕ → Extent) (ts : List ℕ) → length (grouped range ts) ≤ length ts
unfolding grouped
all_few range [] = omega arith
all_few range (t ∷ ts) = (let h = grouped_few range (alone t (range t)) ts in omega (arith, h))

filter_few : (p : ℕ → Bool) (xs : List ℕ) → length (filter p xs) ≤ length xs
filter_few p [] = omega arith
filter_few p (x ∷ xs) = at (p x) (filter_few p xs) where
  at : (b : Bool) → length (filter p xs) ≤ length xs → length (if b then x ∷ filter p xs else filter p xs) ≤ length (x ∷ xs)
  at true h = omega (arith, h)
  at false h = omega (arith, h)

pub groups_few : (file_length : ℕ) (a : Arrays) (m : WindowState) → IsPlan file_length a m → length m.groups ≤ 65536
unfolding tiles_in
groups_few file_length a m plan =
    let l = a.level in
    let r = m.picture.rectangle in
    let ts = tiles_of l r in
    let same = sym (length-map m.groups group_of) ∙ ap length plan.are.groups in
    let few = all_few (tile_extent a) ts in
    let tiles = filter_few (queries.meets (grid_of l) (rectangle_of r)) (range_with_len 0 (tile_total (grid_of l))) in
    let total = l.tiles in
    omega (arith, same, few, tiles, length-range_with_len 0 (tile_total (grid_of l)), total)

pub both_held : (k : KeptArrays) (n : ℕ) (a : Arrays) → k ≡ kept.Both n a → arrays_held k n ≡ 2
both_held k n a is = ap (λ x. arrays_held x n) is ∙ (let same : (n == n) ≡ true = eq-eqb n n refl in rw same refl)

pub has_both : (k : KeptArrays) (n : ℕ) (a : Arrays) (P : Arrays → Type 0) → k ≡ kept.Both n a → P a → HasBoth k P
has_both k n a P is good = subst (λ x. HasBoth x P) (sym is) good

-- the arrays of a level of the walk, of which the groups of a window are planned
pub planned : (f : List ℕ) (q : Query) (file_length : ℕ) (w : WalkState) (k : KeptArrays) (r : Rectangle) (l : Level) (a : Arrays) → IsBase f file_length w k → StateAgrees f q k (Reads r) → IsLevelOf w r.level l → k ≡ kept.Both r.level a → l ≡ a.level
    → IsPlanned f q a.order a.level r file_length a.offsets.items a.counts.items
planned f q file_length w k r l a base here of_level is same =
    let arrays : AreArraysOf f r.level a = subst (KeptAgrees f) is base.kept in record {
      size = base.size;
      order_is = arrays.order_is;
      layout_is = arrays.layout_is;
      described = subst (IsDescribed f r.level) same (of_level.described f base.walked);
      offsets_are = arrays.offsets_are;
      counts_are = arrays.counts_are;
      rectangle_is = here.0;
      good = here.1;
    }

-- what is said of a builder by its work
pub becomes_tiles : (file_length : ℕ) (w : WalkState) (k : KeptArrays) (q : Query) (r : Rectangle) (l : Level) (a : Arrays) (m : WindowBuilder) → HasEnded w → IsLevelOf w r.level l → k ≡ kept.Both r.level a → l ≡ a.level → IsPlan file_length a m → m.given ≡ 0
    → ((f : List ℕ) → length f ≡ file_length → IsPlanned f q a.order a.level r file_length a.offsets.items a.counts.items → IsUnderway f q a m) → Becomes file_length w k q (Reads r) (Tiles m)
becomes_tiles file_length w k q r l a m ended of_level is same plan none underway = record {
  sound = (ended, has_both k r.level a (λ b. IsPlan file_length b m) is plan);
  same = λ f base here. (has_both k r.level a (λ b. IsUnderway f q b m) is (underway f base.size (planned f q file_length w k r l a base here of_level is same)), of_level.clean f base.walked);
  come = λ f base here undone. ap (λ n. drop n (needs_of_query f q)) (omega (arith, none, both_held k r.level a is));
  steps = (let few = groups_few file_length a m plan in let two = both_held k r.level a is in omega (arith, few, two, none));
  done = λ done. absurd (false≢true done);
}

-- ---- the geo fields

info_fault : (f : List ℕ) (fault : FileFault) → IsFaultOfInfo f fault → IsFaulty f Info fault
unfolding IsFaulty
info_fault f fault bad = inr bad

pub geo_fault : (f : List ℕ) (fault : FileFault) → IsGeoFault f fault → IsFaulty f Info fault
geo_fault f fault bad = info_fault f fault (at fault bad) where
  at : (fault : FileFault) → IsGeoFault f fault → IsFaultOfInfo f fault
  at (FieldType tag) bad = inl bad
  at TooLarge bad = inl bad
  at _ bad = absurd bad

-- ---- a group that can be given

pub fair_group_at : (file_length : ℕ) (a : Arrays) (m : WindowState) (g : Group) (n : ℕ) → IsPlan file_length a m → slice_get m.groups n ≡ Some g → IsFair file_length (extent_of_span g.span)
fair_group_at file_length a m g n plan is =
    let group = subst (λ h. IsGroup (tile_extent a) a.level file_length (group_of h)) (get_or_from_slice_get m.groups n g g is) (plan.are.each n g (slice_get_within m.groups n g is)) in
    let up = g.span.ascending in record { some = omega (arith, up); inside = group.inside; few = group.few }

pub fair_group : (file_length : ℕ) (a : Arrays) (m : WindowState) (g : Group) → IsPlan file_length a m → slice_get m.groups m.given ≡ Some g → IsFair file_length (extent_of_span g.span)
fair_group file_length a m g plan is = fair_group_at file_length a m g m.given plan is

-- ---- a geo field that is read

pub fair_field : (file_length : ℕ) (g : GeoPlaces) (i : ℕ) (p : Place) → AreTyped g → slice_get (present_in g) i ≡ Some p → (file_length < p.first + p.len → ⊥) → IsFair file_length (extent_of_place p)
fair_field file_length g i p typed is inside = record { some = some_bytes g typed i p is; inside = omega (arith, inside); few = (let few = few_bytes g typed i p is in omega (arith, few)) }

pub past_field : (f : List ℕ) (r : FieldsState) (p : Place) → IsReadOf f r → slice_get (present_in r.places) r.given ≡ Some p → length f < p.first + p.len → IsFaulty f Info PastEnd
unfolding needs_of_query
past_field f r p read is past =
    let here : slice_get (geo_ranges f) r.given ≡ Some (extent_of_place p) = ap (λ l. slice_get l r.given) (geo_ranges_are f r.places read.places) ∙ slice_get-map extent_of_place (present_in r.places) r.given ∙ ap (option_map extent_of_place) is in
    let ends = ap (ends_past f) (get_or_from_slice_get (geo_ranges f) r.given (extent_of_place p) (extent_of_place p) here) ∙ lt-ltb (length f) (p.first + p.len) past in
    info_fault f PastEnd (list_any_at (ends_past f) (geo_ranges f) r.given (extent_of_place p) (slice_get_within (geo_ranges f) r.given (extent_of_place p) here) ends)

cons_few : (o : Option Place) (ps : List Place) (n : ℕ) → length ps ≤ n → length (cons_option o ps) ≤ suc n
cons_few None ps n few = omega (arith, few)
cons_few (Some p) ps n few = omega (arith, few)

pub six_few : (g : GeoPlaces) → length (present_in g) ≤ 6
six_few g = cons_few g.directory _ 5 (cons_few g.doubles _ 4 (cons_few g.ascii _ 3 (cons_few g.scale _ 2 (cons_few g.tiepoints _ 1 (cons_few g.transformation [] 0 (omega arith))))))

pub becomes_fields : (file_length : ℕ) (w : WalkState) (k : KeptArrays) (g : GeoPlaces) (x : GeoFields) → HasEnded w → x ≡ record { places = g; given = 0; bytes = [] } → ((f : List ℕ) → walk.WalkAgrees w f → AreGeoPlaces f g) → IsOver w → Becomes file_length w k Info Directories (Geo x)
unfolding rectangle
becomes_fields file_length w k g x ended is places over = record {
  sound = ended;
  same = λ f base here. (refl, subst (IsReadOf f) (sym is) (record { places = places f base.walked; bytes_are = refl; inside = refl }));
  come = λ f base here undone. ap (λ n. drop n (needs_of_query f Info)) (ap (λ (r : FieldsState). r.given) is) ∙ ap (λ l. l ++ needs_of_query f Info) (sym (over f base.walked));
  steps = (let few = six_few g in let same = ap (λ (r : FieldsState). length (present_in r.places)) is in omega (arith, few, same));
  done = λ done. absurd (false≢true done);
}

-- ---- a window that is begun

pub if_ok : {A E : Type 0} (r : Result A E) (P Q : A → Type 0) → IfOk r P → ((a : A) → P a → Q a) → IfOk r Q
if_ok (Ok a) P Q h more = more a h
if_ok (Err e) P Q h more = h

pub becomes_window : (file_length : ℕ) (w : WalkState) (k : KeptArrays) (q : Query) (ls : List Level) (r : Rectangle) → HasEnded w → ls ≡ levels_of w → IsAsked ls q r → ((f : List ℕ) → walk.WalkAgrees w f → HasLevels f ls) → IsOver w → Becomes file_length w k q Directories (Reads r)
becomes_window file_length w k q ls r ended same asks levels over = record {
  sound = (ended, subst (λ xs. IsSomeAnd (slice_get xs r.level) (λ l. IsSmall l r)) same asks.small);
  same = λ f base here. (asks.rectangle f (levels f base.walked), asks.good f (levels f base.walked));
  come = λ f base here undone.
      ap (λ (o : Option queries.Rectangle). drop (option_map_or (λ (r : queries.Rectangle). arrays_held k r.level) o 0) (needs_of_query f q)) (sym (asks.rectangle f (levels f base.walked)))
      ∙ ap (λ l. l ++ drop (own_given f q k Directories) (needs_of_query f q)) (sym (over f base.walked));
  steps = omega arith;
  done = λ done. absurd (false≢true done);
}

pub own_fault : (f : List ℕ) (q : Query) (fault : FileFault) → (q ≡ Info → ⊥) → IsFaultOfWindow f q fault → IsFaulty f q fault
unfolding IsFaulty
own_fault f Info fault window bad = absurd (window refl)
own_fault f (Window x y w h p) fault window bad = inr bad

pub directory_fault : (f : List ℕ) (q : Query) (fault : FileFault) → IsFaultOfDirectories f fault → IsFaulty f q fault
unfolding IsFaulty
directory_fault f Info fault bad = inl bad
directory_fault f (Window x y w h p) fault bad = inl bad

pub both_at : (k : KeptArrays) (n : ℕ) (a : Arrays) (P : Arrays → Type 0) → k ≡ kept.Both n a → HasBoth k P → P a
both_at k n a P is good = subst (λ x. HasBoth x P) is good

-- a window of which all groups were given
pub becomes_window_done : (file_length : ℕ) (w : WalkState) (k : KeptArrays) (n : ℕ) (a : Arrays) (q : Query) (m : WindowBuilder) (v : Samples) → k ≡ kept.Both n a → m.given ≡ length m.groups
    → ((f : List ℕ) (q : Query) → IsUnderway f q a m → m.given ≡ length m.groups → IsClean f → IsWindowOf f q v) → Becomes file_length w k q (Tiles m) (Answered (outcomes.Window v))
becomes_window_done file_length w k n a q m v is all window =
    becomes_done file_length w k q (Tiles m) (outcomes.Window v) (λ f base here. window f q (both_at k n a (λ b. IsUnderway f q b m) is here.0) all here.1)
