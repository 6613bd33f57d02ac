-- The range that is wanted, and those that are known after it.
use Rattle.std.proofs.Common.{◌≡◌, ℕ, zero, suc, ◌+◌, ◌<◌, ◌≤◌, List, [], ◌∷◌, Option, Some, None, length, refl, sym, subst, ap, ◌∙◌, arith}
use Rattle.std.specs.Prelude.{slice_get, IfSome, IsSomeAnd, MatchOption, if◌then◌else◌}
use Rattle.std.specs.List.{filter_map}
use Rattle.std.specs.Option.{option_map}
use Rattle.std.proofs.lemmas.Bool.Decides.{eqb_tells}
use Rattle.std.proofs.Common.{inl, inr}
use Rattle.std.proofs.lemmas.Option.{none-some, same_Some, slice_get-map, slice_get_past}
use Rattle.tiff_dir.specs.declared.level.Level.{Level}
use Rattle.tiff_dir.specs.declared.level.Place.{Place}
use Rattle.tiff_dir.specs.declared.query.Query.{Query}
use Rattle.extents.specs.declared.span.Span.{Span}
use Rattle.tiff_dir.specs.File.{◌>>=◌}
use Rattle.tiff_dir.specs.Geo.{geo_ranges}
use Rattle.tiff_dir.specs.WalkState.{WalkState}
use Rattle.extents.specs.Extent.{Extent}
use Rattle.tiff_dir.specs.Needs.{extent_of_place}
use Rattle.tiff_dir.specs.Query.{needs_of_query}
use Rattle.tiff_dir.specs.Walk as walk
use Rattle.tiff_dir.specs.Walk.{levels_of}
use Rattle.extents.specs.Extent.{extent_of_span}
use Rattle.tile_plan.specs.declared.asked.Rectangle.{Rectangle}
use Rattle.tile_plan.specs.declared.plan.Group.{Group}
use Rattle.cog_reader.specs.declared.fields.GeoFields.{GeoFields}
use Rattle.tile_plan.specs.declared.arrays.Arrays.{Arrays}
use Rattle.cog_reader.specs.declared.kept_arrays.KeptArrays.{KeptArrays}
use Rattle.cog_reader.specs.declared.kept_arrays.KeptArrays.TheVariants.{Both}
use Rattle.tile_plan.specs.declared.window_builder.WindowBuilder.{WindowBuilder}
use Rattle.cog_reader.specs.declared.state.PendingQuery.{PendingQuery}
use Rattle.cog_reader.specs.declared.state.State.{State}
use Rattle.cog_reader.specs.declared.state.State.TheVariants.{Answered, Directories, Arrays as Reads, Tiles, GeoFields as Geo}
use Rattle.cog_reader.specs.GeoFields.{present_in, six}
use Rattle.cog_reader.specs.Going.{known_at}
use Rattle.cog_reader.specs.KeptArrays.{array_after, arrays_held, next_array, HasBoth}
use Rattle.tile_plan.specs.WindowBuilder.{IsPlan, IsUnderway}
use Rattle.cog_reader.specs.Reader.{come_by, upcoming, upcoming_by, wanted_by, IsReader, IsState, ReaderState, StateAgrees}
use Rattle.cog_reader.specs.ReaderStep.{ComesAt, ComesLater, ComesNext, IsBase, IsWantedBy}
use Rattle.cog_reader.proofs.FieldLemmas.{geo_ranges_are}
use Rattle.cog_reader.proofs.FirstLemmas.{first_array, first_field, first_of_directories, get_of_drop, some_both, tiles_wanted}
use Rattle.cog_reader.proofs.GiveLemmas.{group_at}
use Rattle.cog_reader.proofs.ArrayLemmas.{array_some}
use Rattle.cog_reader.proofs.StepLemmas.{fair_group_at, groups_few, needs_split, IsLevelOf}

-- ---- a group

pub later_group : (file_length : ℕ) (w : WalkState) (k : KeptArrays) (m : WindowBuilder) (i : ℕ) (o : Option Span) → HasBoth k (λ a. IsPlan file_length a m)
    → MatchOption o (slice_get m.groups (m.given + 1 + i) ≡ None) (λ span. IsSomeAnd (slice_get m.groups (m.given + 1 + i)) (λ g. g.span ≡ span))
    → ComesLater file_length w k (Tiles m) i o
later_group file_length w k m i None both is =
    subst (λ x. IfSome x (λ r. file_length < r.first + r.len)) (sym (ap (option_map (λ (g : Group). extent_of_span g.span)) is)) tt
later_group file_length w k m i (Some span) both is = at (slice_get m.groups (m.given + 1 + i)) refl is
  where
    come : (g : Group) → slice_get m.groups (m.given + 1 + i) ≡ Some g → (f : List ℕ) (q : Query) → StateAgrees f q k (Tiles m)
        → slice_get (come_by f w k q (Tiles m)) (i + 1) ≡ Some (extent_of_span g.span)
    come g is f q here =
        let place : 2 + m.given + (i + 1) ≡ 2 + (m.given + 1 + i) = omega arith in
        get_of_drop (needs_of_query f q) (2 + m.given) (i + 1) ∙ ap (slice_get (needs_of_query f q)) place
        ∙ some_both k (λ a. IsUnderway f q a m) (slice_get (needs_of_query f q) (2 + (m.given + 1 + i)) ≡ Some (extent_of_span g.span)) here.0 (λ a u. group_at f q a m g (m.given + 1 + i) u is)

    at : (x : Option Group) → slice_get m.groups (m.given + 1 + i) ≡ x → IsSomeAnd x (λ g. g.span ≡ span) → ComesLater file_length w k (Tiles m) i (Some span)
    at None is bad = absurd bad
    at (Some g) is same =
        let inside : g.span.last < file_length = some_both k (λ a. IsPlan file_length a m) (g.span.last < file_length) both (λ a plan.
        let fair = fair_group_at file_length a m g (m.given + 1 + i) plan is in
        let up = g.span.ascending in
        omega (arith, up, fair.inside)) in (
          ap (option_map (λ (g : Group). extent_of_span g.span)) is ∙ ap (λ s. Some (extent_of_span s)) same,
          subst (λ (s : Span). s.last < file_length) same inside,
          λ f q base here. come g is f q here ∙ ap (λ s. Some (extent_of_span s)) same,
        )

-- ---- a place, whose bytes may end after the file

placed : (file_length : ℕ) (w : WalkState) (k : KeptArrays) (state : State) (place : ℕ) (range : Option Extent) (p : Place) (o : Option Span) → range ≡ Some (extent_of_place p)
    → ((f : List ℕ) (q : Query) → IsBase f file_length w k → StateAgrees f q k state → slice_get (come_by f w k q state) place ≡ Some (extent_of_place p))
    → MatchOption o (file_length < p.first + p.len) (λ span. (extent_of_span span ≡ extent_of_place p) × (p.first + p.len ≤ file_length))
    → ComesAt file_length w k state place range o
placed file_length w k state place range p None is come past = subst (λ x. IfSome x (λ r. file_length < r.first + r.len)) (sym is) past
placed file_length w k state place range p (Some span) is come within =
    let up = span.ascending in
    let first = ap (λ (r : Extent). r.first) within.0 in
    let len = ap (λ (r : Extent). r.len) within.0 in
    let inside = within.1 in (
      is ∙ ap Some (sym within.0),
      omega (arith, up, first, len, inside),
      λ f q base here. come f q base here ∙ ap Some (sym within.0),
    )

none_placed : (file_length : ℕ) (w : WalkState) (k : KeptArrays) (state : State) (place : ℕ) (range : Option Extent) → range ≡ None → ComesAt file_length w k state place range None
none_placed file_length w k state place range none = subst (λ x. IfSome x (λ r. file_length < r.first + r.len)) (sym none) tt

-- ---- a geo field

pub no_later_field : (file_length : ℕ) (w : WalkState) (k : KeptArrays) (x : GeoFields) (i : ℕ) → slice_get (present_in x.places) (x.given + 1 + i) ≡ None → ComesLater file_length w k (Geo x) i None
no_later_field file_length w k x i none = none_placed file_length w k (Geo x) (i + 1) (upcoming_by w k (Geo x) i) (ap (option_map extent_of_place) none)

pub later_field : (file_length : ℕ) (w : WalkState) (k : KeptArrays) (x : GeoFields) (i : ℕ) (p : Place) (o : Option Span) → slice_get (present_in x.places) (x.given + 1 + i) ≡ Some p
    → MatchOption o (file_length < p.first + p.len) (λ span. (extent_of_span span ≡ extent_of_place p) × (p.first + p.len ≤ file_length))
    → ComesLater file_length w k (Geo x) i o
unfolding needs_of_query
later_field file_length w k x i p o is placed_at = placed file_length w k (Geo x) (i + 1) (upcoming_by w k (Geo x) i) p o (ap (option_map extent_of_place) is) come placed_at
  where
    come : (f : List ℕ) (q : Query) → IsBase f file_length w k → StateAgrees f q k (Geo x) → slice_get (come_by f w k q (Geo x)) (i + 1) ≡ Some (extent_of_place p)
    come f q base here =
        let needs : needs_of_query f q ≡ geo_ranges f = ap (needs_of_query f) here.0 in
        let place : x.given + (i + 1) ≡ x.given + 1 + i = omega arith in
        get_of_drop (needs_of_query f q) x.given (i + 1) ∙ ap (slice_get (needs_of_query f q)) place
        ∙ ap (λ l. slice_get l (x.given + 1 + i)) (needs ∙ geo_ranges_are f x.places here.1.places)
        ∙ slice_get-map extent_of_place (present_in x.places) (x.given + 1 + i) ∙ ap (option_map extent_of_place) is

-- ---- an array

-- what is read after the next array are the counts, where none is held
after_is : (k : KeptArrays) (n : ℕ) (l : Level) (p : Place) → array_after k n l ≡ Some p → (arrays_held k n ≡ 0) × (p ≡ l.counts)
after_is k n l p is = elim (eqb_tells (arrays_held k n) 0) [
  | inl e ↦ (e.1, sym (same_Some l.counts p (sym (ap (λ t. if t then Some l.counts else None) e.0) ∙ is)))
  | inr e ↦ absurd (none-some p (sym (ap (λ t. if t then Some l.counts else None) e.0) ∙ is))
]

pub no_later_array : (file_length : ℕ) (w : WalkState) (k : KeptArrays) (r : Rectangle) (l : Level) → IsLevelOf w r.level l → array_after k r.level l ≡ None → ComesLater file_length w k (Reads r) 0 None
no_later_array file_length w k r l of_level none =
    none_placed file_length w k (Reads r) 1 (upcoming_by w k (Reads r) 0) (ap (λ o. o >>= λ l. option_map extent_of_place (array_after k r.level l)) of_level.there ∙ ap (option_map extent_of_place) none)

pub later_array : (file_length : ℕ) (w : WalkState) (k : KeptArrays) (r : Rectangle) (l : Level) (p : Place) (o : Option Span) → IsLevelOf w r.level l → array_after k r.level l ≡ Some p
    → MatchOption o (file_length < p.first + p.len) (λ span. (extent_of_span span ≡ extent_of_place p) × (p.first + p.len ≤ file_length))
    → ComesLater file_length w k (Reads r) 0 o
later_array file_length w k r l p o of_level is placed_at =
    placed file_length w k (Reads r) 1 (upcoming_by w k (Reads r) 0) p o (ap (λ o. o >>= λ l. option_map extent_of_place (array_after k r.level l)) of_level.there ∙ ap (option_map extent_of_place) is) come placed_at
  where
    come : (f : List ℕ) (q : Query) → IsBase f file_length w k → StateAgrees f q k (Reads r) → slice_get (come_by f w k q (Reads r)) (0 + 1) ≡ Some (extent_of_place p)
    come f q base here =
        let after = after_is k r.level l p is in
        let split = needs_split f q r l here.0 here.1 (of_level.layout f base.walked) in
        get_of_drop (needs_of_query f q) (arrays_held k r.level) 1
        ∙ ap (λ n. slice_get (needs_of_query f q) (n + 1)) after.0
        ∙ ap (λ xs. slice_get xs 1) split ∙ ap (λ x. Some (extent_of_place x)) (sym after.1)

pub some_later : (k : KeptArrays) (n : ℕ) (l : Level) (p : Place) → array_after k n l ≡ Some p → 0 < p.len
some_later k n l p is =
    let some = (array_some l).1 in
    let len = ap (λ (y : Place). y.len) (after_is k n l p is).1 in
    omega (arith, some, len)

-- ---- what is wanted next

-- the directories
pub next_directories : (file_length : ℕ) (w : WalkState) (k : KeptArrays) (o : Option Span) → walk.Wants w file_length o → ((f : List ℕ) → walk.WalkAgrees w f → slice_get (walk.to_come w f) 0 ≡ walk.wanted w)
    → ComesNext file_length w k Directories o
next_directories file_length w k None ended first = none_placed file_length w k Directories 0 (walk.wanted w) ended
next_directories file_length w k (Some span) wants first =
    (wants.0, wants.1, λ f q base here. first_of_directories file_length w k (extent_of_span span) wants.0 first f q base)

pub past_directories : (file_length : ℕ) (w : WalkState) (k : KeptArrays) → IsSomeAnd (walk.wanted w) (λ r. file_length < r.first + r.len) → ComesNext file_length w k Directories None
past_directories file_length w k past = at (walk.wanted w) past where
  at : (o : Option Extent) → IsSomeAnd o (λ r. file_length < r.first + r.len) → IfSome o (λ r. file_length < r.first + r.len)
  at None bad = tt
  at (Some r) past = past

-- an array
pub no_next_array : (file_length : ℕ) (w : WalkState) (k : KeptArrays) (r : Rectangle) (l : Level) (a : Arrays) → IsLevelOf w r.level l → k ≡ Both r.level a → ComesNext file_length w k (Reads r) None
no_next_array file_length w k r l a of_level both =
    none_placed file_length w k (Reads r) 0 (wanted_by w k (Reads r))
    (ap (λ o. o >>= λ l. option_map extent_of_place (next_array k r.level l)) of_level.there ∙ ap (λ k. option_map extent_of_place (next_array k r.level l)) both ∙ same)
  where
    same : option_map extent_of_place (next_array (Both r.level a) r.level l) ≡ None
    same = elim (eqb_tells r.level r.level) [
      | inl e ↦ ap (λ t. option_map extent_of_place (if t then None else Some l.offsets)) e.0
      | inr e ↦ absurd (e.1 refl)
    ]

pub next_array_comes : (file_length : ℕ) (w : WalkState) (k : KeptArrays) (r : Rectangle) (l : Level) (p : Place) (o : Option Span) → IsLevelOf w r.level l → next_array k r.level l ≡ Some p
    → MatchOption o (file_length < p.first + p.len) (λ span. (extent_of_span span ≡ extent_of_place p) × (p.first + p.len ≤ file_length))
    → ComesNext file_length w k (Reads r) o
next_array_comes file_length w k r l p o of_level is placed_at =
    placed file_length w k (Reads r) 0 (wanted_by w k (Reads r)) p o (ap (λ o. o >>= λ l. option_map extent_of_place (next_array k r.level l)) of_level.there ∙ ap (option_map extent_of_place) is)
    (λ f q base here. first_array file_length w k r l p of_level is f q base here) placed_at

-- a group
pub next_group : (file_length : ℕ) (w : WalkState) (k : KeptArrays) (m : WindowBuilder) (o : Option Span) → HasBoth k (λ a. IsPlan file_length a m)
    → MatchOption o (m.given ≡ length m.groups) (λ span. IsSomeAnd (slice_get m.groups m.given) (λ g. g.span ≡ span))
    → ComesNext file_length w k (Tiles m) o
next_group file_length w k m None both end =
    none_placed file_length w k (Tiles m) 0 (wanted_by w k (Tiles m)) (ap (option_map (λ (g : Group). extent_of_span g.span)) (slice_get_past m.groups m.given (omega (arith, end))))
next_group file_length w k m (Some span) both is =
    let wants : IsWantedBy file_length w k (Tiles m) (extent_of_span span) =
    some_both k (λ a. IsPlan file_length a m) (IsWantedBy file_length w k (Tiles m) (extent_of_span span)) both (λ a plan. tiles_wanted file_length w k a m span plan is) in
    let up = span.ascending in
    (wants.is, omega (arith, up, wants.fair.inside), wants.first)

-- a geo field
pub next_field : (file_length : ℕ) (w : WalkState) (k : KeptArrays) (x : GeoFields) (p : Place) (o : Option Span) → slice_get (present_in x.places) x.given ≡ Some p
    → MatchOption o (file_length < p.first + p.len) (λ span. (extent_of_span span ≡ extent_of_place p) × (p.first + p.len ≤ file_length))
    → ComesNext file_length w k (Geo x) o
next_field file_length w k x p o is placed_at =
    placed file_length w k (Geo x) 0 (wanted_by w k (Geo x)) p o (ap (option_map extent_of_place) is) (λ f q base here. first_field file_length w k x p is f q here) placed_at

-- ---- how many are known

present_few : (os : List (Option Place)) → length (filter_map (λ o. o) os) ≤ length os
present_few [] = omega arith
present_few (None ∷ os) = (let few = present_few os in omega (arith, few))
present_few (Some p ∷ os) = (let few = present_few os in omega (arith, few))

-- 65,536 ranges after the next one at most
upcoming_few : (file_length : ℕ) (w : WalkState) (k : KeptArrays) (state : State) (i : ℕ) → IsState file_length w k state → 65536 ≤ i → upcoming_by w k state i ≡ None
upcoming_few file_length w k Directories i is far = refl
upcoming_few file_length w k (Reads r) i is far = elim (eqb_tells i 0) [
  | inl e ↦ absurd (omega (arith, e.1, far))
  | inr e ↦ ap (λ t. if t then (slice_get (levels_of w) r.level >>= λ l. option_map extent_of_place (array_after k r.level l)) else None) e.0
]
upcoming_few file_length w k (Tiles m) i is far =
    ap (option_map (λ (g : Group). extent_of_span g.span)) (some_both k (λ a. IsPlan file_length a m) (slice_get m.groups (m.given + 1 + i) ≡ None) is.1 (λ a plan.
    let few = groups_few file_length a m plan in
    slice_get_past m.groups (m.given + 1 + i) (omega (arith, few, far))))
upcoming_few file_length w k (Geo x) i is far =
    let few = present_few (six x.places) in
    ap (option_map extent_of_place) (slice_get_past (present_in x.places) (x.given + 1 + i) (omega (arith, few, far)))
upcoming_few file_length w k (Answered o) i is far = refl

pub known_few : (r : ReaderState) → IsReader r.file_length r.walk r.kept r.pending → (i : ℕ) → 65536 < i → known_at r i ≡ None
unfolding upcoming
known_few r is zero far = absurd (omega (arith, far))
known_few r is (suc i) far = at r.pending refl is.state
  where
    at : (o : Option PendingQuery) → r.pending ≡ o → IfSome o (λ a. IsState r.file_length r.walk r.kept a.state) → (o >>= λ a. upcoming_by r.walk r.kept a.state i) ≡ None
    at None same tells = refl
    at (Some a) same tells = upcoming_few r.file_length r.walk r.kept a.state i tells (omega (arith, far))
