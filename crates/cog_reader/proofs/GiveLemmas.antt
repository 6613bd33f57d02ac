-- A range that is given.
use Rattle.std.proofs.Common.{◌≡◌, ℕ, suc, ◌+◌, ◌<◌, ◌≤◌, ◌++◌, ◌∷◌, inl, inr, Bool, true, false, if◌then◌else◌, List, [], length, take, drop, Option, Some, None, refl, sym, subst, ap, ◌∙◌, arith}
use Rattle.std.specs.Prelude.{◌⊎◌, ◌==◌, slice_get, IfSome, IsSomeAnd}
use Rattle.std.specs.Option.{option_map, option_map_or}
use Rattle.std.proofs.lemmas.List.{drop_more, drop-drop, take-append-drop}
use Rattle.std.proofs.lemmas.Option.{none-some, get_or_from_slice_get, slice_get_within, slice_get-map}
use Rattle.tiff_dir.specs.declared.fault.FileFault.{FileFault}
use Rattle.tiff_dir.specs.declared.level.Level.{Level}
use Rattle.tiff_dir.specs.declared.level.Place.{Place}
use Rattle.tiff_dir.specs.declared.order.Order.{Order}
use Rattle.tiff_dir.specs.declared.query.Query.{Query}
use Rattle.tiff_dir.specs.Described.{layout_of}
use Rattle.tiff_dir.specs.Faulty.{IsFaultOfWindow}
use Rattle.tiff_dir.specs.File.{order_of}
use Rattle.tiff_dir.specs.Geo.{geo_ranges}
use Rattle.tiff_dir.specs.WalkState.{WalkState}
use Rattle.tiff_dir.specs.Level.{level_layout}
use Rattle.extents.specs.Extent.{Extent, bytes_in}
use Rattle.tiff_dir.specs.Needs.{extent_of_place, IsEndOf}
use Rattle.tiff_dir.specs.Query as queries
use Rattle.tiff_dir.specs.Query.{needs_of_query, rectangle}
use Rattle.tiff_dir.specs.Walk as walk
use Rattle.extents.specs.Extent.{extent_of_span}
use Rattle.tiff_dir.specs.Walk.{levels_of, HasEnded, IsArrayOf}
use Rattle.tile_plan.specs.declared.asked.Rectangle.{Rectangle}
use Rattle.tile_plan.specs.declared.plan.Group.{Group}
use Rattle.tile_plan.specs.Levels.{rectangle_of, IsSmall}
use Rattle.tile_plan.specs.declared.arrays.Arrays.{Arrays}
use Rattle.cog_reader.specs.declared.fields.GeoFields.{GeoFields}
use Rattle.cog_reader.specs.declared.kept_arrays.KeptArrays.{KeptArrays}
use Rattle.cog_reader.specs.declared.kept_arrays.KeptArrays.TheVariants as kept
use Rattle.tile_plan.specs.declared.window_builder.WindowBuilder.{WindowBuilder}
use Rattle.cog_reader.specs.declared.outcome.Outcome.TheVariants.{Fault}
use Rattle.cog_reader.specs.declared.state.State.{State}
use Rattle.cog_reader.specs.declared.state.State.TheVariants.{Directories, Arrays as Reads, Tiles, GeoFields as Geo, Answered}
use Rattle.cog_reader.specs.GeoFields.{present_in, IsReadOf}
use Rattle.cog_reader.specs.KeptArrays.{arrays_held, next_array, KeptAgrees, IsKeptOf}
use Rattle.tile_plan.specs.WindowBuilder.{IsWantedGroup, IsPlan, IsUnderway}
use Rattle.cog_reader.specs.Reader.{own_given, steps_by, unread_by, wanted_by, StateAgrees}
use Rattle.cog_reader.specs.Give.{Gives, AcceptsDirectoryRange, Snapshot, AcceptsRange, AcceptsDirectories, Advances, TellsFault}
use Rattle.tile_plan.specs.TileCache.{KeptTiles, AreTilesOf}
use Rattle.cog_reader.proofs.FieldLemmas.{geo_ranges_are}
use Rattle.cog_reader.proofs.KeptLemmas.{some_at, from_some}
use Rattle.cog_reader.proofs.StepLemmas.{both_at, directory_fault, has_both, needs_split, window_fault, IsLevelOf}

abbrev pub at_state : WalkState → KeptArrays → KeptTiles → State → Snapshot
at_state w k ts t = record { walk = w; kept = k; tiles = ts; state = t }

pub some_more : {X : Type 0} (o : Option X) (P Q : X → Type 0) → IsSomeAnd o P → ((x : X) → P x → Q x) → IsSomeAnd o Q
some_more None P Q h more = h
some_more (Some x) P Q h more = more x h

-- what is wanted next, of a list of which it is the next
next_of : (rs : List Extent) (i : ℕ) (r : Extent) → slice_get rs i ≡ Some r → drop i rs ≡ r ∷ drop (i + 1) rs
next_of rs i r is = drop_more rs i r (slice_get_within rs i r is) ∙ ap (λ x. x ∷ drop (i + 1) rs) (get_or_from_slice_get rs i r r is)

-- ---- what stays of what is held

pub same_end : (rs : List Extent) → IsEndOf rs rs
same_end rs = record { front = []; joined = refl }

-- one range less, before others
one_less : (o : Option Extent) (old new rest : List Extent) → IsSomeAnd o (λ r. old ≡ r ∷ new) → IsEndOf (new ++ rest) (old ++ rest)
one_less None old new rest bad = absurd bad
one_less (Some r) old new rest is = record { front = r ∷ []; joined = ap (λ l. l ++ rest) is }

-- one array more of a level is held
array_held : (come needs : List Extent) (k v : KeptArrays) (n : ℕ) (o : Option queries.Rectangle) → come ≡ [] → arrays_held v n ≡ arrays_held k n + 1 → IfSome o (λ s. n ≡ s.level)
    → IsEndOf (come ++ drop (option_map_or (λ (s : queries.Rectangle). arrays_held v s.level) o 0) needs) (come ++ drop (option_map_or (λ (s : queries.Rectangle). arrays_held k s.level) o 0) needs)
array_held come needs k v n None over more one = same_end (come ++ drop 0 needs)
array_held come needs k v n (Some s) over more one =
    let i = arrays_held k s.level in
    let rest = drop i needs in
    let next : arrays_held v s.level ≡ i + 1 = subst (λ m. arrays_held v m ≡ arrays_held k m + 1) one more in
    let last : drop 1 rest ≡ drop (arrays_held v s.level) needs = drop-drop 1 i needs ∙ ap (λ j. drop j needs) (sym next) in record {
      front = take 1 rest;
      joined = ap (λ xs. xs ++ rest) over ∙ sym (take-append-drop 1 rest) ∙ ap (λ xs. take 1 rest ++ xs) (last ∙ ap (λ xs. xs ++ drop (arrays_held v s.level) needs) (sym over));
    }

-- ---- directories

nothing_kept : (w : WalkState) (k : KeptArrays) (P : Extent → Type 0) → IsKeptOf w k → IsSomeAnd (walk.wanted w) P → (v : WalkState) → IsKeptOf v k
nothing_kept w kept.Nothing P keeps some v = tt
nothing_kept w (kept.Offsets n o) P keeps some v = absurd (subst (λ x. IsSomeAnd x P) keeps.0 some)
nothing_kept w (kept.Both n a) P keeps some v = absurd (subst (λ x. IsSomeAnd x P) keeps.0 some)

pub accepts_directories : (file_length : ℕ) (bytes : List ℕ) (w v : WalkState) (k : KeptArrays) (ts : KeptTiles) → IsKeptOf w k → IsSomeAnd (walk.wanted w) (λ r. length bytes ≡ r.len) → AcceptsDirectoryRange bytes w v → Advances file_length bytes (at_state w k ts Directories) (at_state v k ts Directories)
accepts_directories file_length bytes w v k ts keeps some on = record {
  kept = nothing_kept w k (λ r. length bytes ≡ r.len) keeps some v;
  state = tt;
  same = λ f q base here next of. (record { size = base.size; walked = on.agrees f base.walked next; kept = base.kept }, tt, of);
  come = λ f q base here. some_more (walk.wanted w) (λ r. walk.to_come w f ≡ r ∷ walk.to_come v f) _ (on.come f base.walked) (λ r e. ap (λ l. l ++ drop (own_given f q k Directories) (needs_of_query f q)) e);
  held = λ f q base here p one. one_less (walk.wanted w) (walk.to_come w f) (walk.to_come v f) (drop (own_given f p k Directories) (needs_of_query f p)) (on.come f base.walked);
  most = refl;
  steps = (let given = on.given in let few = on.few in omega (arith, given, few));
}

-- ---- an array

pub which_next : (k : KeptArrays) (n : ℕ) (l : Level) (p : Place) → next_array k n l ≡ Some p → ((arrays_held k n ≡ 0) × (p ≡ l.offsets)) ⊎ ((arrays_held k n ≡ 1) × (p ≡ l.counts))
which_next kept.Nothing n l p is = inl (refl, cc)
which_next (kept.Offsets m o) n l p is = at (m == n) is where
  at : (b : Bool) → (if b then Some l.counts else Some l.offsets) ≡ Some p → ((◌≡◌ {A = ℕ} (if b then 1 else 0) 0) × (p ≡ l.offsets)) ⊎ ((◌≡◌ {A = ℕ} (if b then 1 else 0) 1) × (p ≡ l.counts))
  at true is = inr (refl, cc)
  at false is = inl (refl, cc)
which_next (kept.Both m a) n l p is = at (m == n) is where
  at : (b : Bool) → (if b then None else Some l.offsets) ≡ Some p → ((◌≡◌ {A = ℕ} (if b then 2 else 0) 0) × (p ≡ l.offsets)) ⊎ ((◌≡◌ {A = ℕ} (if b then 2 else 0) 1) × (p ≡ l.counts))
  at true is = absurd (none-some p is)
  at false is = inl (refl, cc)

-- the place that is wanted
pub wanted_place : (w : WalkState) (k : KeptArrays) (r : Rectangle) (l : Level) (P : Extent → Type 0) → slice_get (levels_of w) r.level ≡ Some l → IsSomeAnd (wanted_by w k (Reads r)) P
    → (p : Place) × (next_array k r.level l ≡ Some p) × (wanted_by w k (Reads r) ≡ Some (extent_of_place p)) × P (extent_of_place p)
wanted_place w k r l P there some = at (next_array k r.level l) refl (rw there at some) where
  at : (o : Option Place) → next_array k r.level l ≡ o → IsSomeAnd (option_map extent_of_place o) P → (p : Place) × (next_array k r.level l ≡ Some p) × (wanted_by w k (Reads r) ≡ Some (extent_of_place p)) × P (extent_of_place p)
  at None is bad = absurd bad
  at (Some p) is good = (p, is, rw (there, is) refl, good)

pub accepts_array : (file_length : ℕ) (bytes : List ℕ) (w : WalkState) (k : KeptArrays) (v : KeptArrays) (ts : KeptTiles) (r : Rectangle) (l : Level) (o : Order) → HasEnded w → IsSomeAnd (slice_get (levels_of w) r.level) (λ m. IsSmall m r) → IsLevelOf w r.level l
    → IsSomeAnd (wanted_by w k (Reads r)) (λ x. length bytes ≡ x.len) → IsKeptOf w v → arrays_held v r.level ≡ arrays_held k r.level + 1 → ((f : List ℕ) → walk.WalkAgrees w f → order_of f ≡ Some o)
    → ((f : List ℕ) → order_of f ≡ Some o → level_layout f r.level ≡ Some (layout_of l) → KeptAgrees f k → IsSomeAnd (next_array k r.level l) (λ p. IsArrayOf f p bytes) → KeptAgrees f v)
    → ((f : List ℕ) → walk.WalkAgrees w f → walk.to_come w f ≡ []) → Advances file_length bytes (at_state w k ts (Reads r)) (at_state w v ts (Reads r))
accepts_array file_length bytes w k v ts r l o ended small of_level some keeps more order same over =
    let (p, next, wants, len) = wanted_place w k r l (λ x. length bytes ≡ x.len) of_level.there some in record {
      kept = keeps;
      state = (ended, small);
      same = λ f q base here given of. (
        record {
          size = base.size;
          walked = base.walked;
          kept = same f (order f base.walked) (of_level.layout f base.walked) base.kept
              (from_some (next_array k r.level l) p (λ x. IsArrayOf f x bytes) next (some_at (wanted_by w k (Reads r)) (extent_of_place p) (λ x. bytes ≡ bytes_in f x) wants given));
        },
        here,
        of,
      );
      come = λ f q base here. from_some (wanted_by w k (Reads r)) (extent_of_place p) _ wants (at f q p next here (of_level.layout f base.walked));
      held = λ f q base here p one.
          array_held (walk.to_come w f) (needs_of_query f p) k v r.level (rectangle f p) (over f base.walked) more
          (subst (λ o. IfSome o (λ a. IfSome (rectangle f p) (λ b. a.level ≡ b.level))) here.0 one);
      most = refl;
      steps = elim (which_next k r.level l p next) [ inl h ↦ (let e = h.0 in omega (arith, e, more)) | inr h ↦ (let e = h.0 in omega (arith, e, more)) ];
    } where
      at : (f : List ℕ) (q : Query) (p : Place) → next_array k r.level l ≡ Some p → StateAgrees f q k (Reads r) → level_layout f r.level ≡ Some (layout_of l)
          → drop (arrays_held k r.level) (needs_of_query f q) ≡ extent_of_place p ∷ drop (arrays_held v r.level) (needs_of_query f q)
      at f q p next here layout =
          let split = needs_split f q r l here.0 here.1 layout in
          elim (which_next k r.level l p next) [
            | inl h ↦ next_of (needs_of_query f q) (arrays_held k r.level) (extent_of_place p) (ap (λ n. slice_get (needs_of_query f q) n) h.0 ∙ ap (λ xs. slice_get xs 0) split ∙ ap (λ x. Some (extent_of_place x)) (sym h.1))
                ∙ ap (λ n. extent_of_place p ∷ drop n (needs_of_query f q)) (sym more)
            | inr h ↦ next_of (needs_of_query f q) (arrays_held k r.level) (extent_of_place p) (ap (λ n. slice_get (needs_of_query f q) n) h.0 ∙ ap (λ xs. slice_get xs 1) split ∙ ap (λ x. Some (extent_of_place x)) (sym h.1))
                ∙ ap (λ n. extent_of_place p ∷ drop n (needs_of_query f q)) (sym more)
          ]

-- ---- a group

-- the group that is wanted
wanted_group : (w : WalkState) (k : KeptArrays) (m : WindowBuilder) (P : Extent → Type 0) → IsSomeAnd (wanted_by w k (Tiles m)) P
    → (g : Group) × (slice_get m.groups m.given ≡ Some g) × (wanted_by w k (Tiles m) ≡ Some (extent_of_span g.span)) × P (extent_of_span g.span)
wanted_group w k m P some = at (slice_get m.groups m.given) refl some where
  at : (o : Option Group) → slice_get m.groups m.given ≡ o → IsSomeAnd (option_map (λ (g : Group). extent_of_span g.span) o) P
      → (g : Group) × (slice_get m.groups m.given ≡ Some g) × (wanted_by w k (Tiles m) ≡ Some (extent_of_span g.span)) × P (extent_of_span g.span)
  at None is bad = absurd bad
  at (Some g) is good = (g, is, ap (option_map (λ (g : Group). extent_of_span g.span)) is, good)

-- and one of so many bytes
the_group : (m : WindowBuilder) {len : ℕ} → IsSomeAnd (slice_get m.groups m.given) (λ g. len ≡ (extent_of_span g.span).len) → (g : Group) × (slice_get m.groups m.given ≡ Some g) × (len ≡ (extent_of_span g.span).len)
the_group m {len} some = at (slice_get m.groups m.given) refl some where
  at : (o : Option Group) → slice_get m.groups m.given ≡ o → IsSomeAnd o (λ g. len ≡ (extent_of_span g.span).len) → (g : Group) × (slice_get m.groups m.given ≡ Some g) × (len ≡ (extent_of_span g.span).len)
  at None is bad = absurd bad
  at (Some g) is good = (g, is, good)

-- a group is among what the query needs
pub group_at : (f : List ℕ) (q : Query) (a : Arrays) (m : WindowBuilder) (g : Group) (n : ℕ) → IsUnderway f q a m → slice_get m.groups n ≡ Some g → slice_get (needs_of_query f q) (2 + n) ≡ Some (extent_of_span g.span)
group_at f q a m g n u is =
    let r = m.picture.rectangle in
    let split = needs_split f q r a.level u.planned.rectangle_is u.planned.good u.planned.layout_is in
    ap (λ xs. slice_get xs (2 + n)) split ∙ shift n _ _ _ ∙ ap (λ rs. slice_get rs n) (sym u.needed.ranges)
    ∙ slice_get-map (λ (h : Group). extent_of_span h.span) m.groups n ∙ ap (option_map (λ (h : Group). extent_of_span h.span)) is where
      shift : (i : ℕ) (x y : Extent) (rest : List Extent) → slice_get (x ∷ y ∷ rest) (2 + i) ≡ slice_get rest i
      shift i x y rest = (let e : 2 + i ≡ suc (suc i) = omega arith in rw e refl)

-- and so is the one that is wanted
pub group_needed : (f : List ℕ) (q : Query) (a : Arrays) (m : WindowBuilder) (g : Group) → IsUnderway f q a m → slice_get m.groups m.given ≡ Some g → slice_get (needs_of_query f q) (2 + m.given) ≡ Some (extent_of_span g.span)
group_needed f q a m g u is = group_at f q a m g m.given u is

next_group : (m : WindowBuilder) (g : Group) (bytes : List ℕ) (P : Extent → Type 0) → slice_get m.groups m.given ≡ Some g → P (extent_of_span g.span) → IsSomeAnd (slice_get m.groups m.given) (λ g. P (extent_of_span g.span))
next_group m g bytes P is good = from_some (slice_get m.groups m.given) g (λ g. P (extent_of_span g.span)) is good

pub accepts_group : (file_length : ℕ) (bytes : List ℕ) (w : WalkState) (k : KeptArrays) (ts us : KeptTiles) (n : ℕ) (a : Arrays) (m v : WindowBuilder) → HasEnded w → IsKeptOf w k → k ≡ kept.Both n a → IsPlan file_length a v → v.groups ≡ m.groups → v.given ≡ m.given + 1
    → IsSomeAnd (slice_get m.groups m.given) (λ g. length bytes ≡ (extent_of_span g.span).len)
    → us.most ≡ ts.most → ((f : List ℕ) (q : Query) → IsUnderway f q a m → IsWantedGroup f m bytes → AreTilesOf f ts → IsUnderway f q a v × AreTilesOf f us) → Advances file_length bytes (at_state w k ts (Tiles m)) (at_state w k us (Tiles v))
accepts_group file_length bytes w k ts us n a m v ended keeps is plan same more some most underway = record {
  kept = keeps;
  state = (ended, has_both k n a (λ b. IsPlan file_length b v) is plan);
  same = λ f q base here next of. (
      let u = both_at k n a (λ b. IsUnderway f q b m) is here.0 in
      let (g, there, wants, given) = wanted_group w k m (λ r. bytes ≡ bytes_in f r) next in
      let more = underway f q u (next_group m g bytes (λ r. bytes ≡ bytes_in f r) there given) of in
      (base, (has_both k n a (λ b. IsUnderway f q b v) is more.0, here.1), more.1)
      );
  come = λ f q base here. (
      let u = both_at k n a (λ b. IsUnderway f q b m) is here.0 in
      let (g, there, len) = the_group m some in
      from_some (wanted_by w k (Tiles m)) (extent_of_span g.span) _ (ap (option_map (λ (g : Group). extent_of_span g.span)) there)
      (next_of (needs_of_query f q) (2 + m.given) (extent_of_span g.span) (group_needed f q a m g u there)
      ∙ (let e : 2 + m.given + 1 ≡ 2 + v.given = omega (arith, more) in ap (λ i. extent_of_span g.span ∷ drop i (needs_of_query f q)) e))
      );
  held = λ f q base here p one. same_end (unread_by f w k p);
  most = most;
  steps = (
      let (g, there, len) = the_group m some in
      let less = slice_get_within m.groups m.given g there in
      let size = ap length same in
      omega (arith, less, more, size)
      );
}

pub tells_group : (file_length : ℕ) (bytes : List ℕ) (w : WalkState) (k : KeptArrays) (ts us : KeptTiles) (n : ℕ) (a : Arrays) (m v : WindowBuilder) (fault : FileFault) → k ≡ kept.Both n a
    → ((f : List ℕ) (q : Query) → IsUnderway f q a m → IsWantedGroup f m bytes → IsFaultOfWindow f q fault)
    → ((f : List ℕ) (q : Query) → IsUnderway f q a m → IsWantedGroup f m bytes → AreTilesOf f ts → AreTilesOf f us) → us.most ≡ ts.most → TellsFault file_length bytes (at_state w k ts (Tiles m)) (at_state w k us (Tiles v)) fault
tells_group file_length bytes w k ts us n a m v fault is damaged tiles most = record {
  walk = refl;
  kept = refl;
  stands = λ f q base here next. (
      let u = both_at k n a (λ b. IsUnderway f q b m) is here.0 in
      let (g, there, wants, given) = wanted_group w k m (λ r. bytes ≡ bytes_in f r) next in
      window_fault f q (rectangle_of m.picture.rectangle) fault u.planned.rectangle_is (damaged f q u (next_group m g bytes (λ r. bytes ≡ bytes_in f r) there given))
      );
  tiles = λ f q base here next. (
      let (g, there, wants, given) = wanted_group w k m (λ r. bytes ≡ bytes_in f r) next in
      tiles f q (both_at k n a (λ b. IsUnderway f q b m) is here.0) (next_group m g bytes (λ r. bytes ≡ bytes_in f r) there given)
      );
  most = most;
}

pub wanted_len : (w : WalkState) (k : KeptArrays) (m : WindowBuilder) (len : ℕ) → IsSomeAnd (wanted_by w k (Tiles m)) (λ r. len ≡ r.len) → IsSomeAnd (slice_get m.groups m.given) (λ g. len ≡ (extent_of_span g.span).len)
wanted_len w k m len some = (let (g, there, wants, good) = wanted_group w k m (λ r. len ≡ r.len) some in from_some (slice_get m.groups m.given) g (λ g. len ≡ (extent_of_span g.span).len) there good)

pub len_wanted : (w : WalkState) (k : KeptArrays) (m : WindowBuilder) (len : ℕ) → IsSomeAnd (slice_get m.groups m.given) (λ g. len ≡ (extent_of_span g.span).len) → IsSomeAnd (wanted_by w k (Tiles m)) (λ r. len ≡ r.len)
len_wanted w k m len some =
    let (g, there, is) = the_group m some in
    from_some (wanted_by w k (Tiles m)) (extent_of_span g.span) (λ r. len ≡ r.len) (ap (option_map (λ (g : Group). extent_of_span g.span)) there) is

-- ---- a geo field

wanted_field : (w : WalkState) (k : KeptArrays) (x : GeoFields) (P : Extent → Type 0) → IsSomeAnd (wanted_by w k (Geo x)) P
    → (p : Place) × (slice_get (present_in x.places) x.given ≡ Some p) × (wanted_by w k (Geo x) ≡ Some (extent_of_place p)) × P (extent_of_place p)
wanted_field w k x P some = at (slice_get (present_in x.places) x.given) refl some where
  at : (o : Option Place) → slice_get (present_in x.places) x.given ≡ o → IsSomeAnd (option_map extent_of_place o) P
      → (p : Place) × (slice_get (present_in x.places) x.given ≡ Some p) × (wanted_by w k (Geo x) ≡ Some (extent_of_place p)) × P (extent_of_place p)
  at None is bad = absurd bad
  at (Some p) is good = (p, is, ap (option_map extent_of_place) is, good)

pub field_len : (w : WalkState) (k : KeptArrays) (x : GeoFields) (len : ℕ) → IsSomeAnd (wanted_by w k (Geo x)) (λ r. len ≡ r.len) → IsSomeAnd (slice_get (present_in x.places) x.given) (λ p. len ≡ p.len)
field_len w k x len some = (let (p, there, wants, good) = wanted_field w k x (λ r. len ≡ r.len) some in from_some (slice_get (present_in x.places) x.given) p (λ p. len ≡ p.len) there good)

pub accepts_field : (file_length : ℕ) (bytes : List ℕ) (w : WalkState) (k : KeptArrays) (ts : KeptTiles) (x v : GeoFields) → HasEnded w → IsKeptOf w k → IsSomeAnd (wanted_by w k (Geo x)) (λ r. length bytes ≡ r.len) → v.places ≡ x.places → v.given ≡ x.given + 1
    → ((f : List ℕ) → IsReadOf f x → IsSomeAnd (slice_get (present_in x.places) x.given) (λ p. IsArrayOf f p bytes) → IsReadOf f v) → Advances file_length bytes (at_state w k ts (Geo x)) (at_state w k ts (Geo v))
unfolding needs_of_query
accepts_field file_length bytes w k ts x v ended keeps some places more read = record {
  kept = keeps;
  state = ended;
  same = λ f q base here next of. (
    base,
    (
      here.0,
      (
          let (p, there, wants, given) = wanted_field w k x (λ r. bytes ≡ bytes_in f r) next in
          read f here.1 (from_some (slice_get (present_in x.places) x.given) p (λ p. IsArrayOf f p bytes) there given)),
    ),
    of,
  );
  come = λ f q base here. (
      let (p, there, wants, len) = wanted_field w k x (λ r. length bytes ≡ r.len) some in
      let needs : needs_of_query f q ≡ geo_ranges f = ap (needs_of_query f) here.0 in
      let is : slice_get (needs_of_query f q) x.given ≡ Some (extent_of_place p) =
      ap (λ l. slice_get l x.given) (needs ∙ geo_ranges_are f x.places here.1.places) ∙ slice_get-map extent_of_place (present_in x.places) x.given ∙ ap (option_map extent_of_place) there in
      from_some (wanted_by w k (Geo x)) (extent_of_place p) _ wants (next_of (needs_of_query f q) x.given (extent_of_place p) is ∙ ap (λ i. extent_of_place p ∷ drop i (needs_of_query f q)) (sym more))
      );
  held = λ f q base here p one. same_end (unread_by f w k p);
  most = refl;
  steps = (
      let (p, there, wants, len) = wanted_field w k x (λ r. length bytes ≡ r.len) some in
      let less = slice_get_within (present_in x.places) x.given p there in
      let size = ap (λ g. length (present_in g)) places in
      omega (arith, less, more, size)
      );
}

-- ---- directories, with or without a fault

pub directories_told : (file_length : ℕ) (bytes : List ℕ) (w v : WalkState) (k : KeptArrays) (ts : KeptTiles) (o : Option FileFault) → IsKeptOf w k → IsSomeAnd (walk.wanted w) (λ r. length bytes ≡ r.len) → AcceptsDirectories bytes w v o → AcceptsRange file_length bytes (at_state w k ts Directories) (at_state v k ts Directories) o
directories_told file_length bytes w v k ts None keeps some on = accepts_directories file_length bytes w v k ts keeps some on
directories_told file_length bytes w v k ts (Some fault) keeps some told = record {
  walk = told.0;
  kept = refl;
  stands = λ f q base here next. directory_fault f q fault (told.1 f base.walked next);
  tiles = λ f q base here next of. of;
  most = refl;
}

-- ---- a fault answers the query

few_held : (k : KeptArrays) (n : ℕ) → arrays_held k n ≤ 2
few_held kept.Nothing n = omega arith
few_held (kept.Offsets m o) n = at (m == n) where
  at : (b : Bool) → (if b then 1 else 0) ≤ 2
  at true = omega arith
  at false = omega arith
few_held (kept.Both m a) n = at (m == n) where
  at : (b : Bool) → (if b then 2 else 0) ≤ 2
  at true = omega arith
  at false = omega arith

some_steps : (w : WalkState) (k : KeptArrays) (t : State) (P : Extent → Type 0) → IsSomeAnd (wanted_by w k t) P → 0 < steps_by w k t
some_steps w k Directories P some = omega arith
some_steps w k (Reads r) P some = (let few = few_held k r.level in omega (arith, few))
some_steps w k (Tiles m) P some = (let (g, there, wants, good) = wanted_group w k m P some in let less = slice_get_within m.groups m.given g there in omega (arith, less))
some_steps w k (Geo x) P some = (let (p, there, wants, good) = wanted_field w k x P some in let less = slice_get_within (present_in x.places) x.given p there in omega (arith, less))
some_steps w k (Answered o) P some = absurd some

pub gives_on : (file_length : ℕ) (bytes : List ℕ) (q : Query) (old new : Snapshot) → Advances file_length bytes old new → Gives file_length bytes q old new
gives_on file_length bytes q old new on = record {
  kept = on.kept;
  state = on.state;
  same = λ f base here next of. on.same f q base here next of;
  come = λ f base here. inr (on.come f q base here);
  held = λ f base here. on.held f q base here;
  most = on.most;
  steps = on.steps;
}

pub gives_fault : (file_length : ℕ) (bytes : List ℕ) (q : Query) (old new : Snapshot) (fault : FileFault) → IsKeptOf old.walk old.kept → IsSomeAnd (wanted_by old.walk old.kept old.state) (λ r. length bytes ≡ r.len)
    → TellsFault file_length bytes old new fault → Gives file_length bytes q old (at_state new.walk new.kept new.tiles (Answered (Fault fault)))
gives_fault file_length bytes q old new fault keeps some told = record {
  kept = subst (λ x. IsKeptOf x new.kept) (sym told.walk) (subst (IsKeptOf old.walk) (sym told.kept) keeps);
  state = tt;
  same = λ f base here next of. (
    record {
      size = base.size;
      walked = subst (λ x. walk.WalkAgrees x f) (sym told.walk) base.walked;
      kept = subst (KeptAgrees f) (sym told.kept) base.kept;
    },
    told.stands f q base here next,
    told.tiles f q base here next of,
  );
  come = λ f base here. inl (refl, refl);
  held = λ f base here p one.
      let same : unread_by f old.walk old.kept p ≡ unread_by f new.walk new.kept p = ap (λ w. unread_by f w old.kept p) (sym told.walk) ∙ ap (λ k. unread_by f new.walk k p) (sym told.kept) in
      subst (λ rs. IsEndOf (unread_by f new.walk new.kept p) rs) (sym same) (same_end (unread_by f new.walk new.kept p));
  most = told.most;
  steps = some_steps old.walk old.kept old.state (λ r. length bytes ≡ r.len) some;
}
