-- The range that is wanted is the first of those that are still to come.
use Rattle.std.proofs.Common.{◌≡◌, ℕ, zero, suc, ◌+◌, ◌++◌, ◌∷◌, [], inl, inr, List, drop, Option, Some, None, refl, sym, subst, ap, ◌∙◌, arith}
use Rattle.std.specs.Prelude.{slice_get, IsSomeAnd}
use Rattle.std.specs.Option.{option_map}
use Rattle.std.proofs.lemmas.Option.{none-some, slice_get-map}
use Rattle.tiff_dir.specs.declared.level.Level.{Level}
use Rattle.tiff_dir.specs.declared.level.Place.{Place}
use Rattle.tiff_dir.specs.declared.query.Query.{Query}
use Rattle.extents.specs.declared.span.Span.{Span}
use Rattle.tiff_dir.specs.Geo.{geo_ranges}
use Rattle.tiff_dir.specs.WalkState.{WalkState}
use Rattle.extents.specs.Extent.{Extent}
use Rattle.tiff_dir.specs.Needs.{extent_of_place}
use Rattle.tiff_dir.specs.Query.{needs_of_query}
use Rattle.tiff_dir.specs.Walk as walk
use Rattle.extents.specs.Extent.{extent_of_span}
use Rattle.tile_plan.specs.declared.asked.Rectangle.{Rectangle}
use Rattle.tile_plan.specs.declared.plan.Group.{Group}
use Rattle.tile_plan.specs.declared.arrays.Arrays.{Arrays}
use Rattle.cog_reader.specs.declared.fields.GeoFields.{GeoFields}
use Rattle.cog_reader.specs.declared.kept_arrays.KeptArrays.{KeptArrays}
use Rattle.cog_reader.specs.declared.kept_arrays.KeptArrays.TheVariants as kept
use Rattle.tile_plan.specs.declared.window_builder.WindowBuilder.{WindowBuilder}
use Rattle.cog_reader.specs.declared.state.State.TheVariants.{Directories, Arrays as Reads, Tiles, GeoFields as Geo}
use Rattle.cog_reader.specs.GeoFields.{present_in}
use Rattle.cog_reader.specs.KeptArrays.{arrays_held, next_array, HasBoth}
use Rattle.tile_plan.specs.WindowBuilder.{IsPlan, IsUnderway}
use Rattle.cog_reader.specs.Reader.{come_by, own_given, StateAgrees}
use Rattle.cog_reader.specs.ReaderStep.{IsBase, IsFair, IsWantedBy}
use Rattle.cog_reader.proofs.FieldLemmas.{geo_ranges_are}
use Rattle.cog_reader.proofs.GiveLemmas.{group_needed, which_next}
use Rattle.cog_reader.proofs.StepLemmas.{fair_group, needs_split, IsLevelOf}

pub get_of_drop : (xs : List Extent) (n i : ℕ) → slice_get (drop n xs) i ≡ slice_get xs (n + i)
get_of_drop xs zero i = let e : i ≡ 0 + i = omega arith in ap (slice_get xs) e
get_of_drop [] (suc n) i = refl
get_of_drop (x ∷ xs) (suc n) i = let e : suc (n + i) ≡ suc n + i = omega arith in get_of_drop xs n i ∙ ap (slice_get (x ∷ xs)) e

first_of_drop : (xs : List Extent) (n : ℕ) → slice_get (drop n xs) 0 ≡ slice_get xs n
first_of_drop xs n = let e : n + 0 ≡ n = omega arith in get_of_drop xs n 0 ∙ ap (slice_get xs) e

front_first : (xs ys : List Extent) (r : Extent) → slice_get xs 0 ≡ Some r → slice_get (xs ++ ys) 0 ≡ Some r
front_first [] ys r is = absurd (none-some r is)
front_first (x ∷ xs) ys r is = is

pub first_of_directories : (file_length : ℕ) (w : WalkState) (k : KeptArrays) (r : Extent) → walk.wanted w ≡ Some r → ((f : List ℕ) → walk.WalkAgrees w f → slice_get (walk.to_come w f) 0 ≡ walk.wanted w)
    → (f : List ℕ) (q : Query) → IsBase f file_length w k → slice_get (come_by f w k q Directories) 0 ≡ Some r
first_of_directories file_length w k r is first f q base = front_first (walk.to_come w f) (drop (own_given f q k Directories) (needs_of_query f q)) r (first f base.walked ∙ is)

pub first_array : (file_length : ℕ) (w : WalkState) (k : KeptArrays) (r : Rectangle) (l : Level) (p : Place) → IsLevelOf w r.level l → next_array k r.level l ≡ Some p
    → (f : List ℕ) (q : Query) → IsBase f file_length w k → StateAgrees f q k (Reads r) → slice_get (come_by f w k q (Reads r)) 0 ≡ Some (extent_of_place p)
first_array file_length w k r l p of_level next f q base here =
    let split = needs_split f q r l here.0 here.1 (of_level.layout f base.walked) in
    first_of_drop (needs_of_query f q) (arrays_held k r.level) ∙ elim (which_next k r.level l p next) [
      | inl h ↦ ap (λ n. slice_get (needs_of_query f q) n) h.0 ∙ ap (λ xs. slice_get xs 0) split ∙ ap (λ x. Some (extent_of_place x)) (sym h.1)
      | inr h ↦ ap (λ n. slice_get (needs_of_query f q) n) h.0 ∙ ap (λ xs. slice_get xs 1) split ∙ ap (λ x. Some (extent_of_place x)) (sym h.1)
    ]

pub some_both : (k : KeptArrays) (P : Arrays → Type 0) (R : Type 0) → HasBoth k P → ((a : Arrays) → P a → R) → R
some_both kept.Nothing P R bad more = absurd bad
some_both (kept.Offsets n o) P R bad more = absurd bad
some_both (kept.Both n a) P R good more = more a good

pub first_group : (file_length : ℕ) (w : WalkState) (k : KeptArrays) (m : WindowBuilder) (g : Group) → slice_get m.groups m.given ≡ Some g
    → (f : List ℕ) (q : Query) → StateAgrees f q k (Tiles m) → slice_get (come_by f w k q (Tiles m)) 0 ≡ Some (extent_of_span g.span)
first_group file_length w k m g is f q here =
    first_of_drop (needs_of_query f q) (2 + m.given)
    ∙ some_both k (λ a. IsUnderway f q a m) (slice_get (needs_of_query f q) (2 + m.given) ≡ Some (extent_of_span g.span)) here.0 (λ a u. group_needed f q a m g u is)

pub first_field : (file_length : ℕ) (w : WalkState) (k : KeptArrays) (x : GeoFields) (p : Place) → slice_get (present_in x.places) x.given ≡ Some p
    → (f : List ℕ) (q : Query) → StateAgrees f q k (Geo x) → slice_get (come_by f w k q (Geo x)) 0 ≡ Some (extent_of_place p)
unfolding needs_of_query
first_field file_length w k x p is f q here =
    let needs : needs_of_query f q ≡ geo_ranges f = ap (needs_of_query f) here.0 in
    first_of_drop (needs_of_query f q) x.given
    ∙ ap (λ l. slice_get l x.given) (needs ∙ geo_ranges_are f x.places here.1.places) ∙ slice_get-map extent_of_place (present_in x.places) x.given ∙ ap (option_map extent_of_place) is

-- ---- a range that is wanted, and can be given

pub directories_wanted : (file_length : ℕ) (w : WalkState) (k : KeptArrays) (r : Extent) → walk.wanted w ≡ Some r → IsFair file_length r → ((f : List ℕ) → walk.WalkAgrees w f → slice_get (walk.to_come w f) 0 ≡ walk.wanted w)
    → IsWantedBy file_length w k Directories r
directories_wanted file_length w k r is fair first = record { is = is; fair = fair; undone = refl; first = λ f q base here. first_of_directories file_length w k r is first f q base }

pub tiles_wanted : (file_length : ℕ) (w : WalkState) (k : KeptArrays) (a : Arrays) (m : WindowBuilder) (span : Span) → IsPlan file_length a m → IsSomeAnd (slice_get m.groups m.given) (λ g. g.span ≡ span) → IsWantedBy file_length w k (Tiles m) (extent_of_span span)
tiles_wanted file_length w k a m span plan next = at (slice_get m.groups m.given) refl next where
  at : (x : Option Group) → slice_get m.groups m.given ≡ x → IsSomeAnd x (λ g. g.span ≡ span) → IsWantedBy file_length w k (Tiles m) (extent_of_span span)
  at None is bad = absurd bad
  at (Some g) is same = record {
    is = ap (option_map (λ (g : Group). extent_of_span g.span)) is ∙ ap (λ s. Some (extent_of_span s)) same;
    fair = subst (λ s. IsFair file_length (extent_of_span s)) same (fair_group file_length a m g plan is);
    undone = refl;
    first = λ f q base here. first_group file_length w k m g is f q here ∙ ap (λ s. Some (extent_of_span s)) same;
  }

pub array_wanted : (file_length : ℕ) (w : WalkState) (k : KeptArrays) (r : Rectangle) (l : Level) (p : Place) (s : Span) → IsLevelOf w r.level l → next_array k r.level l ≡ Some p → extent_of_span s ≡ extent_of_place p → IsFair file_length (extent_of_place p)
    → IsWantedBy file_length w k (Reads r) (extent_of_span s)
array_wanted file_length w k r l p s of_level next same fair =
    subst (IsWantedBy file_length w k (Reads r)) (sym same) (record {
      is = (let there = of_level.there in rw (there, next) refl);
      fair = fair;
      undone = refl;
      first = λ f q base here. first_array file_length w k r l p of_level next f q base here;
    })

pub field_wanted : (file_length : ℕ) (w : WalkState) (k : KeptArrays) (x : GeoFields) (p : Place) (s : Span) → slice_get (present_in x.places) x.given ≡ Some p → extent_of_span s ≡ extent_of_place p → IsFair file_length (extent_of_place p)
    → IsWantedBy file_length w k (Geo x) (extent_of_span s)
field_wanted file_length w k x p s next same fair =
    subst (IsWantedBy file_length w k (Geo x)) (sym same) (record {
      is = ap (option_map extent_of_place) next;
      fair = fair;
      undone = refl;
      first = λ f q base here. first_field file_length w k x p next f q here;
    })
