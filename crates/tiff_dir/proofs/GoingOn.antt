-- The walk goes on from one stage to the next.
use Rattle.std.proofs.Common.{[], ◌∷◌, ◌++◌, ◌≡◌, ℕ, suc, ◌+◌, ◌*◌, true, false, List, map, Some, None, refl, sym, ap, subst, ◌∙◌}
use Rattle.std.proofs.lemmas.Option.{same_Some}
use Rattle.std.proofs.lemmas.List.{append-nil, map-append}
use Rattle.std.proofs.lemmas.List.Elements.{filter-append}
use Rattle.std.specs.List.{filter, range_with_len}
use Rattle.tiff_dir.specs.declared.order.Order.{Order}
use Rattle.tiff_dir.specs.declared.stage.Stage.{Stage}
use Rattle.tiff_dir.specs.declared.stage.Stage.TheVariants as stages
use Rattle.tiff_dir.specs.declared.stage.WalkStep.{WalkStep}
use Rattle.extents.specs.Extent.{Extent}
use Rattle.tiff_dir.specs.Needs.{outside_ranges}
use Rattle.tiff_dir.specs.Level.{Layout, is_level, layout_at}
use Rattle.tiff_dir.specs.Stage.{header_range, range_of, index_of, still, ranges_from, layouts_below, AgreesAt, Counts, IsAt, StepsOn, EndsDirectory}
use Rattle.tiff_dir.proofs.Chain.{ranges_here, ranges_counted}
use Rattle.tiff_dir.proofs.Ranges.{range_more}

-- a step that ends no level, to the same directory
pub steps_same : (f : List ℕ) (stage next : Stage) (r : Extent) → AgreesAt f next → index_of next ≡ index_of stage → range_of stage ≡ Some r → still f stage ≡ r ∷ still f next → StepsOn f stage (record { stage = next; level = None })
steps_same f stage next r here same wanted come = record {
  here = here;
  levels = rw same (sym (append-nil _));
  come = λ x is. (let e : r ≡ x = same_Some _ _ (sym wanted ∙ is) in let P : Extent → Type 0 = λ y. still f stage ≡ y ∷ still f next in subst P e come);
}

pub header_on : (f : List ℕ) (next : Stage) → index_of next ≡ 0 → IsAt f 0 next → StepsOn f stages.Header (record { stage = next; level = None })
header_on f next index at =
    let come : still f stages.Header ≡ header_range ∷ still f next = ap (λ (rs : List Extent). header_range ∷ rs) (sym at.1) in
    steps_same f stages.Header next header_range at.0 index refl come

pub counts_on : (f : List ℕ) (o : Order) (k at n : ℕ) → Counts f o k at n → StepsOn f (stages.ValueCount o k at) (record { stage = stages.Table o k at n; level = None })
counts_on f o k at n counts =
    let here : ranges_from f k ≡ record { first = at; len = 2 } ∷ record { first = at + 2; len = 12 * n + 4 } ∷ (outside_ranges f k ++ ranges_from f (suc k)) =
    ranges_here f k counts.reaches.few counts.reaches.there ∙ rw (ranges_counted f o k at n counts) refl in
    steps_same f (stages.ValueCount o k at) (stages.Table o k at n) (record { first = at; len = 2 }) counts refl refl here

-- the levels below the next directory
pub levels_more : (f : List ℕ) (k : ℕ) → layouts_below f (suc k) ≡ layouts_below f k ++ map (layout_at f) (filter (is_level f) (k ∷ []))
unfolding layouts_below
levels_more f k =
    ap (λ (ks : List ℕ). map (layout_at f) (filter (is_level f) ks)) (range_more k)
    ∙ ap (map (layout_at f)) (filter-append (is_level f) (range_with_len 0 k) (k ∷ []))
    ∙ map-append (layout_at f) (filter (is_level f) (range_with_len 0 k)) (filter (is_level f) (k ∷ []))

pub levels_passed : (f : List ℕ) (k : ℕ) → is_level f k ≡ false → layouts_below f (suc k) ≡ layouts_below f k
levels_passed f k none = levels_more f k ∙ rw none (append-nil _)

pub levels_taken : (f : List ℕ) (k : ℕ) (l : Layout) → is_level f k ≡ true → layout_at f k ≡ Some l → layouts_below f (suc k) ≡ layouts_below f k ++ Some l ∷ []
levels_taken f k l level told = levels_more f k ∙ rw (level, told) refl

-- a directory that ends with the range of this stage
pub ends_on : (f : List ℕ) (stage : Stage) (k : ℕ) (r : Extent) (step : WalkStep) → index_of stage ≡ k → range_of stage ≡ Some r → still f stage ≡ r ∷ ranges_from f (suc k) → EndsDirectory f k step → StepsOn f stage step
ends_on f stage k r step index wanted come ends = record {
  here = ends.here;
  levels = rw (ends.index, index) ends.levels;
  come = λ x is. (let e : r ≡ x = same_Some _ _ (sym wanted ∙ is) in let P : Extent → Type 0 = λ y. still f stage ≡ y ∷ still f step.stage in subst P e (rw ends.come come));
}
