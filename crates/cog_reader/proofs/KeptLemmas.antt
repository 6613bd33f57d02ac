-- An array more is kept.
use Rattle.std.proofs.Common.{◌≡◌, ℕ, Bool, true, false, if◌then◌else◌, List, Vec, Global, Option, Some, None, refl, subst, ap, ◌∙◌}
use Rattle.std.specs.Prelude.{◌==◌, IsSomeAnd}
use Rattle.std.proofs.lemmas.Bool.{eqb-true}
use Rattle.std.proofs.lemmas.Option.{none-some}
use Rattle.tiff_dir.specs.declared.level.Level.{Level}
use Rattle.tiff_dir.specs.declared.level.Place.{Place}
use Rattle.tiff_dir.specs.File.{order_of}
use Rattle.tiff_dir.specs.Level.{level_layout}
use Rattle.tiff_dir.specs.Described.{layout_of}
use Rattle.tiff_dir.specs.Needs.{extent_of_place}
use Rattle.tiff_dir.specs.Query.{array_range}
use Rattle.extents.specs.Extent.{bytes_in}
use Rattle.tiff_dir.specs.Walk.{IsArrayOf}
use Rattle.tile_plan.specs.declared.arrays.Arrays.{Arrays}
use Rattle.cog_reader.specs.declared.kept_arrays.KeptArrays.{KeptArrays}
use Rattle.cog_reader.specs.declared.kept_arrays.KeptArrays.TheVariants.{Nothing, Offsets, Both}
use Rattle.cog_reader.specs.KeptArrays.{arrays_held, next_array, KeptAgrees}
use Rattle.cog_reader.proofs.ArrayLemmas.{ranges_are}

-- the place that was wanted, where it is known
pub some_at : {X : Type 0} (o : Option X) (x : X) (P : X → Type 0) → o ≡ Some x → IsSomeAnd o P → P x
some_at None x P is some = absurd (none-some x is)
some_at (Some y) x P is some = (let same : y ≡ x = cc in subst P same some)

pub from_some : {X : Type 0} (o : Option X) (x : X) (P : X → Type 0) → o ≡ Some x → P x → IsSomeAnd o P
from_some None x P is good = absurd (none-some x is)
from_some (Some y) x P is good = (let same : x ≡ y = cc in subst P same good)

pub both_kept : (f : List ℕ) (n : ℕ) (a : Arrays) (old : KeptArrays) (k : ℕ) (bytes : List ℕ) → order_of f ≡ Some a.order → level_layout f n ≡ Some (layout_of a.level) → old ≡ Offsets k a.offsets → (k == n) ≡ true
    → a.counts.items ≡ bytes → KeptAgrees f old → IsSomeAnd (next_array old n a.level) (λ p. IsArrayOf f p bytes) → KeptAgrees f (Both n a)
both_kept f n a old k bytes order layout is same items kept given =
    let first = subst (KeptAgrees f) is kept in
    let next : next_array old n a.level ≡ Some a.level.counts = ap (λ x. next_array x n a.level) is ∙ rw same refl in
    let range = (ranges_are f n (layout_of a.level) layout).0 in
    record {
      order_is = order;
      layout_is = layout;
      offsets_are = some_at (array_range f n 324) (extent_of_place a.level.offsets) (λ r. a.offsets.items ≡ bytes_in f r) range
          (subst (λ m. IsSomeAnd (array_range f m 324) (λ r. a.offsets.items ≡ bytes_in f r)) (eqb-true k n same) first);
      counts_are = items ∙ some_at (next_array old n a.level) a.level.counts (λ p. IsArrayOf f p bytes) next given;
    }

pub offsets_kept : (f : List ℕ) (n : ℕ) (l : Level) (old : KeptArrays) (items bytes : List ℕ) → level_layout f n ≡ Some (layout_of l) → next_array old n l ≡ Some l.offsets
    → items ≡ bytes → IsSomeAnd (next_array old n l) (λ p. IsArrayOf f p bytes) → IsSomeAnd (array_range f n 324) (λ r. items ≡ bytes_in f r)
offsets_kept f n l old items bytes layout next same given =
    from_some (array_range f n 324) (extent_of_place l.offsets) (λ r. items ≡ bytes_in f r) (ranges_are f n (layout_of l) layout).0
    (same ∙ some_at (next_array old n l) l.offsets (λ p. IsArrayOf f p bytes) next given)

-- offsets of another level, and no offsets alone, make room for those of this one
pub others : (k : ℕ) (offsets : Vec ℕ Global) (n : ℕ) (l : Level) → (k ≡ n → ⊥) → (arrays_held (Offsets k offsets) n ≡ 0) × (next_array (Offsets k offsets) n l ≡ Some l.offsets)
others k offsets n l other = at (k == n) refl where
  at : (b : Bool) → (k == n) ≡ b → (◌≡◌ {A = ℕ} (if b then 1 else 0) 0) × ((if b then Some l.counts else Some l.offsets) ≡ Some l.offsets)
  at true is = absurd (other (eqb-true k n is))
  at false is = (refl, refl)

pub no_offsets : (k : KeptArrays) (n : ℕ) (l : Level) (P : Place → Type 0) → ((m : ℕ) (o : Vec ℕ Global) → k ≡ Offsets m o → ⊥) → IsSomeAnd (next_array k n l) P → (arrays_held k n ≡ 0) × (next_array k n l ≡ Some l.offsets)
no_offsets Nothing n l P none wanted = (refl, refl)
no_offsets (Offsets m o) n l P none wanted = absurd (none m o refl)
no_offsets (Both m a) n l P none wanted = at (m == n) wanted where
  at : (b : Bool) → IsSomeAnd (if b then None else Some l.offsets) P → (◌≡◌ {A = ℕ} (if b then 2 else 0) 0) × ((if b then None else Some l.offsets) ≡ Some l.offsets)
  at true bad = absurd bad
  at false good = (refl, refl)
