-- No fault stands for a window of which all tiles are on the picture.
use Rattle.std.proofs.Common.{◌≡◌, ℕ, ◌+◌, ◌++◌, ◌-◌, inl, inr, Bool, true, false, List, length, refl, sym, subst, ◌∙◌}
use Rattle.std.specs.Prelude.{◌||◌, IsSomeAnd}
use Rattle.std.specs.List.{flat_map, list_any, Any, IsAmong}
use Rattle.std.specs.Option.{option_to_list}
use Rattle.std.proofs.lemmas.Bool.{false≢true}
use Rattle.std.proofs.lemmas.List.Folds.{list_any-append}
use Rattle.std.proofs.lemmas.Option.{none-some}
use Rattle.tiff_dir.specs.declared.query.Query.{Query}
use Rattle.tiff_dir.specs.declared.query.Query.TheVariants.{Window, Info}
use Rattle.tiff_dir.specs.declared.fault.FileFault.{FileFault}
use Rattle.tiff_dir.specs.declared.fault.FileFault.TheVariants.{PastEnd, TileSize, Packet, Outside, TooLarge}
use Rattle.tiff_dir.specs.Level.{Layout, level_layout}
use Rattle.extents.specs.Extent.{ends_past}
use Rattle.tiff_dir.specs.Needs.{extent_of_place}
use Rattle.tiff_dir.specs.Described.{layout_of}
use Rattle.tiff_dir.specs.Fault.{IsFaultOfDirectories}
use Rattle.tiff_dir.specs.Faulty.{HasBadPackets, IsFaultOfWindow, IsFaulty, IsWindow}
use Rattle.tiff_dir.specs.Query.{array_ranges, tile_ranges, rectangle, window_tiles, is_outside, is_too_large, segment}
use Rattle.tiff_dir.specs.Window.{HasSamples, IsUnpacked}
use Rattle.tile_plan.specs.declared.asked.Rectangle.{Rectangle}
use Rattle.tile_plan.specs.Levels.{rectangle_of}
use Rattle.tile_plan.specs.Plan.{tiles_of, IsPlanned}
use Rattle.tile_plan.specs.declared.arrays.Arrays.{Arrays}
use Rattle.tile_plan.specs.WindowBuilder.{WindowState, IsPainted, IsUnderway}
use Rattle.cog_reader.proofs.ArrayLemmas.{array_some, inside_array, ranges_are}
use Rattle.cog_reader.proofs.KeptLemmas.{from_some, some_at}

-- the arrays end in the file
arrays_inside : (f : List ℕ) (q : Query) (a : Arrays) (w : WindowState) → IsUnderway f q a w
    → (ends_past f (extent_of_place a.level.offsets) ≡ false) × (ends_past f (extent_of_place a.level.counts) ≡ false)
arrays_inside f q a w u =
    let some = array_some a.level in (
      inside_array f a.level.offsets a.offsets.items u.planned.offsets_are a.offsets_whole some.0,
      inside_array f a.level.counts a.counts.items u.planned.counts_are a.counts_whole some.1,
    )

-- ---- each fault

window_is : (f : List ℕ) (q : Query) (a : Arrays) (r : Rectangle) → IsPlanned f q a.order a.level r (length f) a.offsets.items a.counts.items → window_tiles f q ≡ tiles_of a.level r
unfolding window_tiles
window_is f q a r p = rw (p.good, p.rectangle_is, p.described.grid) refl

no_past : (f : List ℕ) (q : Query) (a : Arrays) (w : WindowState) → IsUnderway f q a w → list_any (ends_past f) (array_ranges f q ++ flat_map option_to_list (tile_ranges f q)) ≡ false
unfolding array_ranges
no_past f q a w u =
    let r = w.picture.rectangle in
    let parts = ranges_are f r.level (layout_of a.level) u.planned.layout_is in
    let inside = arrays_inside f q a w u in
    list_any-append (ends_past f) (array_ranges f q) (flat_map option_to_list (tile_ranges f q))
    ∙ rw (u.needed.inside, u.planned.good, u.planned.rectangle_is, parts.0, parts.1, inside.0, inside.1) refl

both_false : (a b : Bool) → (a || b) ≡ false → (a ≡ false) × (b ≡ false)
both_false true b is = absurd (false≢true (sym is))
both_false false b is = (refl, is)

no_damage : (f : List ℕ) (q : Query) (a : Arrays) (w : WindowState) → IsUnderway f q a w → ((t : ℕ) → IsAmong (tiles_of a.level w.picture.rectangle) t → IsPainted f w.picture.rectangle.level w.picture t)
    → HasBadPackets f q → ⊥
no_damage f q a w u painted h =
    let r = w.picture.rectangle in
    let l = a.level in
    let Packed : Layout → List ℕ → Type 0 = λ m bytes. (plain : List ℕ) → IsUnpacked m bytes plain → ⊥ in
    let (i, t, less, is, bad) = some_at (rectangle f q) (rectangle_of r) (λ s. Any (λ t. IsSomeAnd (level_layout f s.level) (λ m. IsSomeAnd (segment f s.level t) (Packed m))) (window_tiles f q)) u.planned.rectangle_is h in
    let here = painted t (subst (λ ts. IsAmong ts t) (window_is f q a r u.planned) (i, (less, sym is))) in
    let laid = some_at (level_layout f r.level) (layout_of l) (λ m. IsSomeAnd (segment f r.level t) (Packed m)) u.planned.layout_is bad in
    let none = some_at (segment f r.level t) here.bytes (Packed (layout_of l)) here.bytes_are laid in
    none here.plain (subst (λ m. IsUnpacked (layout_of m) here.bytes here.plain) u.level here.unpacked)

no_fault_of_window : (f : List ℕ) (q : Query) (a : Arrays) (w : WindowState) (fault : FileFault) → IsUnderway f q a w
    → ((t : ℕ) → IsAmong (tiles_of a.level w.picture.rectangle) t → IsPainted f w.picture.rectangle.level w.picture t) → IsFaultOfWindow f q fault → ⊥
no_fault_of_window f q a w PastEnd u painted bad = false≢true (sym (no_past f q a w u) ∙ bad)
no_fault_of_window f q a w TileSize u painted bad = u.needed.right bad
no_fault_of_window f q a w Packet u painted bad = no_damage f q a w u painted bad
no_fault_of_window f q a w Outside u painted bad = false≢true (sym (both_false (is_outside f q) (is_too_large f q) u.planned.good).0 ∙ bad)
no_fault_of_window f q a w TooLarge u painted bad = false≢true (sym (both_false (is_outside f q) (is_too_large f q) u.planned.good).1 ∙ bad)
no_fault_of_window f q a w _ u painted bad = absurd bad

pub whole_window : (f : List ℕ) (q : Query) (a : Arrays) (w : WindowState) (v : List ℕ) → IsUnderway f q a w → ((t : ℕ) → IsAmong (tiles_of a.level w.picture.rectangle) t → IsPainted f w.picture.rectangle.level w.picture t)
    → ((fault : FileFault) → IsFaultOfDirectories f fault → ⊥) → HasSamples f (rectangle_of w.picture.rectangle) v → IsWindow f q v
unfolding IsFaulty rectangle
whole_window f Info a w v u painted clean samples = absurd (none-some (rectangle_of w.picture.rectangle) u.planned.rectangle_is)
whole_window f (Window x y wide tall p) a w v u painted clean samples = (
  λ fault bad. elim bad [ inl of_file ↦ clean fault of_file | inr of_window ↦ no_fault_of_window f (Window x y wide tall p) a w fault u painted of_window ],
  from_some (rectangle f (Window x y wide tall p)) (rectangle_of w.picture.rectangle) (λ r. HasSamples f r v) u.planned.rectangle_is samples,
)
