-- What a walk knows of a file from one range to the next.
use Rattle.tiff_dir.specs.declared.tags.TheConstants.{TILE_BYTE_COUNTS, TILE_OFFSETS}
use Rattle.std.proofs.Common.{◌≡◌, ◌≢◌, ℕ, zero, suc, ◌+◌, ◌-◌, ◌<◌, ◌≤◌, ◌⊎◌, inl, inr, true, false, List, [], ◌∷◌, ◌++◌, map, length, drop, Option, Some, None, IsSomeAnd, IfSome, Result, Ok, Err, refl, sym, subst, ap, ◌∙◌, arith, take}
use Rattle.std.specs.Prelude.{slice_get, IsErrAnd, IsSome}
use Rattle.tiff_dir.specs.declared.fault.WalkError.{WalkError}
use Rattle.tiff_dir.specs.declared.fault.WalkError.TheVariants as errors
use Rattle.tiff_dir.specs.Shape.{IsNext, IsSoFar}
use Rattle.std.proofs.lemmas.Option.{same_Some, none-some, slice_get-map}
use Rattle.std.proofs.lemmas.Bool.{and_parts, or_left, lt-ltb, le-ltb, cases_lt, cases_Bool, false≢true}
use Rattle.std.proofs.lemmas.List.{map-append, append-nil, length-append}
use Rattle.std.proofs.lemmas.List.Elements.{filter-append}
use Rattle.std.specs.Option.{option_map, option_to_list}
use Rattle.std.specs.List.{filter, list_any, last_or, range_with_len}
use Rattle.tiff_dir.specs.declared.order.Order.{Order}
use Rattle.tiff_dir.specs.declared.level.Level.{Level}
use Rattle.tiff_dir.specs.declared.stage.Stage.{Stage}
use Rattle.tiff_dir.specs.declared.stage.Stage.TheVariants as stages
use Rattle.tiff_dir.specs.declared.stage.WalkStep.{WalkStep}
use Rattle.tiff_dir.specs.declared.fault.FileFault.{FileFault}
use Rattle.tiff_dir.specs.declared.fault.FileFault.TheVariants.{Header, PastEnd, TooManyDirs}
use Rattle.tiff_dir.specs.Query.{array_range}
use Rattle.tiff_dir.specs.declared.level.Place.{Place}
use Rattle.tiff_dir.proofs.Ends.{layout_parts}
use Rattle.tiff_dir.specs.File.{◌>>=◌, Field, field, order_of, number, has_directory, directories}
use Rattle.tiff_dir.specs.Described.{described, layout_of, AreLevels}
use Rattle.tiff_dir.specs.Level.{Layout, is_level, place_of, level_directories, previous_level, layout_at, layouts, level_layout, level_directory}
use Rattle.extents.specs.Extent.{Extent, ends_past}
use Rattle.tiff_dir.specs.Needs.{IsEndOf, extent_of_place, field_range, needs_of_directories, outside_ranges}
use Rattle.tiff_dir.specs.Fault.{IsFaultOfDirectories}
use Rattle.tiff_dir.specs.Stage.{range_of, index_of, still, three_shorts, ranges_from, is_past_first, is_first_table, layouts_below, AgreesAt, IsBefore, IsOver, StepsOn}
use Rattle.tiff_dir.specs.declared.geo.GeoEntries.{GeoEntries}
use Rattle.tiff_dir.specs.GeoEntries.{AreNear}
use Rattle.std.proofs.lemmas.List.{take-append-drop}
use Rattle.tiff_dir.specs.WalkState.{WalkState, HasGeo}
use Rattle.extents.specs.Extent.{bytes_in}
use Rattle.tiff_dir.specs.Walk.{IsWanted, WalkAgrees, given_of, wanted, to_come, IsWantedOf, HasEnded, IfFile}
use Rattle.tiff_dir.proofs.Chain.{some_and_at, count_wanted, none_after}
use Rattle.tiff_dir.proofs.Parts.{part_inside}
use Rattle.tiff_dir.proofs.Ranges.{drop_next, filter_none, filter_all, range_split, last_or-map}

pub told_new : (f : List ℕ) (ls : List Level) (geo : GeoEntries) → ls ≡ [] → WalkAgrees (record { stage = stages.Header; levels = ls; geo = geo; given = 0 }) f
unfolding WalkAgrees layouts_below needs_of_directories directories ranges_from
told_new f ls geo none = record { here = tt; levels = rw none refl; geo = λ past. absurd (false≢true past); come = refl; inside = refl }

pub come_new : (f : List ℕ) (w : WalkState) → w.given ≡ 0 → to_come w f ≡ needs_of_directories f
unfolding to_come
come_new f w none = rw none refl

-- the range that is wanted is the first that is still needed
first_still : (f : List ℕ) (stage : Stage) (r : Extent) → AgreesAt f stage → range_of stage ≡ Some r → (rest : List Extent) × (still f stage ≡ r ∷ rest)
first_still f stages.Header r here e = (ranges_from f 0, ap (λ (x : Extent). x ∷ ranges_from f 0) (same_Some _ _ e))
first_still f (stages.ValueCount o k at) r here e = let (rest, is) = count_wanted f o k at here in (rest, is ∙ ap (λ (x : Extent). x ∷ rest) (same_Some _ _ e))
first_still f (stages.Table o k at n) r here e =
    let rest : List Extent = outside_ranges f k ++ ranges_from f (suc k) in (rest, ap (λ (x : Extent). x ∷ rest) (same_Some _ _ e))
first_still f (stages.Bits p first formats) r here e =
    let rest : List Extent = option_to_list (option_map three_shorts formats) ++ ranges_from f (suc p.index) in (rest, ap (λ (x : Extent). x ∷ rest) (same_Some _ _ e))
first_still f (stages.Formats p first bits) r here e =
    let rest : List Extent = ranges_from f (suc p.index) in (rest, ap (λ (x : Extent). x ∷ rest) (same_Some _ _ e))
first_still f (stages.Ended o k) r here e = absurd (none-some r e)

pub past_end : (w : WalkState) (f : List ℕ) (r : Extent) → WalkAgrees w f → wanted w ≡ Some r → length f < r.first + r.len → IsFaultOfDirectories f PastEnd
unfolding WalkAgrees wanted IsFaultOfDirectories
past_end w f r told is past =
    let (rest, first) = first_still f w.stage r told.here is in
    inl (told.inside ∙ ap (list_any (ends_past f)) first ∙ or_left (ends_past f r) (list_any (ends_past f) rest) (lt-ltb (length f) (r.first + r.len) past))

pub first_come : (w : WalkState) (f : List ℕ) → WalkAgrees w f → slice_get (to_come w f) 0 ≡ wanted w
unfolding WalkAgrees wanted to_come
first_come w f told = rw told.come (at w.stage told.here (range_of w.stage) refl) where
  at : (stage : Stage) → AgreesAt f stage → (o : Option Extent) → range_of stage ≡ o → slice_get (still f stage) 0 ≡ range_of stage
  at stage here None is = ended stage is where
    ended : (stage : Stage) → range_of stage ≡ None → slice_get (still f stage) 0 ≡ range_of stage
    ended stages.Header is = absurd (none-some _ (sym is))
    ended (stages.ValueCount o k a) is = absurd (none-some _ (sym is))
    ended (stages.Table o k a n) is = absurd (none-some _ (sym is))
    ended (stages.Bits p first formats) is = absurd (none-some _ (sym is))
    ended (stages.Formats p first bits) is = absurd (none-some _ (sym is))
    ended (stages.Ended o k) is = refl
  at stage here (Some r) is =
      let (rest, first) = first_still f stage r here is in
      ap (λ (xs : List Extent). slice_get xs 0) first ∙ sym is

-- how long the wanted range is
pub wanted_len : (w : WalkState) (n : ℕ) → IsWanted w n → IsSomeAnd (range_of w.stage) (λ r. n ≡ r.len)
unfolding wanted
wanted_len w n is = is

pub wanted_is : (w : WalkState) (n : ℕ) → IsWanted w n → (r : Extent) × (wanted w ≡ Some r) × (n ≡ r.len) × (0 < n)
unfolding wanted
wanted_is w n is = at w.stage is where
  at : (stage : Stage) → IsSomeAnd (range_of stage) (λ r. n ≡ r.len) → (r : Extent) × (range_of stage ≡ Some r) × (n ≡ r.len) × (0 < n)
  at stages.Header is = (_, refl, is, omega arith)
  at (stages.ValueCount o k a) is = (_, refl, is, omega arith)
  at (stages.Table o k a e) is = (_, refl, is, omega arith)
  at (stages.Bits p first formats) is = (_, refl, is, omega arith)
  at (stages.Formats p first bits) is = (_, refl, is, omega arith)
  at (stages.Ended o k) is = absurd is

pub wanted_parts : (f bytes : List ℕ) (w : WalkState) → IsWantedOf f w bytes → IfSome (range_of w.stage) (λ r. bytes ≡ bytes_in f r)
unfolding wanted
wanted_parts f bytes w given = at (range_of w.stage) given where
  at : (o : Option Extent) → IsSomeAnd o (λ r. bytes ≡ bytes_in f r) → IfSome o (λ r. bytes ≡ bytes_in f r)
  at None given = absurd given
  at (Some r) given = given

-- the bytes of the file as a part of it
pub wanted_part : (f bytes : List ℕ) (w : WalkState) (r : Extent) → wanted w ≡ Some r → IsWantedOf f w bytes → bytes ≡ bytes_in f r
wanted_part f bytes w r is given = some_and_at (wanted w) (λ x. bytes ≡ bytes_in f x) r is given

-- The next range

-- the geo fields of the file, once the table that has them is passed
pub geo_next : (f : List ℕ) (w : WalkState) (stage : Stage) (geo : GeoEntries) → WalkAgrees w f → (is_past_first stage ≡ true → (is_past_first w.stage ≡ true) ⊎ (is_first_table w.stage ≡ true))
    → (is_first_table w.stage ≡ true → HasGeo f geo) → (is_first_table w.stage ≡ false → geo ≡ w.geo) → is_past_first stage ≡ true → HasGeo f geo
unfolding WalkAgrees
geo_next f w stage geo told first taken same past = elim (cases_Bool (is_first_table w.stage)) [
  | inl here ↦ taken here
  | inr other ↦ elim (first past) [
    | inl before ↦ (let P : GeoEntries → Type 0 = λ g. HasGeo f g in subst P (sym (same other)) (told.geo before))
    | inr here ↦ taken here
  ]
]

pub told_next : (f bytes : List ℕ) (w : WalkState) (step : WalkStep) (r : Extent) (ls : List Level) (geo : GeoEntries) → WalkAgrees w f → wanted w ≡ Some r → bytes ≡ bytes_in f r → length bytes ≡ r.len → 0 < r.len → StepsOn f w.stage step
    → ls ≡ w.levels ++ option_to_list step.level → (is_past_first step.stage ≡ true → HasGeo f geo) → WalkAgrees (record { stage = step.stage; levels = ls; geo = geo; given = w.given + 1 }) f
unfolding WalkAgrees wanted
told_next f bytes w step r ls geo told is part len some on same has =
    let come : still f w.stage ≡ r ∷ still f step.stage = on.come r is in
    let ends : ends_past f r ≡ false = le-ltb (length f) (r.first + r.len) (part_inside f bytes r.first r.len part len some) in
    record {
      here = on.here;
      levels = ap (map described) same ∙ map-append described w.levels (option_to_list step.level) ∙ ap (λ (xs : List (Option Layout)). xs ++ map described (option_to_list step.level)) told.levels ∙ sym on.levels;
      geo = has;
      come = drop_next w.given (needs_of_directories f) r (still f step.stage) (told.come ∙ come);
      inside = told.inside ∙ ap (list_any (ends_past f)) come ∙ rw ends refl;
    }

pub come_next : (f : List ℕ) (w : WalkState) (r : Extent) (next : WalkState) → WalkAgrees w f → wanted w ≡ Some r → next.given ≡ w.given + 1 → to_come w f ≡ r ∷ to_come next f
unfolding WalkAgrees wanted to_come
come_next f w r next told is given =
    let (rest, first) = first_still f w.stage r told.here is in
    let here : drop w.given (needs_of_directories f) ≡ r ∷ rest = told.come ∙ first in
    let after : drop (w.given + 1) (needs_of_directories f) ≡ rest = drop_next w.given (needs_of_directories f) r rest here in
    rw given (here ∙ ap (λ (xs : List Extent). r ∷ xs) (sym after))

-- the level before the next directory
pub is_before : (f : List ℕ) (w : WalkState) → WalkAgrees w f → IsBefore f (index_of w.stage) (last_or None w.levels)
unfolding WalkAgrees layouts_below previous_level
is_before f w told =
    sym (last_or-map (layout_at f) None (filter (is_level f) (range_with_len 0 (index_of w.stage))))
    ∙ ap (last_or None) (sym told.levels)
    ∙ last_or-map described None w.levels

pub here_is : (f : List ℕ) (w : WalkState) → WalkAgrees w f → AgreesAt f w.stage
unfolding WalkAgrees
here_is f w told = told.here

-- The end

ended_over : (f : List ℕ) (stage : Stage) → AgreesAt f stage → range_of stage ≡ None → (o : Order) × (k : ℕ) × IsOver f o k × (index_of stage ≡ k) × (still f stage ≡ [])
ended_over f stages.Header here is = absurd (none-some _ (sym is))
ended_over f (stages.ValueCount o k a) here is = absurd (none-some _ (sym is))
ended_over f (stages.Table o k a n) here is = absurd (none-some _ (sym is))
ended_over f (stages.Bits p first formats) here is = absurd (none-some _ (sym is))
ended_over f (stages.Formats p first bits) here is = absurd (none-some _ (sym is))
ended_over f (stages.Ended o k) here is = (o, k, here, refl, refl)

over_clean : (f : List ℕ) (o : Order) (k : ℕ) → IsOver f o k → list_any (ends_past f) (needs_of_directories f) ≡ false → (fault : FileFault) → IsFaultOfDirectories f fault → ⊥
unfolding IsFaultOfDirectories
over_clean f o zero over inside fault bad = absurd (omega (arith, over.some))
over_clean f o (suc k) over inside fault (inr (j, there, bad)) =
    elim (cases_lt j (suc k)) [
      | inl lt ↦ over.follows.walked.clean j lt fault bad
      | inr ge ↦ none_after f k j over.follows.place ge there.1
    ]
over_clean f o (suc k) over inside Header (inl (inl unnamed)) = let h = over.follows.walked.named in cc (h, unnamed.1)
over_clean f o (suc k) over inside Header (inl (inr bad)) = some_and_at (number f 2 2) (λ (n : ℕ). n ≢ 42) 42 over.follows.walked.number bad refl
over_clean f o (suc k) over inside PastEnd (inl past) = false≢true (sym inside ∙ past)
over_clean f o (suc k) over inside TooManyDirs (inl there) = none_after f k 16 over.follows.place (omega (arith, over.follows.few)) there
over_clean f o (suc k) over inside _ (inl bad) = bad

pub ended_clean : (w : WalkState) (f : List ℕ) → HasEnded w → WalkAgrees w f → (fault : FileFault) → IsFaultOfDirectories f fault → ⊥
unfolding WalkAgrees wanted
ended_clean w f ended told =
    let (o, k, over, index, none) = ended_over f w.stage told.here ended in
    over_clean f o k over (told.inside ∙ ap (list_any (ends_past f)) none)

-- nothing is to come when the walk has ended, and what is to come is an end of what the directories need
pub ended_come : (w : WalkState) (f : List ℕ) → WalkAgrees w f → HasEnded w → to_come w f ≡ []
unfolding WalkAgrees wanted to_come
ended_come w f told ended = (let (o, k, over, index, none) = ended_over f w.stage told.here ended in told.come ∙ none)

pub come_end : (w : WalkState) (f : List ℕ) → IsEndOf (to_come w f) (needs_of_directories f)
unfolding to_come
come_end w f = record { front = take w.given (needs_of_directories f); joined = sym (take-append-drop w.given (needs_of_directories f)) }

pub there_below : (f : List ℕ) (k j : ℕ) → has_directory f k ≡ true → j ≤ k → has_directory f j ≡ true
unfolding has_directory
there_below f zero j there le = let e : j ≡ zero = omega arith in rw e refl
there_below f (suc k) j there le = elim (cases_lt k j) [
  | inl lt ↦ (let e : j ≡ suc k = omega arith in let P : ℕ → Type 0 = λ x. has_directory f x ≡ true in subst P (sym e) there)
  | inr ge ↦ there_below f k j (and_parts (has_directory f k) _ there).0 ge
]

-- the directories are those below the end
over_directories : (f : List ℕ) (o : Order) (k : ℕ) → IsOver f o k → directories f ≡ range_with_len 0 k
unfolding directories
over_directories f o zero over = absurd (omega (arith, over.some))
over_directories f o (suc k) over =
    let few = over.follows.few in
    let e : 16 ≡ suc k + (15 - k) = omega arith in
    let there : has_directory f k ≡ true = over.follows.before k refl in
    let first : filter (has_directory f) (range_with_len 0 (suc k)) ≡ range_with_len 0 (suc k) = filter_all (has_directory f) 0 (suc k) (λ j _ lt. there_below f k j there (omega arith)) in
    let rest : filter (has_directory f) (range_with_len (0 + suc k) (15 - k)) ≡ [] = filter_none (has_directory f) (0 + suc k) (15 - k) (λ j h bad. none_after f k j over.follows.place (omega arith) bad) in
    ap (λ (n : ℕ). filter (has_directory f) (range_with_len 0 n)) e
    ∙ ap (filter (has_directory f)) (range_split 0 (suc k) (15 - k))
    ∙ filter-append (has_directory f) (range_with_len 0 (suc k)) (range_with_len (0 + suc k) (15 - k))
    ∙ (rw (first, rest) (append-nil (range_with_len 0 (suc k))))

pub ended_levels : (w : WalkState) (f : List ℕ) → HasEnded w → WalkAgrees w f → AreLevels f w.levels
unfolding WalkAgrees wanted layouts level_directories layouts_below
ended_levels w f ended told =
    let (o, k, over, index, none) = ended_over f w.stage told.here ended in
    told.levels ∙ ap (λ (n : ℕ). map (layout_at f) (filter (is_level f) (range_with_len 0 n))) index
    ∙ ap (λ (ks : List ℕ). map (layout_at f) (filter (is_level f) ks)) (sym (over_directories f o k over))

-- The answers of a call

pub if_file : (r : Result (Unit {0}) WalkError) (fault : FileFault) (P : FileFault → Type 0) → IsErrAnd r (λ e. e ≡ errors.File fault) → P fault → IfFile r P
if_file (Ok x) fault P is p = absurd is
if_file (Err e) fault P is p = let G : WalkError → Type 0 = λ x. IfFile (Err x) P in subst G (sym is) p

pub if_memory : (r : Result (Unit {0}) WalkError) (P : FileFault → Type 0) → IsErrAnd r (λ e. e ≡ errors.Memory) → IfFile r P
if_memory (Ok x) P is = absurd is
if_memory (Err e) P is = let G : WalkError → Type 0 = λ x. IfFile (Err x) P in subst G (sym is) tt

-- The bounds

pub so_far : (stage : Stage) (levels ls : List Level) (before geo : GeoEntries) (given : ℕ) (step : WalkStep) → IsSoFar stage levels before given → IsNext stage (given + 1) step → ls ≡ levels ++ option_to_list step.level → AreNear geo → IsSoFar step.stage ls geo (given + 1)
so_far stage levels ls before geo given step is next same near = record {
  kept = next.kept;
  some = λ h. rw same (some_level (next.some h));
  near = near;
} where
  some_level : (0 < index_of stage) ⊎ (IsSome step.level) → 0 < length (levels ++ option_to_list step.level)
  some_level (inl h) = let n = is.some h in omega (arith, length-append levels (option_to_list step.level))
  some_level (inr h) = at step.level h where
    at : (o : Option Level) → IsSome o → 0 < length (levels ++ option_to_list o)
    at None h = absurd (false≢true h)
    at (Some l) h = omega (arith, length-append levels (l ∷ []))

-- What the end tells

pub ended_order : (w : WalkState) (f : List ℕ) (o : Order) (k : ℕ) → w.stage ≡ stages.Ended o k → WalkAgrees w f → order_of f ≡ Some o
unfolding WalkAgrees
ended_order w f o k is told = let P : Stage → Type 0 = λ x. AgreesAt f x in
    let over : IsOver f o k = subst P is told.here in over.follows.walked.named

-- a level of the file by its number
pub layout_number : (f : List ℕ) (ls : List Level) (n : ℕ) → AreLevels f ls → level_layout f n ≡ option_map layout_of (slice_get ls n)
unfolding layouts level_layout level_directory
layout_number f ls n are =
    let same : option_map described (slice_get ls n) ≡ option_map (layout_at f) (slice_get (level_directories f) n) =
    sym (slice_get-map described ls n) ∙ ap (λ (xs : List (Option Layout)). slice_get xs n) are ∙ slice_get-map (layout_at f) (level_directories f) n in
    at (slice_get ls n) (slice_get (level_directories f) n) same where
      at : (a : Option Level) (b : Option ℕ) → option_map described a ≡ option_map (layout_at f) b → (b >>= layout_at f) ≡ option_map layout_of a
      at None None e = refl
      at None (Some k) e = absurd (none-some _ e)
      at (Some l) None e = absurd (none-some _ (sym e))
      at (Some l) (Some k) e = sym (same_Some _ _ e)

-- the directory of a level
pub layout_found : (f : List ℕ) (n : ℕ) (l : Layout) → level_layout f n ≡ Some l → (k : ℕ) × (level_directory f n ≡ Some k) × (layout_at f k ≡ Some l)
unfolding level_layout
layout_found f n l told = at (level_directory f n) told where
  at : (o : Option ℕ) → (o >>= layout_at f) ≡ Some l → (k : ℕ) × (o ≡ Some k) × (layout_at f k ≡ Some l)
  at None e = absurd (none-some l e)
  at (Some k) e = (k, refl, e)

-- where its arrays stand
array_at : (f : List ℕ) (n k tag : ℕ) (p : Place) → level_directory f n ≡ Some k → (field f k tag >>= place_of f) ≡ Some p → array_range f n tag ≡ Some (extent_of_place p)
unfolding array_range field_range
array_at f n k tag p there told = rw there (at (field f k tag) told) where
  at : (o : Option Field) → (o >>= place_of f) ≡ Some p → (o >>= place_of f >>= λ q. Some (extent_of_place q)) ≡ Some (extent_of_place p)
  at None e = absurd (none-some p e)
  at (Some x) e = rw e refl

pub offsets_at : (f : List ℕ) (n : ℕ) (l : Layout) → level_layout f n ≡ Some l → array_range f n TILE_OFFSETS ≡ Some (extent_of_place l.offsets)
offsets_at f n l told = let (k, there, here) = layout_found f n l told in array_at f n k TILE_OFFSETS l.offsets there (layout_parts f k l here).4

pub counts_at : (f : List ℕ) (n : ℕ) (l : Layout) → level_layout f n ≡ Some l → array_range f n TILE_BYTE_COUNTS ≡ Some (extent_of_place l.counts)
counts_at f n l told = let (k, there, here) = layout_found f n l told in array_at f n k TILE_BYTE_COUNTS l.counts there (layout_parts f k l here).5

pub given_as : (w : WalkState) → given_of w ≡ w.given
unfolding given_of
given_as w = refl

pub wanted_as : (w : WalkState) → wanted w ≡ range_of w.stage
unfolding wanted
wanted_as w = refl

pub ended_stage : (stage : Stage) → range_of stage ≡ None → (o : Order) × (k : ℕ) × (stage ≡ stages.Ended o k)
ended_stage stages.Header is = absurd (none-some _ (sym is))
ended_stage (stages.ValueCount o k a) is = absurd (none-some _ (sym is))
ended_stage (stages.Table o k a n) is = absurd (none-some _ (sym is))
ended_stage (stages.Bits p first formats) is = absurd (none-some _ (sym is))
ended_stage (stages.Formats p first bits) is = absurd (none-some _ (sym is))
ended_stage (stages.Ended o k) is = (o, k, refl)

pub ended_geo : (w : WalkState) (f : List ℕ) → HasEnded w → WalkAgrees w f → HasGeo f w.geo
unfolding WalkAgrees wanted
ended_geo w f ended told =
    let (o, k, is) = ended_stage w.stage ended in
    told.geo (ap is_past_first is)
