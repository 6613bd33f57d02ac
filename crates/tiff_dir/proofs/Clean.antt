-- What a file without fault in its directories has: each table, and each level's layout.
use Rattle.tiff_dir.specs.declared.level.Compression.{Compression}
use Rattle.tiff_dir.specs.declared.tags.TheConstants.{BITS_PER_SAMPLE, COMPRESSION, PHOTOMETRIC_INTERPRETATION, PLANAR_CONFIGURATION, SAMPLES_PER_PIXEL, SAMPLE_FORMAT}
use Rattle.std.proofs.Common.{◌-◌, ◌≡◌, ◌≢◌, ℕ, zero, suc, ◌+◌, ◌*◌, ◌<◌, ◌≤◌, ◌⊎◌, inl, inr, Bool, true, false, if◌then◌else◌, List, [], ◌∷◌, ◌++◌, length, get_or, drop, Option, Some, None, refl, sym, subst, ap, ◌∙◌, arith}
use Rattle.std.specs.Option.{option_map_or, option_to_list}
use Rattle.std.specs.Prelude.{nat_lt}
use Rattle.std.specs.List.{filter, flat_map, list_any, range_with_len, AllPass}
use Rattle.std.proofs.lemmas.Bool.{and_parts, cases_Bool, cases_eq, ltb-false, false≢true}
use Rattle.std.proofs.lemmas.List.{length-take, length-drop}
use Rattle.std.proofs.lemmas.Option.{none-some, same_Some}
use Rattle.tiff_dir.specs.declared.order.Order.{Order}
use Rattle.tiff_dir.specs.declared.table.DirectoryEntry.{DirectoryEntry}
use Rattle.tiff_dir.specs.declared.rule.Rule.{Rule}
use Rattle.tiff_dir.specs.declared.stage.Draft.{Draft}
use Rattle.tiff_dir.specs.declared.fault.FileFault.{FileFault}
use Rattle.tiff_dir.specs.declared.fault.FileFault.TheVariants.{Header, PastEnd, DirPlace, DirCount, Missing, FieldType, Unsupported, LevelShape, TileSize, TileArray}
use Rattle.tiff_dir.specs.Number.{number_in}
use Rattle.tiff_dir.specs.File.{order_of, number, directory, has_directory, directories, entry_count, value}
use Rattle.tiff_dir.specs.Profile.{profile, accepts, samples_fit, is_depth}
use Rattle.tiff_dir.specs.Level.{is_level, compression_of, layout_at, depth_at}
use Rattle.extents.specs.Extent.{Extent, bytes_in, ends_past}
use Rattle.tiff_dir.specs.Needs.{is_entry_count, count_range, table_range, outside_range, ranges_of_directory, needs_of_directories, outside_ranges}
use Rattle.tiff_dir.specs.Fault.{is_directory_place, IsFaultOfLevel, IsFaultOfDirectories}
use Rattle.tiff_dir.specs.Table.{entries_from, entry_with_tag, allows, keeps, short_or, draft_in, long_in, IsEntryFault, HasValues, HasCounts}
use Rattle.tiff_dir.specs.Shape.{has_sides, has_tiles, has_arrays, layout_from}
use Rattle.tiff_dir.specs.Stage.{header_range, three_shorts, IsWalked, Counts, HasTable, IsDrafted}
use Rattle.tiff_dir.proofs.Parts.{number_inside}
use Rattle.tiff_dir.proofs.Chain.{some_and_from}
use Rattle.tiff_dir.proofs.Fields.{has_table}
use Rattle.tiff_dir.proofs.Levels.{fits_cases, profile_fault, value_fault, count_fault, drafted, compression_named}
use Rattle.tiff_dir.proofs.Outside.{level_fault, bits_there, bits_outside, bits_value}
use Rattle.tiff_dir.proofs.Ends.{no_width, depth_told, tiles_fault, arrays_fault, layout_told}
use Rattle.tiff_dir.proofs.Told.{there_below}

abbrev pub IsClean : List ℕ → Type 0
IsClean f = (fault : FileFault) → IsFaultOfDirectories f fault → ⊥

-- ---- items of lists

abbrev pub In : {A : Type 0} → A → List A → Type 0
In x [] = ⊥
In x (y ∷ ys) = (x ≡ y) ⊎ In x ys

pub in_left : {A : Type 0} (x : A) (xs ys : List A) → In x xs → In x (xs ++ ys)
in_left x [] ys h = absurd h
in_left x (y ∷ xs) ys (inl is) = inl is
in_left x (y ∷ xs) ys (inr h) = inr (in_left x xs ys h)

pub in_right : {A : Type 0} (x : A) (xs ys : List A) → In x ys → In x (xs ++ ys)
in_right x [] ys h = h
in_right x (y ∷ xs) ys h = inr (in_right x xs ys h)

pub in_flat : {A B : Type 0} (g : A → List B) (x : B) (k : A) (ks : List A) → In k ks → In x (g k) → In x (flat_map g ks)
in_flat g x k [] there h = absurd there
in_flat g x k (j ∷ ks) (inl is) h = in_left x (g j) (flat_map g ks) (let P : _ → Type 0 = λ y. In x (g y) in subst P is h)
in_flat g x k (j ∷ ks) (inr there) h = in_right x (g j) (flat_map g ks) (in_flat g x k ks there h)

pub in_option : {A : Type 0} (o : Option A) (x : A) → o ≡ Some x → In x (option_to_list o)
in_option None x is = absurd (none-some x is)
in_option (Some y) x is = inl (sym (same_Some _ _ is))

pub in_filter : (p : ℕ → Bool) (a n k : ℕ) → a ≤ k → k < a + n → p k ≡ true → In k (filter p (range_with_len a n))
in_filter p a zero k le lt good = absurd (omega arith)
in_filter p a (suc n) k le lt good = elim (cases_eq k a) [
  | inl same ↦ (let here : p a ≡ true = rw same at good in rw here (inl same))
  | inr other ↦ (let rest = in_filter p (a + 1) n k (omega arith) (omega arith) good in elim (cases_Bool (p a)) [ inl h ↦ rw h (inr rest) | inr h ↦ rw h rest ])
]

pub none_of_any : {A : Type 0} (p : A → Bool) (xs : List A) (x : A) → (list_any p xs ≡ true → ⊥) → In x xs → p x ≡ false
none_of_any p [] x none there = absurd there
none_of_any p (y ∷ ys) x none (inl is) = elim (cases_Bool (p y)) [
  | inl h ↦ absurd (none (rw h refl))
  | inr h ↦ (let P : _ → Type 0 = λ z. p z ≡ false in subst P (sym is) h)
]
none_of_any p (y ∷ ys) x none (inr there) = elim (cases_Bool (p y)) [
  | inl h ↦ absurd (none (rw h refl))
  | inr h ↦ none_of_any p ys x (λ any. none (rw h any)) there
]

pub not_false : (b : Bool) → (b ≡ false → ⊥) → b ≡ true
not_false true h = refl
not_false false h = absurd (h refl)

-- ---- ranges

pub ends_inside : (f : List ℕ) (r : Extent) → ends_past f r ≡ false → r.first + r.len ≤ length f
ends_inside f r h = ltb-false (length f) (r.first + r.len) h

pub inside : (f : List ℕ) (r : Extent) → IsClean f → In r (needs_of_directories f) → r.first + r.len ≤ length f
unfolding IsFaultOfDirectories
inside f r clean there = ends_inside f r (none_of_any (ends_past f) (needs_of_directories f) r (λ past. clean PastEnd (inl past)) there)

long_enough : (f : List ℕ) → IsClean f → 8 ≤ length f
unfolding needs_of_directories
long_enough f clean = inside f header_range clean (inl refl)

pub named : (f : List ℕ) → IsClean f → (o : Order) × (order_of f ≡ Some o)
unfolding IsFaultOfDirectories
named f clean = at (order_of f) refl where
  at : (o : Option Order) → order_of f ≡ o → (x : Order) × (order_of f ≡ Some x)
  at None is = absurd (clean Header (inl (inl (omega (arith, long_enough f clean), is))))
  at (Some x) is = (x, is)

forty_two : (f : List ℕ) (o : Order) → IsClean f → order_of f ≡ Some o → number f 2 2 ≡ Some 42
unfolding IsFaultOfDirectories
forty_two f o clean order =
    let told = number_inside f o 2 2 order (omega (arith, long_enough f clean)) in
    elim (cases_eq (number_in o 2 2 f) 42) [
      | inl same ↦ told ∙ ap Some same
      | inr other ↦ absurd (clean Header (inl (inr (some_and_from (number f 2 2) (λ n. n ≢ 42) _ told other))))
    ]

place_there : (f : List ℕ) (o : Order) (k : ℕ) → IsClean f → order_of f ≡ Some o → has_directory f k ≡ true → (at : ℕ) × (directory f k ≡ Some at)
unfolding has_directory directory
place_there f o zero clean order there = (number_in o 4 4 f, number_inside f o 4 4 order (omega (arith, long_enough f clean)))
place_there f o (suc k) clean order there = at (directory f (suc k)) refl (and_parts (has_directory f k) (option_map_or (nat_lt 0) (directory f (suc k)) false) there).1 where
  at : (d : Option ℕ) → directory f (suc k) ≡ d → option_map_or (nat_lt 0) (directory f (suc k)) false ≡ true → (x : ℕ) × (directory f (suc k) ≡ Some x)
  at None is above = absurd (false≢true (rw is at above))
  at (Some x) is above = (x, is)

walked : (f : List ℕ) (o : Order) (k : ℕ) → IsClean f → order_of f ≡ Some o → k < 16 → has_directory f k ≡ true → IsWalked f o k
unfolding IsFaultOfDirectories
walked f o k clean order few there = record {
  named = order;
  number = forty_two f o clean order;
  clean = λ j lt fault bad. clean fault (inr (j, (omega arith, there_below f k j there (omega arith)), bad));
}

among_directories : (f : List ℕ) (k : ℕ) → k < 16 → has_directory f k ≡ true → In k (directories f)
unfolding directories
among_directories f k few there = in_filter (has_directory f) 0 16 k (omega arith) (omega arith) there

needed : (f : List ℕ) (k : ℕ) (r : Extent) → k < 16 → has_directory f k ≡ true → In r (ranges_of_directory f k) → In r (needs_of_directories f)
unfolding needs_of_directories
needed f k r few there h = inr (in_flat (ranges_of_directory f) r k (directories f) (among_directories f k few there) h)

abbrev two_bytes : ℕ → Extent
two_bytes at = record { first = at; len = 2 }

abbrev rows_from : ℕ → ℕ → Extent
rows_from at n = record { first = at + 2; len = 12 * n + 4 }

abbrev of_level : List ℕ → ℕ → List Extent
of_level f k = if is_level f k then option_to_list (outside_range f k BITS_PER_SAMPLE) ++ option_to_list (outside_range f k SAMPLE_FORMAT) else []

count_needed : (f : List ℕ) (k at : ℕ) → directory f k ≡ Some at → In (two_bytes at) (ranges_of_directory f k)
unfolding ranges_of_directory outside_ranges count_range
count_needed f k at place =
    let r = two_bytes at in
    let is : count_range f k ≡ Some r = rw place refl in
    in_left r (option_to_list (count_range f k) ++ option_to_list (table_range f k)) (of_level f k)
    (in_left r (option_to_list (count_range f k)) (option_to_list (table_range f k)) (in_option (count_range f k) r is))

table_needed : (f : List ℕ) (k at n : ℕ) → directory f k ≡ Some at → entry_count f k ≡ Some n → is_entry_count n ≡ true → In (rows_from at n) (ranges_of_directory f k)
unfolding ranges_of_directory outside_ranges table_range
table_needed f k at n place count few =
    let r = rows_from at n in
    let is : table_range f k ≡ Some r = rw (place, count, few) refl in
    in_left r (option_to_list (count_range f k) ++ option_to_list (table_range f k)) (of_level f k)
    (in_right r (option_to_list (count_range f k)) (option_to_list (table_range f k)) (in_option (table_range f k) r is))

bits_needed : (f : List ℕ) (k : ℕ) (r : Extent) → is_level f k ≡ true → outside_range f k BITS_PER_SAMPLE ≡ Some r → In r (ranges_of_directory f k)
unfolding ranges_of_directory outside_ranges outside_range is_level
bits_needed f k r level is =
    let both = option_to_list (outside_range f k BITS_PER_SAMPLE) ++ option_to_list (outside_range f k SAMPLE_FORMAT) in
    let here : of_level f k ≡ both = rw level refl in
    in_right r (option_to_list (count_range f k) ++ option_to_list (table_range f k)) (of_level f k)
    (let P : _ → Type 0 = In r in subst P (sym here) (in_left r (option_to_list (outside_range f k BITS_PER_SAMPLE)) (option_to_list (outside_range f k SAMPLE_FORMAT)) (in_option (outside_range f k BITS_PER_SAMPLE) r is)))

pub counted : (f : List ℕ) (o : Order) (k : ℕ) → IsClean f → order_of f ≡ Some o → k < 16 → has_directory f k ≡ true → (at n : ℕ) × Counts f o k at n
unfolding IsFaultOfDirectories entry_count
counted f o k clean order few there =
    let (at, place) = place_there f o k clean order there in
    let count = two_bytes at in
    let first = inside f count clean (needed f k count few there (count_needed f k at place)) in
    let told = number_inside f o at 2 order first in
    let n = number_in o at 2 f in
    let counts : entry_count f k ≡ Some n = rw place told in
    let good = not_false (is_directory_place at) (λ bad. clean DirPlace (inr (k, (few, there), inl (some_and_from (directory f k) (λ x. is_directory_place x ≡ false) at place bad)))) in
    let many = not_false (is_entry_count n) (λ bad. clean DirCount (inr (k, (few, there), inl (some_and_from (entry_count f k) (λ x. is_entry_count x ≡ false) n counts bad)))) in
    (at, n, record { reaches = record { walked = walked f o k clean order few there; few = few; there = there; place = place; good = good }; count = told; good = many })

-- the table of directory k
pub record IsTabled (f : List ℕ) (o : Order) (k : ℕ) : Type 0 where
  pub entries : List DirectoryEntry
  pub has : HasTable f k entries

pub tabled : (f : List ℕ) (o : Order) (k : ℕ) → IsClean f → order_of f ≡ Some o → k < 16 → has_directory f k ≡ true → IsTabled f o k
unfolding entry_count
tabled f o k clean order few there =
    let (at, n, counts) = counted f o k clean order few there in
    let number_of_entries : entry_count f k ≡ Some n = rw counts.reaches.place counts.count in
    let table = rows_from at n in
    let last = inside f table clean (needed f k table few there (table_needed f k at n counts.reaches.place number_of_entries counts.good)) in
    let bytes = bytes_in f (record { first = at + 2; len = 12 * n + 4 }) in
    let len : length bytes ≡ 12 * n + 4 = omega (arith, length-take (at + 2 + (12 * n + 4) - (at + 2)) (drop (at + 2) f), length-drop (at + 2) f) in
    record { entries = entries_from o (at + 2) 0 n bytes; has = has_table f bytes o k at n (counts, refl) len }

-- ---- a level

not_met : (es : List DirectoryEntry) (r : Rule) → keeps es r ≡ false → (fault : FileFault) × IsEntryFault r es fault
not_met es r bad = at (entry_with_tag r.tag es) refl where
  at : (o : Option DirectoryEntry) → entry_with_tag r.tag es ≡ o → (fault : FileFault) × IsEntryFault r es fault
  at None is = (Missing r.tag, (refl, not_false r.required (λ optional. false≢true (sym bad ∙ rw (is, optional) refl)), is))
  at (Some e) is = (FieldType r.tag, (refl, some_and_from (entry_with_tag r.tag es) (λ x. allows r x ≡ false) e is (rw is at bad)))

-- no fault of the level stands
abbrev IsSound : List ℕ → ℕ → Type 0
IsSound f k = (fault : FileFault) → IsFaultOfLevel f k fault → ⊥

sound_level : (f : List ℕ) (k : ℕ) → IsClean f → k < 16 → has_directory f k ≡ true → is_level f k ≡ true → IsSound f k
sound_level f k clean few there level fault bad = clean fault (level_fault f k fault few there level bad)

all_met : (f : List ℕ) (k : ℕ) (es : List DirectoryEntry) → HasTable f k es → IsSound f k → AllPass (keeps es) profile
all_met f k es has sound = λ j d within. not_false (keeps es (get_or profile j d)) (λ bad.
    let (fault, is) = not_met es (get_or profile j d) bad in
    sound fault (profile_fault f k es fault has (j, d, within, is)))

has_values : (f : List ℕ) (k : ℕ) (es : List DirectoryEntry) → HasTable f k es → IsSound f k → AllPass (keeps es) profile → (c : Compression) × HasValues es c
has_values f k es has sound met = (
  named.0,
  record {
    photometric = not_false _ (λ bad. sound (Unsupported PHOTOMETRIC_INTERPRETATION) (value_fault f k es (Unsupported PHOTOMETRIC_INTERPRETATION) has met (inl (refl, bad))));
    samples = not_false _ (λ bad. sound (Unsupported SAMPLES_PER_PIXEL) (value_fault f k es (Unsupported SAMPLES_PER_PIXEL) has met (inr (inl (refl, bad)))));
    planar = not_false _ (λ bad. sound (Unsupported PLANAR_CONFIGURATION) (value_fault f k es (Unsupported PLANAR_CONFIGURATION) has met (inr (inr (inl (refl, bad))))));
    compression = named.1;
  },
) where
  named : (c : Compression) × (compression_of (short_or es COMPRESSION 0) ≡ Some c)
  named = compression_named (short_or es COMPRESSION 0) (not_false _ (λ bad. sound (Unsupported COMPRESSION) (value_fault f k es (Unsupported COMPRESSION) has met (inr (inr (inr (refl, bad)))))))

has_counts : (f : List ℕ) (k : ℕ) (es : List DirectoryEntry) → HasTable f k es → IsSound f k → AllPass (keeps es) profile → HasCounts es
has_counts f k es has sound met = (
  not_false _ (λ bad. sound (FieldType BITS_PER_SAMPLE) (count_fault f k es (FieldType BITS_PER_SAMPLE) has met (inl (refl, bad)))),
  not_false _ (λ bad. sound (FieldType SAMPLE_FORMAT) (count_fault f k es (FieldType SAMPLE_FORMAT) has met (inr (refl, bad)))),
)

-- the values of BitsPerSample are there
some_bits : (f : List ℕ) (o : Order) (k : ℕ) (es : List DirectoryEntry) {c : Compression} → IsClean f → order_of f ≡ Some o → k < 16 → has_directory f k ≡ true → is_level f k ≡ true → HasTable f k es → AllPass (keeps es) profile → HasValues es c → HasCounts es
    → (bits : ℕ) × (value f k BITS_PER_SAMPLE 0 ≡ Some bits)
some_bits f o k es clean order few there level has met right counts = elim (fits_cases (short_or es SAMPLES_PER_PIXEL 1) (short_or es PHOTOMETRIC_INTERPRETATION 0) right.samples) [
  | inl one ↦ (short_or es BITS_PER_SAMPLE 0, bits_value f k es has met counts one)
  | inr three ↦ at (long_in es BITS_PER_SAMPLE) refl three
] where
  at : (first : Option ℕ) → long_in es BITS_PER_SAMPLE ≡ first → short_or es SAMPLES_PER_PIXEL 1 ≡ 3 → (bits : ℕ) × (value f k BITS_PER_SAMPLE 0 ≡ Some bits)
  at None is three = absurd (bits_there es met is)
  at (Some first) is three =
      let outside = bits_outside f k es first has met counts three is in
      let range : Extent = three_shorts first in
      let last = inside f range clean (needed f k range few there (bits_needed f k range level outside.1)) in
      let place : first + 0 * 2 ≡ first = omega arith in
      (number_in o first 2 f, outside.0 0 ∙ ap (λ n. number f n 2) place ∙ number_inside f o first 2 order (omega arith))

-- what a level of a file without fault is
pub record IsLaid (f : List ℕ) (k : ℕ) : Type 0 where
  pub draft : Draft
  pub bits : ℕ
  pub layout : layout_at f k ≡ Some (layout_from draft bits)
  pub drafted : IsDrafted f k draft
  pub told : depth_at f k ≡ Some bits
  pub samples : accepts SAMPLES_PER_PIXEL draft.samples ≡ true
  pub sides : has_sides draft ≡ true
  pub tiles : has_tiles draft bits ≡ true
  pub arrays : has_arrays draft ≡ true

pub laid : (f : List ℕ) (o : Order) (k : ℕ) → IsClean f → order_of f ≡ Some o → k < 16 → has_directory f k ≡ true → is_level f k ≡ true → IsLaid f k
unfolding draft_in
laid f o k clean order few there level =
    let t = tabled f o k clean order few there in
    let es = t.entries in
    let has = t.has in
    let sound = sound_level f k clean few there level in
    let met = all_met f k es has sound in
    let (compression, right) = has_values f k es has sound met in
    let counts = has_counts f k es has sound met in
    let d = draft_in es compression in
    let (bits, told) = some_bits f o k es clean order few there level has met right counts in
    let is = drafted f k es has met right in
    let depth = not_false (is_depth bits) (λ bad. sound (Unsupported BITS_PER_SAMPLE) (inl (0, some_and_from (value f k BITS_PER_SAMPLE 0) (λ v. accepts BITS_PER_SAMPLE v ≡ false) bits told bad))) in
    let deep = depth_told f k bits told depth in
    let tiles = not_false (has_tiles d bits) (λ bad. sound TileSize (tiles_fault f k d bits is deep bad)) in
    record {
      draft = d;
      bits = bits;
      layout = layout_told f k d bits is deep;
      drafted = is;
      told = deep;
      samples = count_fits (short_or es SAMPLES_PER_PIXEL 1) (short_or es PHOTOMETRIC_INTERPRETATION 0) right.samples;
      sides = not_false (has_sides d) (λ bad. sound LevelShape (no_width f k d is bad));
      tiles = tiles;
      arrays = not_false (has_arrays d) (λ bad. sound TileArray (arrays_fault f k d bits is tiles bad));
    } where
      count_fits : (s p : ℕ) → samples_fit s p ≡ true → accepts SAMPLES_PER_PIXEL s ≡ true
      count_fits s p ok = elim (fits_cases s p ok) [ inl one ↦ rw one refl | inr three ↦ rw three refl ]
