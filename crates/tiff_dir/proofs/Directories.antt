-- The faults of every directory, and whether it is a level.
use Rattle.tiff_dir.specs.declared.tags.TheConstants.{NEW_SUBFILE_TYPE}
use Rattle.std.proofs.Common.{◌≡◌, ℕ, suc, ◌+◌, ◌*◌, ◌%◌, inl, inr, true, false, ◌&&◌, ◌||◌, ◌==◌, List, [], ◌∷◌, map, length, Some, None, refl, sym, ap, ◌∙◌, add-one}
use Rattle.std.proofs.lemmas.Bool.{and_parts, and_from, eqb-true, eq-eqb, false≢true}
use Rattle.tiff_dir.specs.declared.order.Order.{Order}
use Rattle.tiff_dir.specs.declared.table.DirectoryEntry.{DirectoryEntry}
use Rattle.tiff_dir.specs.declared.fault.FileFault.{FileFault}
use Rattle.tiff_dir.specs.declared.fault.FileFault.TheVariants.{Missing, DirPlace, DirCount, TagOrder, FieldType, LevelShape}
use Rattle.tiff_dir.specs.File.{directory, entry_count, value}
use Rattle.tiff_dir.specs.Profile.{subfile_rule}
use Rattle.tiff_dir.specs.Level.{is_level}
use Rattle.extents.specs.Extent.{bytes_in}
use Rattle.tiff_dir.specs.Needs.{is_entry_count, outside_ranges}
use Rattle.tiff_dir.specs.Fault.{is_directory_place, ascends, IsFaultAt, IsFaultOfDirectory, IsFaultOfDirectories}
use Rattle.tiff_dir.specs.Table.{field_of, keeps, single_or, IsEntryFault}
use Rattle.tiff_dir.specs.Stage.{Counts, EndsDirectory, Follows, HasTable, IsAt, StepsOn, index_of, ranges_from, still}
use Rattle.tiff_dir.specs.declared.stage.Stage.{Stage}
use Rattle.tiff_dir.specs.declared.stage.Stage.TheVariants as stages
use Rattle.tiff_dir.specs.Number.{number_in}
use Rattle.std.proofs.lemmas.List.{append-nil}
use Rattle.tiff_dir.proofs.GoingOn.{ends_on, levels_passed}
use Rattle.tiff_dir.proofs.Chain.{some_and_at, some_and_from, goes_on, next_is}
use Rattle.tiff_dir.proofs.Fields.{single_told, no_rule_fault, rule_fault}

subfile_told : (f : List ℕ) (k : ℕ) (es : List DirectoryEntry) → HasTable f k es → keeps es subfile_rule ≡ true → value f k NEW_SUBFILE_TYPE 0 ≡ Some (single_or es NEW_SUBFILE_TYPE 0)
subfile_told f k es has met = single_told f k es subfile_rule 0 has met tt refl (inl refl)

pub is_level_told : (f : List ℕ) (k : ℕ) (es : List DirectoryEntry) → HasTable f k es → keeps es subfile_rule ≡ true → is_level f k ≡ ((k == 0) || (single_or es NEW_SUBFILE_TYPE 0 == 1))
unfolding is_level
is_level_told f k es has met = rw (subfile_told f k es has met) refl

pub tags_fault : (f : List ℕ) (k : ℕ) (es : List DirectoryEntry) → HasTable f k es → ascends (map field_of es) ≡ false → IsFaultOfDirectory f k TagOrder
tags_fault f k es has bad = rw has.told bad

pub subfile_fault : (f : List ℕ) (k : ℕ) (es : List DirectoryEntry) (fault : FileFault) → HasTable f k es → IsEntryFault subfile_rule es fault → IsFaultOfDirectory f k fault
subfile_fault f k es (FieldType tag) has bad = rule_fault f k es subfile_rule (FieldType tag) has bad
subfile_fault f k es (Missing tag) has bad = false≢true bad.1
subfile_fault f k es _ has bad = absurd bad

pub shape_fault : (f : List ℕ) (k : ℕ) (es : List DirectoryEntry) → HasTable f k es → keeps es subfile_rule ≡ true → ((k == 0) && (single_or es NEW_SUBFILE_TYPE 0 % 2 == 1)) ≡ true → IsFaultOfDirectory f k LevelShape
shape_fault f k es has met bad =
    let parts = and_parts (k == 0) (single_or es NEW_SUBFILE_TYPE 0 % 2 == 1) bad in
    let first : k ≡ 0 = eqb-true k 0 parts.0 in
    let told : value f 0 NEW_SUBFILE_TYPE 0 ≡ Some (single_or es NEW_SUBFILE_TYPE 0) = ap (λ (x : ℕ). value f x NEW_SUBFILE_TYPE 0) (sym first) ∙ subfile_told f k es has met in
    (first, some_and_from (value f 0 NEW_SUBFILE_TYPE 0) (λ v. v % 2 ≡ 1) (single_or es NEW_SUBFILE_TYPE 0) told (eqb-true (single_or es NEW_SUBFILE_TYPE 0 % 2) 1 parts.1))

-- nothing is wrong with the directory
pub directory_clean : (f : List ℕ) (o : Order) (k at n : ℕ) (es : List DirectoryEntry) → Counts f o k at n → HasTable f k es → ascends (map field_of es) ≡ true → keeps es subfile_rule ≡ true
    → ((k == 0) && (single_or es NEW_SUBFILE_TYPE 0 % 2 == 1)) ≡ false → (fault : FileFault) → IsFaultOfDirectory f k fault → ⊥
unfolding entry_count
directory_clean f o k at n es counts has tags met shape DirPlace bad =
    let h : is_directory_place at ≡ false = some_and_at (directory f k) (λ x. is_directory_place x ≡ false) at counts.reaches.place bad in cc (h, counts.reaches.good)
directory_clean f o k at n es counts has tags met shape DirCount bad =
    let h : is_entry_count n ≡ false = some_and_at (entry_count f k) (λ x. is_entry_count x ≡ false) n (rw counts.reaches.place counts.count) bad in cc (h, counts.good)
directory_clean f o k at n es counts has tags met shape TagOrder bad =
    let h : ascends (map field_of es) ≡ false = rw has.told at bad in cc (h, tags)
directory_clean f o k at n es counts has tags met shape (FieldType tag) bad =
    no_rule_fault f k es subfile_rule has met (λ e. absurd (cc)) (FieldType tag) bad
directory_clean f o k at n es counts has tags met shape LevelShape bad =
    let told : value f 0 NEW_SUBFILE_TYPE 0 ≡ Some (single_or es NEW_SUBFILE_TYPE 0) = ap (λ (x : ℕ). value f x NEW_SUBFILE_TYPE 0) (sym bad.0) ∙ subfile_told f k es has met in
    let odd : single_or es NEW_SUBFILE_TYPE 0 % 2 ≡ 1 = some_and_at (value f 0 NEW_SUBFILE_TYPE 0) (λ v. v % 2 ≡ 1) (single_or es NEW_SUBFILE_TYPE 0) told bad.1 in
    false≢true (sym shape ∙ and_from (k == 0) (single_or es NEW_SUBFILE_TYPE 0 % 2 == 1) (eq-eqb k 0 bad.0) (eq-eqb (single_or es NEW_SUBFILE_TYPE 0 % 2) 1 odd))
directory_clean f o k at n es counts has tags met shape _ bad = bad

-- A directory that is no level

pub passed_follows : (f bytes : List ℕ) (o : Order) (k at n : ℕ) → Counts f o k at n → bytes ≡ bytes_in f (record { first = at + 2; len = 12 * n + 4 }) → length bytes ≡ 12 * n + 4 → is_level f k ≡ false → ((fault : FileFault) → IsFaultOfDirectory f k fault → ⊥)
    → Follows f o (k + 1) (number_in o (12 * n) 4 bytes)
passed_follows f bytes o k at n counts part len passed sound =
    let clean : (fault : FileFault) → IsFaultAt f k fault → ⊥ = λ fault bad. elim bad [ inl h ↦ sound fault h | inr h ↦ false≢true (sym passed ∙ h.0) ] in
    goes_on f o k (number_in o (12 * n) 4 bytes) counts.reaches.walked counts.reaches.few counts.reaches.there (next_is f bytes o k at n counts part len) clean

pub passed_on : (f : List ℕ) (o : Order) (k at n : ℕ) (stage : Stage) → is_level f k ≡ false → index_of stage ≡ k + 1 → IsAt f (k + 1) stage → StepsOn f (stages.Table o k at n) (record { stage = stage; level = None })
unfolding outside_ranges
passed_on f o k at n stage passed index here =
    let ends : EndsDirectory f k (record { stage = stage; level = None }) = record {
      here = here.0;
      index = index ∙ add-one k;
      levels = levels_passed f k passed ∙ sym (append-nil _);
      come = rw add-one at here.1;
    } in
    let none : outside_ranges f k ≡ [] = rw passed refl in
    let come : still f (stages.Table o k at n) ≡ record { first = at + 2; len = 12 * n + 4 } ∷ ranges_from f (suc k) = rw none refl in
    ends_on f (stages.Table o k at n) k (record { first = at + 2; len = 12 * n + 4 }) (record { stage = stage; level = None }) refl refl come ends

pub directory_fault : (f : List ℕ) (o : Order) (k at n : ℕ) (fault : FileFault) → Counts f o k at n → IsFaultOfDirectory f k fault → IsFaultOfDirectories f fault
unfolding IsFaultOfDirectories
directory_fault f o k at n fault counts bad = inr (k, (counts.reaches.few, counts.reaches.there), inl bad)
