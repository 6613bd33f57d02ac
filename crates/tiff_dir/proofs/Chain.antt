-- The chain of directories, step by step.
use Rattle.std.proofs.Common.{[], ◌∷◌, ◌++◌, ◌-◌, ◌≡◌, ◌≢◌, ℕ, zero, suc, ◌+◌, ◌*◌, ◌<◌, ◌≤◌, ◌⊎◌, inl, inr, true, false, List, map, length, take, Option, Some, None, IsSomeAnd, refl, sym, ap, subst, ◌∙◌, arith, add-one}
use Rattle.std.proofs.lemmas.Bool.{lt-ltb, eq-eqb, and_from, and_parts, cases_order, cases_lt, false≢true}
use Rattle.std.specs.Option.{option_map_or, option_to_list}
use Rattle.std.specs.Prelude.{nat_lt}
use Rattle.tiff_dir.specs.declared.order.Order.{Order}
use Rattle.tiff_dir.specs.declared.fault.FileFault.{FileFault}
use Rattle.tiff_dir.specs.declared.fault.FileFault.TheVariants.{Header, DirPlace, DirCount, TooManyDirs}
use Rattle.tiff_dir.specs.Number.{number_in}
use Rattle.tiff_dir.specs.File.{order_of, number, directory, has_directory, entry_count, field_at, fields_from, fields, has_all_tags}
use Rattle.extents.specs.Extent.{Extent, bytes_in}
use Rattle.tiff_dir.specs.Needs.{is_entry_count, count_range, table_range, ranges_of_directory, outside_ranges}
use Rattle.tiff_dir.specs.Fault.{is_directory_place, IsFaultAt, IsFaultOfDirectories}
use Rattle.tiff_dir.specs.Table.{entry_at, entries_from, field_of}
use Rattle.tiff_dir.specs.Stage.{ranges_from, IsWalked, Follows, Reaches, Counts, IsOver}
use Rattle.tiff_dir.proofs.Parts.{part_inside, number_inside, number_part, entries-part}
use Rattle.tiff_dir.proofs.Ranges.{filter_none}

pub some_and_at : {A : Type 0} (o : Option A) (P : A → Type 0) (x : A) → o ≡ Some x → IsSomeAnd o P → P x
some_and_at o P x e h = rw e at h

pub some_and_from : {A : Type 0} (o : Option A) (P : A → Type 0) (x : A) → o ≡ Some x → P x → IsSomeAnd o P
some_and_from o P x e p = rw e p

-- The header

order_of-front : (f : List ℕ) → order_of (take 8 f) ≡ order_of f
unfolding order_of
order_of-front [] = refl
order_of-front (a ∷ []) = refl
order_of-front (a ∷ b ∷ f) = refl

order_front : (f bytes : List ℕ) → bytes ≡ take 8 f → order_of bytes ≡ order_of f
order_front f bytes part = ap order_of part ∙ order_of-front f

pub bad_order : (f bytes : List ℕ) → bytes ≡ take 8 f → length bytes ≡ 8 → order_of bytes ≡ None → IsFaultOfDirectories f Header
unfolding IsFaultOfDirectories
bad_order f bytes part len none =
    let inside = part_inside f bytes 0 8 part len (omega arith) in
    inl (inl (omega arith, sym (order_front f bytes part) ∙ none))

pub bad_number : (f bytes : List ℕ) (o : Order) → bytes ≡ take 8 f → length bytes ≡ 8 → order_of bytes ≡ Some o → number_in o 2 2 bytes ≢ 42 → IsFaultOfDirectories f Header
unfolding IsFaultOfDirectories
bad_number f bytes o part len named bad =
    inl (inr (some_and_from _ _ _ (number_part f bytes o 0 8 2 2 (sym (order_front f bytes part) ∙ named) part len (omega arith) (omega arith)) bad))

pub first_follows : (f bytes : List ℕ) (o : Order) → bytes ≡ take 8 f → length bytes ≡ 8 → order_of bytes ≡ Some o → number_in o 2 2 bytes ≡ 42 → Follows f o 0 (number_in o 4 4 bytes)
unfolding directory
first_follows f bytes o part len named good =
    let named_f : order_of f ≡ Some o = sym (order_front f bytes part) ∙ named in
    let walked : IsWalked f o 0 = record {
      named = named_f;
      number = number_part f bytes o 0 8 2 2 named_f part len (omega arith) (omega arith) ∙ ap Some good;
      clean = λ j h. absurd (omega arith);
    } in
    record {
      walked = walked;
      few = omega arith;
      before = λ j e. absurd (omega arith);
      place = number_part f bytes o 0 8 4 4 named_f part len (omega arith) (omega arith);
    }

-- The next directory

above : (n : ℕ) → 0 < n → option_map_or (nat_lt 0) (Some n) false ≡ true
above n h = lt-ltb 0 n h

there_next : (f : List ℕ) (o : Order) (k at : ℕ) → Follows f o k at → (k ≡ 0) ⊎ (0 < at) → has_directory f k ≡ true
unfolding has_directory
there_next f o zero at follows some = refl
there_next f o (suc j) at follows (inl none) = absurd (omega arith)
there_next f o (suc j) at follows (inr some) = and_from _ _ (follows.before j refl) (rw follows.place (above at some))

pub too_many : (f : List ℕ) (o : Order) (k at : ℕ) → Follows f o k at → 16 ≤ k → 0 < at → IsFaultOfDirectories f TooManyDirs
unfolding IsFaultOfDirectories
too_many f o k at follows many some =
    let e : k ≡ 16 = omega (arith, follows.few) in
    let P : ℕ → Type 0 = λ n. has_directory f n ≡ true in
    inl (subst P e (there_next f o k at follows (inr some)))

pub bad_place : (f : List ℕ) (o : Order) (k at : ℕ) → Follows f o k at → k < 16 → (k ≡ 0) ⊎ (0 < at) → is_directory_place at ≡ false → IsFaultOfDirectories f DirPlace
unfolding IsFaultOfDirectories
bad_place f o k at follows few some bad =
    inr (k, (few, there_next f o k at follows some), inl (some_and_from _ _ at follows.place bad))

pub good_place : (f : List ℕ) (o : Order) (k at : ℕ) → Follows f o k at → k < 16 → (k ≡ 0) ⊎ (0 < at) → is_directory_place at ≡ true → Reaches f o k at
good_place f o k at follows few some good =
    record { walked = follows.walked; few = few; there = there_next f o k at follows some; place = follows.place; good = good }

-- a directory without fault, and the place behind it
pub goes_on : (f : List ℕ) (o : Order) (k at : ℕ) → IsWalked f o k → k < 16 → has_directory f k ≡ true → directory f (suc k) ≡ Some at → ((fault : FileFault) → IsFaultAt f k fault → ⊥) → Follows f o (k + 1) at
goes_on f o k at walked few there place clean =
    record {
      walked = record {
        named = walked.named;
        number = walked.number;
        clean = λ j h fault bad. elim (cases_order j k) [
          | inl e ↦ (let P : ℕ → Type 0 = λ x. IsFaultAt f x fault in clean fault (subst P e bad))
          | inr (inl lt) ↦ walked.clean j lt fault bad
          | inr (inr gt) ↦ absurd (omega arith)
        ];
      };
      few = omega arith;
      before = λ j e. (let same : k ≡ j = omega arith in let P : ℕ → Type 0 = λ x. has_directory f x ≡ true in subst P same there);
      place = rw add-one place;
    }

-- The count

count_is : (f bytes : List ℕ) (o : Order) (k at : ℕ) → Reaches f o k at → bytes ≡ bytes_in f (record { first = at; len = 2 }) → length bytes ≡ 2 → number f at 2 ≡ Some (number_in o 0 2 bytes)
count_is f bytes o k at reaches part len =
    ap (λ (x : ℕ). number f x 2) (omega arith) ∙ number_part f bytes o at 2 0 2 reaches.walked.named part len (omega arith) (omega arith)

pub bad_count : (f bytes : List ℕ) (o : Order) (k at : ℕ) → Reaches f o k at → bytes ≡ bytes_in f (record { first = at; len = 2 }) → length bytes ≡ 2 → is_entry_count (number_in o 0 2 bytes) ≡ false → IsFaultOfDirectories f DirCount
unfolding IsFaultOfDirectories entry_count
bad_count f bytes o k at reaches part len bad =
    let told : entry_count f k ≡ Some (number_in o 0 2 bytes) = rw reaches.place (count_is f bytes o k at reaches part len) in
    inr (k, (reaches.few, reaches.there), inl (some_and_from _ _ _ told bad))

pub good_count : (f bytes : List ℕ) (o : Order) (k at : ℕ) → Reaches f o k at → bytes ≡ bytes_in f (record { first = at; len = 2 }) → length bytes ≡ 2 → is_entry_count (number_in o 0 2 bytes) ≡ true → Counts f o k at (number_in o 0 2 bytes)
good_count f bytes o k at reaches part len good =
    record { reaches = reaches; count = count_is f bytes o k at reaches part len; good = good }

-- The table

field_there : (f : List ℕ) (o : Order) (at : ℕ) → order_of f ≡ Some o → at + 12 ≤ length f → field_at f at ≡ Some (field_of (entry_at o 0 at f))
unfolding field_at
field_there f o at named inside =
    let e : 0 + at ≡ at = omega arith in
    rw (number_inside f o at 2 named (omega arith), number_inside f o (at + 2) 2 named (omega arith), number_inside f o (at + 4) 4 named (omega arith), e) refl

same_fields : (f : List ℕ) (o : Order) (at n : ℕ) → order_of f ≡ Some o → at + 12 * n ≤ length f → map field_of (entries_from o 0 at n f) ≡ fields_from f at n
unfolding entries_from fields_from
same_fields f o at zero named inside = refl
same_fields f o at (suc n) named inside =
    let rest : map field_of (entries_from o 0 (at + 12) n f) ≡ fields_from f (at + 12) n = same_fields f o (at + 12) n named (omega arith) in
    rw (field_there f o at named (omega arith), rest) refl

length-entries : (o : Order) (base at n : ℕ) (bytes : List ℕ) → length (map field_of (entries_from o base at n bytes)) ≡ n
unfolding entries_from
length-entries o base at zero bytes = refl
length-entries o base at (suc n) bytes = ap suc (length-entries o base (at + 12) n bytes)

pub same_entries : (f bytes : List ℕ) (o : Order) (at n : ℕ) → bytes ≡ bytes_in f (record { first = at + 2; len = 12 * n + 4 }) → entries_from o 0 (at + 2) n f ≡ entries_from o (at + 2) 0 n bytes
same_entries f bytes o at n part =
    let place : at + 2 ≡ at + 2 + 0 = omega arith in
    ap (λ (x : ℕ). entries_from o 0 x n f) place ∙ sym (rw part (entries-part f o (at + 2) (12 * n + 4) 0 n (omega arith)))

pub fields_are : (f bytes : List ℕ) (o : Order) (k at n : ℕ) → Counts f o k at n → bytes ≡ bytes_in f (record { first = at + 2; len = 12 * n + 4 }) → length bytes ≡ 12 * n + 4 → fields f k ≡ map field_of (entries_from o (at + 2) 0 n bytes)
unfolding fields entry_count
fields_are f bytes o k at n counts part len =
    let inside = part_inside f bytes (at + 2) (12 * n + 4) part len (omega arith) in
    let same : fields_from f (at + 2) n ≡ map field_of (entries_from o (at + 2) 0 n bytes) =
    sym (same_fields f o (at + 2) n counts.reaches.walked.named (omega arith)) ∙ ap (map field_of) (same_entries f bytes o at n part) in
    rw (counts.reaches.place, counts.count) same

pub all_tags : (f bytes : List ℕ) (o : Order) (k at n : ℕ) → Counts f o k at n → bytes ≡ bytes_in f (record { first = at + 2; len = 12 * n + 4 }) → length bytes ≡ 12 * n + 4 → has_all_tags f k ≡ true
unfolding has_all_tags entry_count
all_tags f bytes o k at n counts part len =
    let many : length (map field_of (entries_from o (at + 2) 0 n bytes)) ≡ n = length-entries o (at + 2) 0 n bytes in
    rw (fields_are f bytes o k at n counts part len, many, counts.reaches.place, counts.count) (eq-eqb n n refl)

pub next_is : (f bytes : List ℕ) (o : Order) (k at n : ℕ) → Counts f o k at n → bytes ≡ bytes_in f (record { first = at + 2; len = 12 * n + 4 }) → length bytes ≡ 12 * n + 4 → directory f (suc k) ≡ Some (number_in o (12 * n) 4 bytes)
unfolding directory
next_is f bytes o k at n counts part len =
    rw (counts.reaches.place, counts.count)
    (number_part f bytes o (at + 2) (12 * n + 4) (12 * n) 4 counts.reaches.walked.named part len (omega arith) (omega arith))

-- What is needed

pub ranges_here : (f : List ℕ) (k : ℕ) → k < 16 → has_directory f k ≡ true → ranges_from f k ≡ ranges_of_directory f k ++ ranges_from f (suc k)
unfolding ranges_from
ranges_here f k few there =
    let e : 16 - k ≡ suc (16 - suc k) = omega arith in
    let e2 : k + 1 ≡ suc k = omega arith in
    rw (e, there, e2) refl

-- behind a next offset of 0 no directory is there
pub none_after : (f : List ℕ) (k j : ℕ) → directory f (suc k) ≡ Some 0 → suc k ≤ j → has_directory f j ≡ true → ⊥
unfolding has_directory
none_after f k zero last le there = absurd (omega arith)
none_after f k (suc i) last le there =
    let parts = and_parts (has_directory f i) (option_map_or (nat_lt 0) (directory f (suc i)) false) there in
    elim (cases_lt k i) [
      | inl lt ↦ none_after f k i last (omega arith) parts.0
      | inr ge ↦
          (let e : i ≡ k = omega arith in
          let none : directory f (suc i) ≡ Some 0 = ap (λ (x : ℕ). directory f (suc x)) e ∙ last in
          false≢true (rw none at parts.1))
    ]

pub ranges_over : (f : List ℕ) (o : Order) (k : ℕ) → IsOver f o k → ranges_from f k ≡ []
unfolding ranges_from
ranges_over f o zero over = absurd (omega (arith, over.some))
ranges_over f o (suc k) over =
    rw (filter_none (has_directory f) (suc k) (16 - suc k) (λ j h there. none_after f k j over.follows.place h there)) refl

-- what a directory needs whose count is right
pub ranges_counted : (f : List ℕ) (o : Order) (k at n : ℕ) → Counts f o k at n → ranges_of_directory f k ≡ record { first = at; len = 2 } ∷ record { first = at + 2; len = 12 * n + 4 } ∷ outside_ranges f k
unfolding ranges_of_directory count_range table_range entry_count outside_ranges
ranges_counted f o k at n counts = rw (counts.reaches.place, counts.count, counts.good) refl

pub count_wanted : (f : List ℕ) (o : Order) (k at : ℕ) → Reaches f o k at → (rest : List Extent) × (ranges_from f k ≡ record { first = at; len = 2 } ∷ rest)
unfolding ranges_of_directory count_range outside_ranges
count_wanted f o k at reaches =
    let rest : List Extent = option_to_list (table_range f k) ++ outside_ranges f k ++ ranges_from f (suc k) in
    let here : ranges_of_directory f k ++ ranges_from f (suc k) ≡ record { first = at; len = 2 } ∷ rest = rw reaches.place refl in
    (rest, ranges_here f k reaches.few reaches.there ∙ here)

pub over_is : (f : List ℕ) (o : Order) (k at : ℕ) → Follows f o k at → 0 < k → at ≡ 0 → IsOver f o k
over_is f o k at follows some none = record { follows = (let P : ℕ → Type 0 = λ x. Follows f o k x in subst P none follows); some = some }
