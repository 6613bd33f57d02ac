-- What the entries of a table tell of the file's fields.
use Rattle.std.proofs.Common.{◌≡◌, ℕ, zero, suc, ◌+◌, ◌*◌, ◌<◌, ◌≤◌, ◌⊎◌, inl, inr, true, false, not, ◌==◌, nat_lt, if◌then◌else◌, List, [], ◌∷◌, map, length, Option, Some, None, IsSomeAnd, refl, sym, ap, subst, ◌∙◌, arith, add-zero}
use Rattle.std.proofs.lemmas.Option.{same_Some, none-some}
use Rattle.std.proofs.lemmas.Bool.{and_parts, and_cases, or_cases, eqb-true, cases_Bool, false≢true, not_from_true, le-ltb}
use Rattle.std.specs.Bool.{⊤}
use Rattle.std.specs.Option.{option_map, option_map_or}
use Rattle.tiff_dir.specs.declared.order.Order.{Order}
use Rattle.tiff_dir.specs.declared.table.DirectoryEntry.{DirectoryEntry}
use Rattle.tiff_dir.specs.declared.rule.Rule.{Rule}
use Rattle.tiff_dir.specs.declared.rule.Typing.{Typing}
use Rattle.tiff_dir.specs.declared.rule.Typing.TheVariants as typing
use Rattle.tiff_dir.specs.declared.rule.ValueCount.{ValueCount}
use Rattle.tiff_dir.specs.declared.rule.ValueCount.TheVariants.{One, Samples, Tiles, Exactly, Multiple}
use Rattle.tiff_dir.specs.declared.fault.FileFault.{FileFault}
use Rattle.tiff_dir.specs.declared.fault.FileFault.TheVariants.{Missing, FieldType}
use Rattle.tiff_dir.specs.Number.{number_in}
use Rattle.tiff_dir.specs.File.{Field, order_of, number, field, values_at, field_value, value, default_of}
use Rattle.tiff_dir.specs.Profile.{has_typing}
use Rattle.tiff_dir.specs.Fault.{IsMiscounted, IsRuleFault}
use Rattle.tiff_dir.specs.Stage.{HasTable, IsTableOf}
use Rattle.tiff_dir.specs.Table.{field_with_tag, entry_at, entries_from, field_of, entry_with_tag, allows, counts_one, keeps, IsEntryFault, single_of, single_or, short_or}
use Rattle.tiff_dir.proofs.Parts.{part_inside, number_inside}
use Rattle.tiff_dir.proofs.Chain.{some_and_at, some_and_from, same_entries, fields_are, all_tags}

-- The table of a file

-- the numbers that an entry has in its last four bytes
entry_part : (f : List ℕ) (o : Order) (size : ℕ) (part : DirectoryEntry → ℕ) → size ≤ 4 → ((at : ℕ) → part (entry_at o 0 at f) ≡ number_in o (at + 8) size f)
    → (at n tag : ℕ) (e : DirectoryEntry) → order_of f ≡ Some o → at + 12 * n ≤ length f → entry_with_tag tag (entries_from o 0 at n f) ≡ Some e → number f (e.place + 8) size ≡ Some (part e)
unfolding entries_from
entry_part f o size part few is_part at zero tag e named inside found = absurd (none-some e found)
entry_part f o size part few is_part at (suc n) tag e named inside found =
    elim (cases_Bool (number_in o at 2 f == tag)) [
      | inl same ↦
          (let is : entry_at o 0 at f ≡ e = same_Some _ _ (rw same at found) in
          let P : DirectoryEntry → Type 0 = λ x. number f (x.place + 8) size ≡ Some (part x) in
          let place : 0 + at + 8 ≡ at + 8 = omega arith in
          subst P is (ap (λ (k : ℕ). number f k size) place ∙ number_inside f o (at + 8) size named (omega arith) ∙ ap Some (sym (is_part at))))
      | inr other ↦ entry_part f o size part few is_part (at + 12) n tag e named (omega arith) (rw other at found)
    ]

pub has_table : (f bytes : List ℕ) (o : Order) (k at n : ℕ) → IsTableOf f o k at n bytes → length bytes ≡ 12 * n + 4 → HasTable f k (entries_from o (at + 2) 0 n bytes)
has_table f bytes o k at n (counts, part) len =
    let inside = part_inside f bytes (at + 2) (12 * n + 4) part len (omega arith) in
    let named = counts.reaches.walked.named in
    let same = same_entries f bytes o at n part in
    record {
      there = counts.reaches.there;
      whole = all_tags f bytes o k at n counts part len;
      told = fields_are f bytes o k at n counts part len;
      short = λ tag e found. entry_part f o 2 (λ x. x.short) (omega arith) (λ k. refl) (at + 2) n tag e named (omega arith) (rw same found);
      long = λ tag e found. entry_part f o 4 (λ x. x.long) (omega arith) (λ k. refl) (at + 2) n tag e named (omega arith) (rw same found);
    }

-- Fields and values by the entries

field_with_tag-map : (tag : ℕ) (es : List DirectoryEntry) → field_with_tag tag (map field_of es) ≡ option_map field_of (entry_with_tag tag es)
field_with_tag-map tag [] = refl
field_with_tag-map tag (e ∷ es) =
    elim (cases_Bool (e.tag == tag)) [
      | inl same ↦ rw same refl
      | inr other ↦ rw other (field_with_tag-map tag es)
    ]

pub field_told : (f : List ℕ) (k : ℕ) (es : List DirectoryEntry) (tag : ℕ) → HasTable f k es → field f k tag ≡ option_map field_of (entry_with_tag tag es)
unfolding field
field_told f k es tag has = rw has.told (field_with_tag-map tag es)

through : {A : Type 0} (o : Option DirectoryEntry) (g : Field → A) (d : A) → option_map_or g (option_map field_of o) d ≡ option_map_or (λ e. g (field_of e)) o d
through None g d = refl
through (Some e) g d = refl

pub value_told : (f : List ℕ) (k : ℕ) (es : List DirectoryEntry) (tag i : ℕ) → HasTable f k es → value f k tag i ≡ option_map_or (λ e. field_value f (field_of e) i) (entry_with_tag tag es) (default_of tag)
unfolding value
value_told f k es tag i has = rw (field_told f k es tag has, has.whole) (through (entry_with_tag tag es) (λ x. field_value f x i) (default_of tag))

-- Types and counts

-- the profile's types, SHORT and LONG among them
abbrev pub IsKind : ℕ → Type 0
IsKind kind = (kind ≡ 3) ⊎ ((kind ≡ 4) ⊎ ((kind ≡ 2) ⊎ (kind ≡ 12)))

abbrev pub IsInteger : Typing → Type 0
IsInteger typing.Short = ⊤
IsInteger typing.Long = ⊤
IsInteger typing.ShortOrLong = ⊤
IsInteger typing.Ascii = ⊥
IsInteger typing.Double = ⊥

pub kind_told : (t : Typing) (kind : ℕ) → IsInteger t → has_typing t kind ≡ true → (kind ≡ 3) ⊎ (kind ≡ 4)
kind_told typing.Short kind integer ok = inl (eqb-true kind 3 ok)
kind_told typing.Long kind integer ok = inr (eqb-true kind 4 ok)
kind_told typing.ShortOrLong kind integer ok = elim (or_cases (kind == 3) (kind == 4) ok) [
  | inl short ↦ inl (eqb-true kind 3 short)
  | inr long ↦ inr (eqb-true kind 4 long)
]
kind_told typing.Ascii kind integer ok = absurd integer
kind_told typing.Double kind integer ok = absurd integer

pub kind_is : (t : Typing) (kind : ℕ) → has_typing t kind ≡ true → IsKind kind
kind_is typing.Short kind ok = inl (eqb-true kind 3 ok)
kind_is typing.Long kind ok = inr (inl (eqb-true kind 4 ok))
kind_is typing.ShortOrLong kind ok = elim (or_cases (kind == 3) (kind == 4) ok) [
  | inl short ↦ inl (eqb-true kind 3 short)
  | inr long ↦ inr (inl (eqb-true kind 4 long))
]
kind_is typing.Ascii kind ok = inr (inr (inl (eqb-true kind 2 ok)))
kind_is typing.Double kind ok = inr (inr (inr (eqb-true kind 12 ok)))

pub kind_short : (t : Typing) (kind : ℕ) → t ≡ typing.Short → has_typing t kind ≡ true → kind ≡ 3
kind_short t kind is ok = eqb-true kind 3 (let P : Typing → Type 0 = λ x. has_typing x kind ≡ true in subst P is ok)

pub kind_long : (t : Typing) (kind : ℕ) → t ≡ typing.Long → has_typing t kind ≡ true → kind ≡ 4
kind_long t kind is ok = eqb-true kind 4 (let P : Typing → Type 0 = λ x. has_typing x kind ≡ true in subst P is ok)

count_one : (c : ValueCount) (n : ℕ) → c ≡ One → counts_one c n ≡ true → n ≡ 1
count_one c n is ok = eqb-true n 1 (let P : ValueCount → Type 0 = λ x. counts_one x n ≡ true in subst P is ok)

pub typed : (r : Rule) (e : DirectoryEntry) → allows r e ≡ true → has_typing r.typing e.kind ≡ true
typed r e ok = (and_parts (has_typing r.typing e.kind) (counts_one r.count e.count) ok).0

counted : (r : Rule) (e : DirectoryEntry) → allows r e ≡ true → counts_one r.count e.count ≡ true
counted r e ok = (and_parts (has_typing r.typing e.kind) (counts_one r.count e.count) ok).1

-- an entry that is there and keeps its rule
pub met_entry : (es : List DirectoryEntry) (r : Rule) (e : DirectoryEntry) → keeps es r ≡ true → entry_with_tag r.tag es ≡ Some e → allows r e ≡ true
met_entry es r e met is = rw is at met

-- a required field is there
pub met_there : (es : List DirectoryEntry) (r : Rule) → keeps es r ≡ true → r.required ≡ true → (e : DirectoryEntry) × (entry_with_tag r.tag es ≡ Some e)
met_there es r met required = there (entry_with_tag r.tag es) met where
  there : (o : Option DirectoryEntry) → option_map_or (allows r) o (not r.required) ≡ true → (e : DirectoryEntry) × (o ≡ Some e)
  there None met = absurd (false≢true (sym (not_from_true r.required required) ∙ met))
  there (Some e) met = (e, refl)

-- The only value of a field

single_value : (f : List ℕ) (e : DirectoryEntry) → number f (e.place + 8) 2 ≡ Some e.short → number f (e.place + 8) 4 ≡ Some e.long → (e.kind ≡ 3) ⊎ (e.kind ≡ 4) → e.count ≡ 1 → field_value f (field_of e) 0 ≡ Some (single_of e)
unfolding field_value values_at
single_value f e short long (inl kind) count = rw (count, kind, add-zero, short) refl
single_value f e short long (inr kind) count = rw (count, kind, add-zero, long) refl

short_value : (f : List ℕ) (e : DirectoryEntry) → number f (e.place + 8) 2 ≡ Some e.short → e.kind ≡ 3 → e.count ≡ 1 → field_value f (field_of e) 0 ≡ Some e.short
unfolding field_value values_at
short_value f e short kind count = rw (count, kind, add-zero, short) refl

-- there is no second value
no_value : (f : List ℕ) (e : DirectoryEntry) (i : ℕ) → e.kind ≡ 3 → e.count ≡ 1 → 0 < i → field_value f (field_of e) i ≡ None
unfolding field_value values_at
no_value f e i kind count some = let past = le-ltb i 1 (omega arith) in rw (count, kind, past) refl

pub single_told : (f : List ℕ) (k : ℕ) (es : List DirectoryEntry) (r : Rule) (d : ℕ) → HasTable f k es → keeps es r ≡ true → IsInteger r.typing → r.count ≡ One → (default_of r.tag ≡ Some d) ⊎ (r.required ≡ true) → value f k r.tag 0 ≡ Some (single_or es r.tag d)
single_told f k es r d has met integer one default = value_told f k es r.tag 0 has ∙ at (entry_with_tag r.tag es) refl default where
  at : (o : Option DirectoryEntry) → entry_with_tag r.tag es ≡ o → (default_of r.tag ≡ Some d) ⊎ (r.required ≡ true) → option_map_or (λ e. field_value f (field_of e) 0) o (default_of r.tag) ≡ Some (option_map_or single_of o d)
  at None is (inl default) = default
  at None is (inr required) = let (e, there) = met_there es r met required in absurd (none-some e (sym is ∙ there))
  at (Some e) is default =
      let ok = met_entry es r e met is in
      single_value f e (has.short r.tag e is) (has.long r.tag e is) (kind_told r.typing e.kind integer (typed r e ok)) (count_one r.count e.count one (counted r e ok))

pub short_told : (f : List ℕ) (k : ℕ) (es : List DirectoryEntry) (r : Rule) (d : ℕ) → HasTable f k es → keeps es r ≡ true → r.typing ≡ typing.Short
    → ((e : DirectoryEntry) → entry_with_tag r.tag es ≡ Some e → e.count ≡ 1) → (default_of r.tag ≡ Some d) ⊎ (r.required ≡ true) → value f k r.tag 0 ≡ Some (short_or es r.tag d)
short_told f k es r d has met short one default = value_told f k es r.tag 0 has ∙ at (entry_with_tag r.tag es) refl default where
  at : (o : Option DirectoryEntry) → entry_with_tag r.tag es ≡ o → (default_of r.tag ≡ Some d) ⊎ (r.required ≡ true) → option_map_or (λ e. field_value f (field_of e) 0) o (default_of r.tag) ≡ Some (option_map_or (λ e. e.short) o d)
  at None is (inl default) = default
  at None is (inr required) = let (e, there) = met_there es r met required in absurd (none-some e (sym is ∙ there))
  at (Some e) is default =
      let ok = met_entry es r e met is in
      short_value f e (has.short r.tag e is) (kind_short r.typing e.kind short (typed r e ok)) (one e is)

-- each value of a field of one SHORT is that one
pub short_only : (f : List ℕ) (k : ℕ) (es : List DirectoryEntry) (r : Rule) (d : ℕ) → HasTable f k es → keeps es r ≡ true → r.typing ≡ typing.Short
    → ((e : DirectoryEntry) → entry_with_tag r.tag es ≡ Some e → e.count ≡ 1) → (default_of r.tag ≡ Some d) ⊎ (r.required ≡ true) → (i v : ℕ) → value f k r.tag i ≡ Some v → v ≡ short_or es r.tag d
short_only f k es r d has met short one default i v told = at (entry_with_tag r.tag es) refl default (sym (value_told f k es r.tag i has) ∙ told) where
  at : (o : Option DirectoryEntry) → entry_with_tag r.tag es ≡ o → (default_of r.tag ≡ Some d) ⊎ (r.required ≡ true) → option_map_or (λ e. field_value f (field_of e) i) o (default_of r.tag) ≡ Some v → v ≡ option_map_or (λ e. e.short) o d
  at None is (inl default) told = sym (same_Some _ _ (sym default ∙ told))
  at None is (inr required) told = let (e, there) = met_there es r met required in absurd (none-some e (sym is ∙ there))
  at (Some e) is default told = which i told where
    kind : e.kind ≡ 3
    kind = kind_short r.typing e.kind short (typed r e (met_entry es r e met is))

    which : (j : ℕ) → field_value f (field_of e) j ≡ Some v → v ≡ e.short
    which zero told = sym (same_Some _ _ (sym (short_value f e (has.short r.tag e is) kind (one e is)) ∙ told))
    which (suc j) told = absurd (none-some v (sym (no_value f e (suc j) kind (one e is) (omega arith)) ∙ told))

-- the same of the count that a rule asks for
pub one_counted : (es : List DirectoryEntry) (r : Rule) → keeps es r ≡ true → r.count ≡ One → (e : DirectoryEntry) → entry_with_tag r.tag es ≡ Some e → e.count ≡ 1
one_counted es r met one e is = count_one r.count e.count one (counted r e (met_entry es r e met is))

-- Three values outside the entry

pub three_values : (f : List ℕ) (e : DirectoryEntry) (i : ℕ) → number f (e.place + 8) 4 ≡ Some e.long → e.kind ≡ 3 → e.count ≡ 3 → field_value f (field_of e) i ≡ (if nat_lt i 3 then number f (e.long + i * 2) 2 else None)
unfolding field_value values_at
three_values f e i long kind count = rw (count, kind, long) refl

-- The rules

-- the field of a rule is wrong in the file as it is in the table
pub rule_fault : (f : List ℕ) (k : ℕ) (es : List DirectoryEntry) (r : Rule) (fault : FileFault) → HasTable f k es → IsEntryFault r es fault → IsRuleFault f k r fault
rule_fault f k es r (Missing tag) has bad =
    let none : field f k r.tag ≡ None = field_told f k es r.tag has ∙ rw bad.2 refl in
    (bad.0, bad.1, has.whole, rw (← bad.0) none)
rule_fault f k es r (FieldType tag) has bad =
    let P : ℕ → Type 0 = λ t. IsSomeAnd (field f k t) (λ e. IsSomeAnd e.kind (λ kind. has_typing r.typing kind ≡ false) ⊎ IsMiscounted f k r.count e) in
    (bad.0, subst P bad.0 (at (entry_with_tag r.tag es) refl bad.1)) where
      wrong : (c : ValueCount) (e : DirectoryEntry) → counts_one c e.count ≡ false → IsMiscounted f k c (field_of e)
      wrong One e bad = bad
      wrong Samples e bad = absurd (false≢true (sym bad))
      wrong Tiles e bad = absurd (false≢true (sym bad))
      wrong (Exactly n) e bad = bad
      wrong (Multiple n) e bad = bad

      at : (o : Option DirectoryEntry) → entry_with_tag r.tag es ≡ o → IsSomeAnd o (λ e. allows r e ≡ false) → IsSomeAnd (field f k r.tag) (λ e. IsSomeAnd e.kind (λ kind. has_typing r.typing kind ≡ false) ⊎ IsMiscounted f k r.count e)
      at None is bad = absurd bad
      at (Some e) is bad =
          some_and_from (field f k r.tag) (λ x. IsSomeAnd x.kind (λ kind. has_typing r.typing kind ≡ false) ⊎ IsMiscounted f k r.count x) (field_of e) (field_told f k es r.tag has ∙ rw is refl)
          (elim (and_cases (has_typing r.typing e.kind) (counts_one r.count e.count) bad) [ inl h ↦ inl h | inr h ↦ inr (wrong r.count e h) ])
rule_fault f k es r _ has bad = absurd bad

-- the field of a rule that is met, and counted where it counts samples
pub no_rule_fault : (f : List ℕ) (k : ℕ) (es : List DirectoryEntry) (r : Rule) → HasTable f k es → keeps es r ≡ true
    → (r.count ≡ Samples → (e : DirectoryEntry) → entry_with_tag r.tag es ≡ Some e → (s : ℕ) × (value f k 277 0 ≡ Some s) × ((e.count == s) ≡ true)) → (fault : FileFault) → IsRuleFault f k r fault → ⊥
no_rule_fault f k es r has met right (Missing tag) bad =
    let (e, there) = met_there es r met bad.1 in
    let none : field f k r.tag ≡ None = rw bad.0 bad.3 in
    none-some (field_of e) (sym none ∙ field_told f k es r.tag has ∙ rw there refl)
no_rule_fault f k es r has met right (FieldType tag) bad =
    let P : ℕ → Type 0 = λ t. IsSomeAnd (field f k t) (λ e. IsSomeAnd e.kind (λ kind. has_typing r.typing kind ≡ false) ⊎ IsMiscounted f k r.count e) in
    at (entry_with_tag r.tag es) refl (rw (field_told f k es r.tag has) at (subst P (sym bad.0) bad.1)) where
      wrong : (c : ValueCount) (e : DirectoryEntry) → r.count ≡ c → entry_with_tag r.tag es ≡ Some e → counts_one c e.count ≡ true → IsMiscounted f k c (field_of e) → ⊥
      wrong One e is at ok bad = false≢true (sym bad ∙ ok)
      wrong Samples e is at ok bad = let (s, told, same) = right is e at in false≢true (sym (some_and_at _ (λ n. (e.count == n) ≡ false) _ told bad) ∙ same)
      wrong Tiles e is at ok bad = bad
      wrong (Exactly n) e is at ok bad = false≢true (sym bad ∙ ok)
      wrong (Multiple n) e is at ok bad = false≢true (sym bad ∙ ok)

      at : (o : Option DirectoryEntry) → entry_with_tag r.tag es ≡ o → IsSomeAnd (option_map field_of o) (λ e. IsSomeAnd e.kind (λ kind. has_typing r.typing kind ≡ false) ⊎ IsMiscounted f k r.count e) → ⊥
      at None is bad = bad
      at (Some e) is (inl h) = false≢true (sym h ∙ typed r e (met_entry es r e met is))
      at (Some e) is (inr h) = wrong r.count e refl is (counted r e (met_entry es r e met is)) h
no_rule_fault f k es r has met right _ bad = bad
