-- What the entries of the geo fields tell of the file.
use Rattle.std.proofs.Common.{◌≡◌, ℕ, zero, suc, ◌+◌, ◌*◌, ◌<◌, ◌^◌, ◌⊎◌, inl, inr, ◌%◌, ◌&&◌, ◌==◌, Bool, true, false, not, if◌then◌else◌, List, length, get_or, Option, Some, None, Ok, Err, IsSomeAnd, IfSome, refl, sym, subst, ap, ◌∙◌, arith, lit<}
use Rattle.std.specs.Prelude.{nat_lt, nat_le}
use Rattle.std.specs.Option.{option_map}
use Rattle.std.proofs.lemmas.Bool.{and_parts, ltb-true, ltb-false, eqb-true, le-leb, false≢true}
use Rattle.std.proofs.lemmas.Bool.Decides.{nat_tests}
use Rattle.std.proofs.lemmas.List.{get_or_default}
use Rattle.std.proofs.Math.Nat.{mul-pos}
use Rattle.tiff_dir.specs.declared.order.Order.{Order}
use Rattle.tiff_dir.specs.declared.table.DirectoryEntry.{DirectoryEntry}
use Rattle.tiff_dir.specs.declared.geo.GeoEntries.{GeoEntries}
use Rattle.tiff_dir.specs.declared.geo.GeoPlaces.{GeoPlaces}
use Rattle.tiff_dir.specs.declared.rule.Rule.{Rule}
use Rattle.tiff_dir.specs.declared.rule.ValueCount.TheVariants.{Samples}
use Rattle.tiff_dir.specs.declared.level.Place.{Place}
use Rattle.tiff_dir.specs.declared.level.Kind.{Kind}
use Rattle.tiff_dir.specs.declared.level.Kind.TheVariants as kinds
use Rattle.tiff_dir.specs.declared.stage.Stage.{Stage}
use Rattle.tiff_dir.specs.declared.stage.Stage.TheVariants.{Table}
use Rattle.tiff_dir.specs.declared.fault.FileFault.{FileFault}
use Rattle.tiff_dir.specs.declared.fault.FileFault.TheVariants.{FieldType, TooLarge}
use Rattle.tiff_dir.specs.File.{◌>>=◌, size_of}
use Rattle.tiff_dir.specs.declared.limits.TheConstants.{MAX_GEO_BYTES}
use Rattle.tiff_dir.specs.Profile.{subfile_rule, geo_profile, geo_rule, has_typing, is_multiple}
use Rattle.tiff_dir.specs.Level.{place_of}
use Rattle.tiff_dir.specs.Geo.{geo_place, IsGeoFault}
use Rattle.tiff_dir.specs.Fault.{IsRuleFault}
use Rattle.tiff_dir.specs.GeoEntries.{geo_in, place_by, ArePlacesBy, IsFaultBy}
use Rattle.tiff_dir.specs.WalkState.{HasGeo}
use Rattle.extents.specs.Extent.{bytes_in}
use Rattle.tiff_dir.specs.Stage.{range_of, AgreesAt, HasTable}
use Rattle.tiff_dir.specs.Table.{allows, counts_one, entries_from, field_of, entry_with_tag, kind_in, len_of, keeps, place_in}
use Rattle.tiff_dir.specs.Walk.{AreGeoPlaces, IsGeoFieldAt, IsGeoPlace}
use Rattle.tiff_dir.proofs.Chain.{some_and_at, some_and_from}
use Rattle.tiff_dir.proofs.Fields.{IsKind, has_table, field_told, kind_is, typed, rule_fault, no_rule_fault}
use Rattle.tiff_dir.proofs.Levels.{place_entry}

pub geo_taken : (f bytes : List ℕ) (stage : Stage) (o : Order) (k at n : ℕ) (g : GeoEntries) → stage ≡ Table o k at n → k ≡ 0 → g ≡ geo_in (entries_from o (at + 2) 0 n bytes) → length bytes ≡ 12 * n + 4
    → AgreesAt f stage → IfSome (range_of stage) (λ r. bytes ≡ bytes_in f r) → HasGeo f g
geo_taken f bytes stage o k at n g is first are len here part =
    let P : Stage → Type 0 = λ s. AgreesAt f s in
    let Q : Stage → Type 0 = λ s. IfSome (range_of s) (λ r. bytes ≡ bytes_in f r) in
    let R : ℕ → Type 0 = λ x. HasTable f x (entries_from o (at + 2) 0 n bytes) in
    record { entries = entries_from o (at + 2) 0 n bytes; told = subst R first (has_table f bytes o k at n (subst P is here, subst Q is part) len); are = are }

-- ---- one field

-- what a place that is found tells of its entry
record IsPlaced (r : Rule) (e : DirectoryEntry) (p : Option Place) : Type 0 where
  allowed : allows r e ≡ true
  short : nat_lt MAX_GEO_BYTES (len_of e) ≡ false
  place : p ≡ Some (place_in e)

placed : (r : Rule) (e : DirectoryEntry) (p : Option Place) → place_by r (Some e) ≡ Ok p → IsPlaced r e p
placed r e p is = at (allows r e) refl (nat_lt MAX_GEO_BYTES (len_of e)) refl is where
  at : (a : Bool) → allows r e ≡ a → (b : Bool) → nat_lt MAX_GEO_BYTES (len_of e) ≡ b → (if not a then Err (FieldType r.tag) else if b then Err TooLarge else Ok (Some (place_in e))) ≡ Ok p → IsPlaced r e p
  at true yes_allowed false fits same = record { allowed = yes_allowed; short = fits; place = cc }
  at true yes_allowed true long same = absurd (cc)
  at false wrong b is_b same = absurd (cc)

-- and what a fault tells
refused : (r : Rule) (e : DirectoryEntry) (fault : FileFault) → place_by r (Some e) ≡ Err fault
    → ((allows r e ≡ false) × (fault ≡ FieldType r.tag)) ⊎ ((allows r e ≡ true) × (nat_lt MAX_GEO_BYTES (len_of e) ≡ true) × (fault ≡ TooLarge))
refused r e fault is = at (allows r e) refl (nat_lt MAX_GEO_BYTES (len_of e)) refl is where
  at : (a : Bool) → allows r e ≡ a → (b : Bool) → nat_lt MAX_GEO_BYTES (len_of e) ≡ b → (if not a then Err (FieldType r.tag) else if b then Err TooLarge else Ok (Some (place_in e))) ≡ Err fault
      → ((allows r e ≡ false) × (fault ≡ FieldType r.tag)) ⊎ ((allows r e ≡ true) × (nat_lt MAX_GEO_BYTES (len_of e) ≡ true) × (fault ≡ TooLarge))
  at true yes_allowed false fits same = absurd (cc)
  at true yes_allowed true long same = inr (yes_allowed, long, cc)
  at false wrong b is_b same = inl (wrong, cc)

entry_kind : (r : Rule) (e : DirectoryEntry) → allows r e ≡ true → IsKind e.kind
entry_kind r e ok = kind_is r.typing e.kind (typed r e ok)

-- the place of a field that is there, and of none
geo_at : (f : List ℕ) (es : List DirectoryEntry) (r : Rule) (e : DirectoryEntry) → HasTable f 0 es → entry_with_tag r.tag es ≡ Some e → allows r e ≡ true → geo_place f r.tag ≡ Some (place_in e)
unfolding geo_place
geo_at f es r e has there ok =
    ap (λ o. o >>= place_of f) (field_told f 0 es r.tag has ∙ ap (option_map field_of) there) ∙ place_entry f e (has.long r.tag e there) (entry_kind r e ok)

no_place : (f : List ℕ) (es : List DirectoryEntry) (r : Rule) → HasTable f 0 es → entry_with_tag r.tag es ≡ None → geo_place f r.tag ≡ None
unfolding geo_place
no_place f es r has there = ap (λ o. o >>= place_of f) (field_told f 0 es r.tag has ∙ ap (option_map field_of) there)

place_told : (f : List ℕ) (es : List DirectoryEntry) (r : Rule) (p : Option Place) → HasTable f 0 es → place_by r (entry_with_tag r.tag es) ≡ Ok p → IsGeoFieldAt f r.tag p
unfolding geo_place
place_told f es r p has is = at (entry_with_tag r.tag es) refl is where
  at : (o : Option DirectoryEntry) → entry_with_tag r.tag es ≡ o → place_by r o ≡ Ok p → IsGeoFieldAt f r.tag p
  at None there is =
      let none : None ≡ p = cc in
      subst (IsGeoFieldAt f r.tag) none (field_told f 0 es r.tag has ∙ ap (option_map field_of) there)
  at (Some e) there is =
      let h = placed r e p is in
      subst (IsGeoFieldAt f r.tag) (sym h.place) (geo_at f es r e has there h.allowed)

met : (es : List DirectoryEntry) (r : Rule) (p : Option Place) → r.required ≡ false → place_by r (entry_with_tag r.tag es) ≡ Ok p → keeps es r ≡ true
met es r p optional is = at (entry_with_tag r.tag es) refl is where
  at : (o : Option DirectoryEntry) → entry_with_tag r.tag es ≡ o → place_by r o ≡ Ok p → keeps es r ≡ true
  at None there is = rw (there, optional) refl
  at (Some e) there is = rw there (placed r e p is).allowed

-- the rule's field has more bytes than a geo field may have
abbrev IsLargeField : List ℕ → Rule → Type 0
IsLargeField f rule = IsSomeAnd (geo_place f rule.tag) (λ p. nat_le p.len MAX_GEO_BYTES ≡ false)

not_large : (f : List ℕ) (es : List DirectoryEntry) (r : Rule) (p : Option Place) → HasTable f 0 es → place_by r (entry_with_tag r.tag es) ≡ Ok p → IsLargeField f r → ⊥
not_large f es r p has is bad = at (entry_with_tag r.tag es) refl is where
  at : (o : Option DirectoryEntry) → entry_with_tag r.tag es ≡ o → place_by r o ≡ Ok p → ⊥
  at None there is = (rw (no_place f es r has there) at bad)
  at (Some e) there is =
      let h = placed r e p is in
      let long : nat_le (len_of e) MAX_GEO_BYTES ≡ false = some_and_at (geo_place f r.tag) (λ (q : Place). nat_le q.len MAX_GEO_BYTES ≡ false) (place_in e) (geo_at f es r e has there h.allowed) bad in
      let fits : nat_le (len_of e) MAX_GEO_BYTES ≡ true = le-leb (len_of e) MAX_GEO_BYTES (ltb-false MAX_GEO_BYTES (len_of e) h.short) in
      false≢true (sym long ∙ fits)

-- ---- all of them

record IsGood (es : List DirectoryEntry) (r : Rule) : Type 0 where
  place : Option Place
  is : place_by r (entry_with_tag r.tag es) ≡ Ok place
  optional : r.required ≡ false
  counts : r.count ≡ Samples → ⊥

all_good : (es : List DirectoryEntry) (p : GeoPlaces) → ArePlacesBy (geo_in es) p → (j : ℕ) (d : Rule) → j < length geo_profile → IsGood es (get_or geo_profile j d)
all_good es p are zero d inside = record { place = p.directory; is = are.directory; optional = refl; counts = λ same. cc }
all_good es p are (suc zero) d inside = record { place = p.doubles; is = are.doubles; optional = refl; counts = λ same. cc }
all_good es p are (suc (suc zero)) d inside = record { place = p.ascii; is = are.ascii; optional = refl; counts = λ same. cc }
all_good es p are (suc (suc (suc zero))) d inside = record { place = p.scale; is = are.scale; optional = refl; counts = λ same. cc }
all_good es p are (suc (suc (suc (suc zero)))) d inside = record { place = p.tiepoints; is = are.tiepoints; optional = refl; counts = λ same. cc }
all_good es p are (suc (suc (suc (suc (suc zero))))) d inside = record { place = p.transformation; is = are.transformation; optional = refl; counts = λ same. cc }
all_good es p are (suc (suc (suc (suc (suc (suc j)))))) d inside = absurd (omega arith)

sound : (f : List ℕ) (es : List DirectoryEntry) (p : GeoPlaces) → HasTable f 0 es → ArePlacesBy (geo_in es) p → (fault : FileFault) → IsGeoFault f fault → ⊥
sound f es p has are (FieldType tag) (j, r, inside, is, bad) =
    let P : Rule → Type 0 = λ x. IsGood es x in
    let good : IsGood es r = subst P is (all_good es p are j r inside) in
    no_rule_fault f 0 es r has (met es r good.place good.optional good.is) (λ counts. absurd (good.counts counts)) (FieldType tag) bad
sound f es p has are TooLarge (j, r, inside, is, bad) =
    let P : Rule → Type 0 = λ x. IsGood es x in
    let good : IsGood es r = subst P is (all_good es p are j r inside) in
    not_large f es r good.place has good.is bad
sound f es p has are _ bad = absurd bad

pub places_told : (f : List ℕ) (g : GeoEntries) (p : GeoPlaces) → HasGeo f g → ArePlacesBy g p → AreGeoPlaces f p
places_told f g p has by =
    let P : GeoEntries → Type 0 = λ x. ArePlacesBy x p in
    let are : ArePlacesBy (geo_in has.entries) p = subst P has.are by in
    record {
      whole = has.told.whole;
      directory = place_told f has.entries (geo_rule 0) p.directory has.told are.directory;
      doubles = place_told f has.entries (geo_rule 1) p.doubles has.told are.doubles;
      ascii = place_told f has.entries (geo_rule 2) p.ascii has.told are.ascii;
      scale = place_told f has.entries (geo_rule 3) p.scale has.told are.scale;
      tiepoints = place_told f has.entries (geo_rule 4) p.tiepoints has.told are.tiepoints;
      transformation = place_told f has.entries (geo_rule 5) p.transformation has.told are.transformation;
      sound = sound f has.entries p has.told are;
    }

-- ---- what is wrong

fault_at : (f : List ℕ) (es : List DirectoryEntry) (j : ℕ) (fault : FileFault) → j < length geo_profile → HasTable f 0 es → place_by (geo_rule j) (entry_with_tag (geo_rule j).tag es) ≡ Err fault → IsGeoFault f fault
fault_at f es j fault inside has is = at (entry_with_tag (geo_rule j).tag es) refl is where
  wrong : (e : DirectoryEntry) → entry_with_tag (geo_rule j).tag es ≡ Some e → allows (geo_rule j) e ≡ false → IsRuleFault f 0 (geo_rule j) (FieldType (geo_rule j).tag)
  wrong e there bad = rule_fault f 0 es (geo_rule j) (FieldType (geo_rule j).tag) has (refl, some_and_from (entry_with_tag (geo_rule j).tag es) (λ x. allows (geo_rule j) x ≡ false) e there bad)

  large : (e : DirectoryEntry) → entry_with_tag (geo_rule j).tag es ≡ Some e → allows (geo_rule j) e ≡ true → nat_lt MAX_GEO_BYTES (len_of e) ≡ true → IsLargeField f (geo_rule j)
  large e there ok long =
      let past : nat_le (len_of e) MAX_GEO_BYTES ≡ false = (let h = ltb-true MAX_GEO_BYTES (len_of e) long in grind (arith, nat_tests)) in
      some_and_from (geo_place f (geo_rule j).tag) (λ (q : Place). nat_le q.len MAX_GEO_BYTES ≡ false) (place_in e) (geo_at f es (geo_rule j) e has there ok) past

  at : (o : Option DirectoryEntry) → entry_with_tag (geo_rule j).tag es ≡ o → place_by (geo_rule j) o ≡ Err fault → IsGeoFault f fault
  at None there is = absurd (cc)
  at (Some e) there is = elim (refused (geo_rule j) e fault is) [
    | inl h ↦ subst (IsGeoFault f) (sym h.1) (j, geo_rule j, inside, get_or_default geo_profile j _ subfile_rule inside, wrong e there h.0)
    | inr h ↦ subst (IsGeoFault f) (sym h.2) (j, geo_rule j, inside, get_or_default geo_profile j _ subfile_rule inside, large e there h.0 h.1)
  ]

pub fault_told : (f : List ℕ) (g : GeoEntries) (fault : FileFault) → HasGeo f g → IsFaultBy g fault → IsGeoFault f fault
fault_told f g fault has by = at (let P : GeoEntries → Type 0 = λ x. IsFaultBy x fault in subst P has.are by) where
  es : List DirectoryEntry
  es = has.entries

  at : IsFaultBy (geo_in es) fault → IsGeoFault f fault
  at (inl is) = fault_at f es 0 fault (lit< tt) has.told is
  at (inr (inl is)) = fault_at f es 1 fault (lit< tt) has.told is
  at (inr (inr (inl is))) = fault_at f es 2 fault (lit< tt) has.told is
  at (inr (inr (inr (inl is)))) = fault_at f es 3 fault (lit< tt) has.told is
  at (inr (inr (inr (inr (inl is))))) = fault_at f es 4 fault (lit< tt) has.told is
  at (inr (inr (inr (inr (inr is))))) = fault_at f es 5 fault (lit< tt) has.told is

-- ---- the places themselves

size_some : (n : ℕ) → IsKind n → 0 < size_of (kind_in n)
size_some n (inl e) = rw e (omega arith)
size_some n (inr (inl e)) = rw e (omega arith)
size_some n (inr (inr (inl e))) = rw e (omega arith)
size_some n (inr (inr (inr e))) = rw e (omega arith)

pub typed_by : (r : Rule) (k : Kind) (o : Option DirectoryEntry) (p : Option Place) → ((n : ℕ) → has_typing r.typing n ≡ true → kind_in n ≡ k) → ((n : ℕ) → counts_one r.count n ≡ true → 0 < n)
    → place_by r o ≡ Ok p → IfSome p (λ x. x.first < 2 ^ 33) → IsGeoPlace k p
typed_by r k None p kind some is near = let P : Option Place → Type 0 = λ x. IsGeoPlace k x in let none : None ≡ p = cc in subst P none tt
typed_by r k (Some e) p kind some is near =
    let h = placed r e p is in
    let parts = and_parts (has_typing r.typing e.kind) (counts_one r.count e.count) h.allowed in
    let P : Option Place → Type 0 = λ x. IsGeoPlace k x in
    let Q : Option Place → Type 0 = λ x. IfSome x (λ y. y.first < 2 ^ 33) in
    let first : (place_in e).first < 2 ^ 33 = subst Q h.place near in
    let len : 0 < len_of e = mul-pos (some e.count parts.1) (size_some e.kind (entry_kind r e h.allowed)) in
    let size : len_of e ≡ e.count * size_of k = ap (λ x. e.count * size_of x) (kind e.kind parts.0) in
    subst P (sym h.place) (kind e.kind parts.0, size, len, ltb-false MAX_GEO_BYTES (len_of e) h.short, first)

pub is_double : (n : ℕ) → (n == 12) ≡ true → kind_in n ≡ kinds.Double
is_double n is = let e = eqb-true n 12 is in rw e refl

pub is_ascii : (n : ℕ) → (n == 2) ≡ true → kind_in n ≡ kinds.Ascii
is_ascii n is = let e = eqb-true n 2 is in rw e refl

pub is_short : (n : ℕ) → (n == 3) ≡ true → kind_in n ≡ kinds.Short
is_short n is = let e = eqb-true n 3 is in rw e refl

pub some_of : (m n : ℕ) → is_multiple m n ≡ true → 0 < n
some_of m n is = ltb-true 0 n (and_parts (nat_lt 0 n) (n % m == 0) (and_parts (nat_lt 0 m) (nat_lt 0 n && (n % m == 0)) is).1).0

pub some_exactly : (m n : ℕ) → 0 < m → (n == m) ≡ true → 0 < n
some_exactly m n some is = let e = eqb-true n m is in omega arith
