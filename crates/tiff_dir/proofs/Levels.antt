-- What the entries of a level tell of it.
use Rattle.tiff_dir.specs.declared.field_values.TheConstants.{COMPRESSION_NONE, COMPRESSION_PACKBITS}
use Rattle.tiff_dir.specs.declared.tags.TheConstants.{BITS_PER_SAMPLE, COMPRESSION, PHOTOMETRIC_INTERPRETATION, PLANAR_CONFIGURATION, SAMPLES_PER_PIXEL, SAMPLE_FORMAT}
use Rattle.std.proofs.Common.{◌≡◌, ◌≢◌, ℕ, zero, suc, ◌+◌, ◌*◌, ◌<◌, ◌⊎◌, inl, inr, true, false, ◌&&◌, ◌==◌, nat_le, List, length, get_or, Option, Some, None, IsSomeAnd, refl, sym, subst, ◌∙◌, arith, lit<}
use Rattle.std.proofs.lemmas.List.{get_or_default}
use Rattle.std.proofs.lemmas.Option.{none-some}
use Rattle.std.proofs.lemmas.Bool.{and_parts, or_cases, eq-eqb, eqb-true, ne_eqb, cases_Bool, cases_eq, false≢true}
use Rattle.std.specs.Option.{option_map_or}
use Rattle.std.specs.List.{AllPass, Any}
use Rattle.tiff_dir.specs.declared.order.Order.{Order}
use Rattle.tiff_dir.specs.declared.table.DirectoryEntry.{DirectoryEntry}
use Rattle.tiff_dir.specs.declared.rule.Rule.{Rule}
use Rattle.tiff_dir.specs.declared.rule.ValueCount.TheVariants.{Samples}
use Rattle.tiff_dir.specs.declared.level.Kind.{Kind}
use Rattle.tiff_dir.specs.declared.level.Kind.TheVariants as kinds
use Rattle.tiff_dir.specs.declared.level.Compression.{Compression}
use Rattle.tiff_dir.specs.declared.level.Compression.TheVariants.{Plain, Packed}
use Rattle.tiff_dir.specs.declared.level.Codec.TheVariants.{PackBits}
use Rattle.tiff_dir.specs.declared.stage.Draft.{Draft}
use Rattle.tiff_dir.specs.declared.fault.FileFault.{FileFault}
use Rattle.tiff_dir.specs.declared.fault.FileFault.TheVariants.{Missing, FieldType, Unsupported}
use Rattle.tiff_dir.specs.Number.{number_in}
use Rattle.tiff_dir.specs.File.{◌>>=◌, kind_of, size_of, number, field, values_at, value}
use Rattle.tiff_dir.specs.Profile.{subfile_rule, profile, has_typing, is_depth, accepts, samples_fit, planes_fit}
use Rattle.tiff_dir.specs.Level.{is_level, place_of, compression_of}
use Rattle.tiff_dir.specs.Fault.{IsMiscounted, IsRuleFault, IsUnsupported, IsMisfit, IsFaultOfDirectory, IsFaultOfLevel}
use Rattle.tiff_dir.specs.Table.{field_of, entry_with_tag, keeps, IsFaultOfEntries, short_or, counts_samples, kind_in, place_in, place_or, draft_in, HasValues, IsValueFault, HasCounts, IsCountFault, IsReadIn, IsReadFault}
use Rattle.tiff_dir.specs.Stage.{HasTable, IsTableOf, IsDrafted, IsPending}
use Rattle.tiff_dir.proofs.Chain.{some_and_at, some_and_from, next_is}
use Rattle.tiff_dir.proofs.Fields.{IsKind, field_told, kind_is, typed, met_entry, met_there, single_told, short_told, short_only, one_counted, rule_fault, no_rule_fault}

-- rule j of the profile
rule : ℕ → Rule
rule j = get_or profile j subfile_rule

Met : List DirectoryEntry → Type 0
Met es = AllPass (keeps es) profile

pub some_and_cases : {A : Type 0} (o : Option A) (P : A → Type 0) → IsSomeAnd o P → (x : A) × (o ≡ Some x) × P x
some_and_cases None P bad = absurd bad
some_and_cases (Some x) P p = (x, refl, p)

-- The values in the entries

photometric_told : (f : List ℕ) (k : ℕ) (es : List DirectoryEntry) → HasTable f k es → AllPass (keeps es) profile → value f k PHOTOMETRIC_INTERPRETATION 0 ≡ Some (short_or es PHOTOMETRIC_INTERPRETATION 0)
unfolding profile
photometric_told f k es has met =
    let r : Rule = get_or profile 5 subfile_rule in let ok = met 5 subfile_rule (lit< tt) in short_told f k es r 0 has ok refl (one_counted es r ok refl) (inr refl)

pub samples_told : (f : List ℕ) (k : ℕ) (es : List DirectoryEntry) → HasTable f k es → AllPass (keeps es) profile → value f k SAMPLES_PER_PIXEL 0 ≡ Some (short_or es SAMPLES_PER_PIXEL 1)
unfolding profile
samples_told f k es has met =
    let r : Rule = get_or profile 6 subfile_rule in let ok = met 6 subfile_rule (lit< tt) in short_told f k es r 1 has ok refl (one_counted es r ok refl) (inl refl)

planar_told : (f : List ℕ) (k : ℕ) (es : List DirectoryEntry) → HasTable f k es → AllPass (keeps es) profile → value f k PLANAR_CONFIGURATION 0 ≡ Some (short_or es PLANAR_CONFIGURATION 1)
unfolding profile
planar_told f k es has met =
    let r : Rule = get_or profile 7 subfile_rule in let ok = met 7 subfile_rule (lit< tt) in short_told f k es r 1 has ok refl (one_counted es r ok refl) (inl refl)

compression_told : (f : List ℕ) (k : ℕ) (es : List DirectoryEntry) → HasTable f k es → AllPass (keeps es) profile → value f k COMPRESSION 0 ≡ Some (short_or es COMPRESSION 0)
unfolding profile
compression_told f k es has met =
    let r : Rule = get_or profile 4 subfile_rule in let ok = met 4 subfile_rule (lit< tt) in short_told f k es r 0 has ok refl (one_counted es r ok refl) (inr refl)

-- The faults of the fields

pub profile_fault : (f : List ℕ) (k : ℕ) (es : List DirectoryEntry) (fault : FileFault) → HasTable f k es → IsFaultOfEntries profile es fault → IsFaultOfLevel f k fault
profile_fault f k es (Missing tag) has (j, d, inside, bad) = (j, get_or profile j d, inside, get_or_default profile j _ d inside, rule_fault f k es (get_or profile j d) (Missing tag) has bad)
profile_fault f k es (FieldType tag) has (j, d, inside, bad) = (j, get_or profile j d, inside, get_or_default profile j _ d inside, rule_fault f k es (get_or profile j d) (FieldType tag) has bad)
profile_fault f k es _ has (j, d, inside, bad) = absurd bad

pub value_fault : (f : List ℕ) (k : ℕ) (es : List DirectoryEntry) (fault : FileFault) → HasTable f k es → AllPass (keeps es) profile → IsValueFault es fault → IsFaultOfLevel f k fault
value_fault f k es fault has met (inl (is, bad)) =
    let here : IsFaultOfLevel f k (Unsupported PHOTOMETRIC_INTERPRETATION) = inl (0, some_and_from (value f k PHOTOMETRIC_INTERPRETATION 0) (λ v. accepts PHOTOMETRIC_INTERPRETATION v ≡ false) _ (photometric_told f k es has met) bad) in
    subst (IsFaultOfLevel f k) (sym is) here
value_fault f k es fault has met (inr (inl (is, bad))) =
    let misfit : IsMisfit samples_fit (value f k SAMPLES_PER_PIXEL 0) (value f k PHOTOMETRIC_INTERPRETATION 0) =
    some_and_from (value f k SAMPLES_PER_PIXEL 0) (λ x. IsSomeAnd (value f k PHOTOMETRIC_INTERPRETATION 0) (λ y. samples_fit x y ≡ false)) _ (samples_told f k es has met)
    (some_and_from (value f k PHOTOMETRIC_INTERPRETATION 0) (λ y. samples_fit (short_or es SAMPLES_PER_PIXEL 1) y ≡ false) _ (photometric_told f k es has met) bad) in
    let here : IsFaultOfLevel f k (Unsupported SAMPLES_PER_PIXEL) = inr (inl (refl, misfit)) in
    subst (IsFaultOfLevel f k) (sym is) here
value_fault f k es fault has met (inr (inr (inl (is, bad)))) =
    let misfit : IsMisfit planes_fit (value f k PLANAR_CONFIGURATION 0) (value f k SAMPLES_PER_PIXEL 0) =
    some_and_from (value f k PLANAR_CONFIGURATION 0) (λ x. IsSomeAnd (value f k SAMPLES_PER_PIXEL 0) (λ y. planes_fit x y ≡ false)) _ (planar_told f k es has met)
    (some_and_from (value f k SAMPLES_PER_PIXEL 0) (λ y. planes_fit (short_or es PLANAR_CONFIGURATION 1) y ≡ false) _ (samples_told f k es has met) bad) in
    let here : IsFaultOfLevel f k (Unsupported PLANAR_CONFIGURATION) = inr (inr (inl (refl, misfit))) in
    subst (IsFaultOfLevel f k) (sym is) here
value_fault f k es fault has met (inr (inr (inr (is, bad)))) =
    let here : IsFaultOfLevel f k (Unsupported COMPRESSION) = inl (0, some_and_from (value f k COMPRESSION 0) (λ v. accepts COMPRESSION v ≡ false) _ (compression_told f k es has met) bad) in
    subst (IsFaultOfLevel f k) (sym is) here

-- a field that has another number of values than a pixel has samples
miscounted : (f : List ℕ) (k : ℕ) (es : List DirectoryEntry) (r : Rule) → HasTable f k es → AllPass (keeps es) profile → r.count ≡ Samples → counts_samples es r.tag ≡ false → IsRuleFault f k r (FieldType r.tag)
miscounted f k es r has met counts bad = (refl, at (entry_with_tag r.tag es) refl bad) where
  at : (o : Option DirectoryEntry) → entry_with_tag r.tag es ≡ o → option_map_or (λ e. e.count == short_or es SAMPLES_PER_PIXEL 1) o true ≡ false → IsSomeAnd (field f k r.tag) (λ e. IsSomeAnd e.kind (λ kind. has_typing r.typing kind ≡ false) ⊎ IsMiscounted f k r.count e)
  at None is bad = absurd (false≢true (sym bad))
  at (Some e) is bad =
      let wrong : IsMiscounted f k Samples (field_of e) = some_and_from (value f k SAMPLES_PER_PIXEL 0) (λ s. (e.count == s) ≡ false) _ (samples_told f k es has met) bad in
      some_and_from (field f k r.tag) (λ x. IsSomeAnd x.kind (λ kind. has_typing r.typing kind ≡ false) ⊎ IsMiscounted f k r.count x) (field_of e) (field_told f k es r.tag has ∙ rw is refl) (inr (rw counts wrong))

pub count_fault : (f : List ℕ) (k : ℕ) (es : List DirectoryEntry) (fault : FileFault) → HasTable f k es → AllPass (keeps es) profile → IsCountFault es fault → IsFaultOfLevel f k fault
unfolding profile
count_fault f k es fault has met (inl (is, bad)) =
    let here : IsFaultOfLevel f k (FieldType BITS_PER_SAMPLE) = (3, get_or profile 3 subfile_rule, lit< tt, refl, miscounted f k es (get_or profile 3 subfile_rule) has met refl bad) in
    subst (IsFaultOfLevel f k) (sym is) here
count_fault f k es fault has met (inr (is, bad)) =
    let here : IsFaultOfLevel f k (FieldType SAMPLE_FORMAT) = (12, get_or profile 12 subfile_rule, lit< tt, refl, miscounted f k es (get_or profile 12 subfile_rule) has met refl bad) in
    subst (IsFaultOfLevel f k) (sym is) here

pub read_fault : (f : List ℕ) (k : ℕ) (es : List DirectoryEntry) (fault : FileFault) → HasTable f k es → IsReadFault es fault → IsFaultOfLevel f k fault
read_fault f k es fault has (inl bad) = profile_fault f k es fault has bad
read_fault f k es fault has (inr (met, inl bad)) = value_fault f k es fault has met bad
read_fault f k es fault has (inr (met, inr bad)) = count_fault f k es fault has met bad.1

-- a rule that counts samples is one of these two
profile_counts : (es : List DirectoryEntry) → HasCounts es → (j : ℕ) (d : Rule) → j < length profile → (get_or profile j d).count ≡ Samples → counts_samples es (get_or profile j d).tag ≡ true
unfolding profile
profile_counts es right zero d inside is = absurd (cc)
profile_counts es right (suc zero) d inside is = absurd (cc)
profile_counts es right (suc (suc zero)) d inside is = absurd (cc)
profile_counts es right (suc (suc (suc zero))) d inside is = right.0
profile_counts es right (suc (suc (suc (suc zero)))) d inside is = absurd (cc)
profile_counts es right (suc (suc (suc (suc (suc zero))))) d inside is = absurd (cc)
profile_counts es right (suc (suc (suc (suc (suc (suc zero)))))) d inside is = absurd (cc)
profile_counts es right (suc (suc (suc (suc (suc (suc (suc zero))))))) d inside is = absurd (cc)
profile_counts es right (suc (suc (suc (suc (suc (suc (suc (suc zero)))))))) d inside is = absurd (cc)
profile_counts es right (suc (suc (suc (suc (suc (suc (suc (suc (suc zero))))))))) d inside is = absurd (cc)
profile_counts es right (suc (suc (suc (suc (suc (suc (suc (suc (suc (suc zero)))))))))) d inside is = absurd (cc)
profile_counts es right (suc (suc (suc (suc (suc (suc (suc (suc (suc (suc (suc zero))))))))))) d inside is = absurd (cc)
profile_counts es right (suc (suc (suc (suc (suc (suc (suc (suc (suc (suc (suc (suc zero)))))))))))) d inside is = right.1
profile_counts es right (suc (suc (suc (suc (suc (suc (suc (suc (suc (suc (suc (suc (suc j))))))))))))) d inside is = absurd (omega arith)

pub count_is : (es : List DirectoryEntry) (tag : ℕ) (e : DirectoryEntry) → counts_samples es tag ≡ true → entry_with_tag tag es ≡ Some e → (e.count == short_or es SAMPLES_PER_PIXEL 1) ≡ true
count_is es tag e right is = rw is at right

-- no field is missing or has another type or count
pub no_field_fault : (f : List ℕ) (k : ℕ) (es : List DirectoryEntry) → HasTable f k es → AllPass (keeps es) profile → HasCounts es → (fault : FileFault) → Any (λ r. IsRuleFault f k r fault) profile → ⊥
no_field_fault f k es has met right fault (j, r, inside, is, bad) =
    no_rule_fault f k es (get_or profile j r) has (met j r inside)
    (λ counts e there. (short_or es SAMPLES_PER_PIXEL 1, samples_told f k es has met, count_is es (get_or profile j r).tag e (profile_counts es right j r inside counts) there))
    fault (let P : Rule → Type 0 = λ x. IsRuleFault f k x fault in subst P (sym is) bad)

-- The values of a level whose fields are right

pub fits_cases : (s p : ℕ) → samples_fit s p ≡ true → (s ≡ 1) ⊎ (s ≡ 3)
fits_cases s p ok = elim (or_cases (s == 1 && p == 1) (s == 3 && p == 2) ok) [
  | inl one ↦ inl (eqb-true s 1 (and_parts (s == 1) (p == 1) one).0)
  | inr three ↦ inr (eqb-true s 3 (and_parts (s == 3) (p == 2) three).0)
]

planes_cases : (v s : ℕ) → planes_fit v s ≡ true → (v ≡ 1) ⊎ (v ≡ 2)
planes_cases v s ok = elim (or_cases (v == 1) (v == 2 && s == 1) ok) [
  | inl one ↦ inl (eqb-true v 1 one)
  | inr two ↦ inr (eqb-true v 2 (and_parts (v == 2) (s == 1) two).0)
]

accepts-samples : (s p : ℕ) → samples_fit s p ≡ true → accepts SAMPLES_PER_PIXEL s ≡ true
accepts-samples s p ok = elim (fits_cases s p ok) [ inl e ↦ rw e refl | inr e ↦ rw e refl ]

accepts-planar : (v s : ℕ) → planes_fit v s ≡ true → accepts PLANAR_CONFIGURATION v ≡ true
accepts-planar v s ok = elim (planes_cases v s ok) [ inl e ↦ rw e refl | inr e ↦ rw e refl ]

-- a tag that the profile doesn't restrict
accepts-other : (tag v : ℕ) → tag ≢ BITS_PER_SAMPLE → tag ≢ COMPRESSION → tag ≢ PHOTOMETRIC_INTERPRETATION → tag ≢ SAMPLES_PER_PIXEL → tag ≢ PLANAR_CONFIGURATION → tag ≢ SAMPLE_FORMAT → accepts tag v ≡ true
accepts-other tag v n1 n2 n3 n4 n5 n6 =
    rw (ne_eqb tag BITS_PER_SAMPLE n1, ne_eqb tag COMPRESSION n2, ne_eqb tag PHOTOMETRIC_INTERPRETATION n3, ne_eqb tag SAMPLES_PER_PIXEL n4, ne_eqb tag PLANAR_CONFIGURATION n5, ne_eqb tag SAMPLE_FORMAT n6) refl

-- no value of the field is outside the profile
AllAccepted : List ℕ → ℕ → ℕ → Type 0
AllAccepted f k tag = (i v : ℕ) → value f k tag i ≡ Some v → accepts tag v ≡ true

all_accepted : (f : List ℕ) (k : ℕ) (tag w : ℕ) → accepts tag w ≡ true → ((i v : ℕ) → value f k tag i ≡ Some v → v ≡ w) → AllAccepted f k tag
unfolding AllAccepted
all_accepted f k tag w ok only = λ i v told. rw (only i v told) ok

accepted_here : (f : List ℕ) (k tag : ℕ) → AllAccepted f k tag → ((i : ℕ) × IsSomeAnd (value f k tag i) (λ v. accepts tag v ≡ false)) → ⊥
unfolding AllAccepted
accepted_here f k tag all (i, bad) = let (v, told, wrong) = some_and_cases _ _ bad in false≢true (sym wrong ∙ all i v told)

-- a number that the profile accepts names a compression
pub compression_named : (v : ℕ) → accepts COMPRESSION v ≡ true → (c : Compression) × (compression_of v ≡ Some c)
compression_named v ok = elim (or_cases (v == COMPRESSION_NONE) (v == COMPRESSION_PACKBITS) ok) [
  | inl none ↦ (Plain, rw (eqb-true v COMPRESSION_NONE none) refl)
  | inr packed ↦ (Packed PackBits, rw (eqb-true v COMPRESSION_PACKBITS packed) refl)
]

-- and no other one does
named_accepted : (v : ℕ) (c : Compression) → compression_of v ≡ Some c → accepts COMPRESSION v ≡ true
named_accepted v c is = elim (cases_Bool (v == COMPRESSION_NONE)) [
  | inl none ↦ rw none refl
  | inr other ↦ elim (cases_Bool (v == COMPRESSION_PACKBITS)) [
    | inl packed ↦ rw (other, packed) refl
    | inr none ↦ (let wrong : None ≡ Some c = (rw (other, none) at is) in absurd (none-some c wrong))
  ]
]

compression_accepted : (f : List ℕ) (k : ℕ) (es : List DirectoryEntry) {c : Compression} → HasTable f k es → AllPass (keeps es) profile → HasValues es c → AllAccepted f k COMPRESSION
unfolding profile
compression_accepted f k es has met right = let r : Rule = get_or profile 4 subfile_rule in let ok = met 4 subfile_rule (lit< tt) in
    all_accepted f k COMPRESSION (short_or es COMPRESSION 0) (named_accepted (short_or es COMPRESSION 0) _ right.compression) (short_only f k es r 0 has ok refl (one_counted es r ok refl) (inr refl))

photometric_accepted : (f : List ℕ) (k : ℕ) (es : List DirectoryEntry) {c : Compression} → HasTable f k es → AllPass (keeps es) profile → HasValues es c → AllAccepted f k PHOTOMETRIC_INTERPRETATION
unfolding profile
photometric_accepted f k es has met right = let r : Rule = get_or profile 5 subfile_rule in let ok = met 5 subfile_rule (lit< tt) in
    all_accepted f k PHOTOMETRIC_INTERPRETATION (short_or es PHOTOMETRIC_INTERPRETATION 0) right.photometric (short_only f k es r 0 has ok refl (one_counted es r ok refl) (inr refl))

samples_accepted : (f : List ℕ) (k : ℕ) (es : List DirectoryEntry) {c : Compression} → HasTable f k es → AllPass (keeps es) profile → HasValues es c → AllAccepted f k SAMPLES_PER_PIXEL
unfolding profile
samples_accepted f k es has met right = let r : Rule = get_or profile 6 subfile_rule in let ok = met 6 subfile_rule (lit< tt) in
    all_accepted f k SAMPLES_PER_PIXEL (short_or es SAMPLES_PER_PIXEL 1) (accepts-samples (short_or es SAMPLES_PER_PIXEL 1) (short_or es PHOTOMETRIC_INTERPRETATION 0) right.samples) (short_only f k es r 1 has ok refl (one_counted es r ok refl) (inl refl))

planar_accepted : (f : List ℕ) (k : ℕ) (es : List DirectoryEntry) {c : Compression} → HasTable f k es → AllPass (keeps es) profile → HasValues es c → AllAccepted f k PLANAR_CONFIGURATION
unfolding profile
planar_accepted f k es has met right = let r : Rule = get_or profile 7 subfile_rule in let ok = met 7 subfile_rule (lit< tt) in
    all_accepted f k PLANAR_CONFIGURATION (short_or es PLANAR_CONFIGURATION 1) (accepts-planar (short_or es PLANAR_CONFIGURATION 1) (short_or es SAMPLES_PER_PIXEL 1) right.planar) (short_only f k es r 1 has ok refl (one_counted es r ok refl) (inl refl))

-- but for 258 and 339 each value is one that the profile accepts
tag_accepted : (f : List ℕ) (k : ℕ) (es : List DirectoryEntry) {c : Compression} → HasTable f k es → AllPass (keeps es) profile → HasValues es c → (tag : ℕ) → tag ≢ BITS_PER_SAMPLE → tag ≢ SAMPLE_FORMAT → AllAccepted f k tag
unfolding AllAccepted
tag_accepted f k es has met right tag n1 n6 = λ i v told. elim (cases_eq tag COMPRESSION) [
  | inl e ↦ at COMPRESSION e (compression_accepted f k es has met right) i v told
  | inr n2 ↦ elim (cases_eq tag PHOTOMETRIC_INTERPRETATION) [
    | inl e ↦ at PHOTOMETRIC_INTERPRETATION e (photometric_accepted f k es has met right) i v told
    | inr n3 ↦ elim (cases_eq tag SAMPLES_PER_PIXEL) [
      | inl e ↦ at SAMPLES_PER_PIXEL e (samples_accepted f k es has met right) i v told
      | inr n4 ↦ elim (cases_eq tag PLANAR_CONFIGURATION) [
        | inl e ↦ at PLANAR_CONFIGURATION e (planar_accepted f k es has met right) i v told
        | inr n5 ↦ accepts-other tag v n1 n2 n3 n4 n5 n6
      ]
    ]
  ]
] where
  at : (t : ℕ) → tag ≡ t → AllAccepted f k t → AllAccepted f k tag
  at t e all = let P : ℕ → Type 0 = λ x. AllAccepted f k x in subst P (sym e) all

pub supported : (f : List ℕ) (k : ℕ) (es : List DirectoryEntry) {c : Compression} → HasTable f k es → AllPass (keeps es) profile → HasValues es c → (tag : ℕ) → tag ≢ BITS_PER_SAMPLE → tag ≢ SAMPLE_FORMAT → IsUnsupported f k tag → ⊥
supported f k es has met right tag n1 n6 (inl bad) = accepted_here f k tag (tag_accepted f k es has met right tag n1 n6) bad
supported f k es has met right tag n1 n6 (inr (inl bad)) =
    let one = some_and_at (value f k SAMPLES_PER_PIXEL 0) (λ x. IsSomeAnd (value f k PHOTOMETRIC_INTERPRETATION 0) (λ y. samples_fit x y ≡ false)) _ (samples_told f k es has met) bad.1 in
    let two = some_and_at (value f k PHOTOMETRIC_INTERPRETATION 0) (λ y. samples_fit (short_or es SAMPLES_PER_PIXEL 1) y ≡ false) _ (photometric_told f k es has met) one in
    false≢true (sym two ∙ right.samples)
supported f k es has met right tag n1 n6 (inr (inr (inr bad))) = n1 bad.0
supported f k es has met right tag n1 n6 (inr (inr (inl bad))) =
    let one = some_and_at (value f k PLANAR_CONFIGURATION 0) (λ x. IsSomeAnd (value f k SAMPLES_PER_PIXEL 0) (λ y. planes_fit x y ≡ false)) _ (planar_told f k es has met) bad.1 in
    let two = some_and_at (value f k SAMPLES_PER_PIXEL 0) (λ y. planes_fit (short_or es PLANAR_CONFIGURATION 1) y ≡ false) _ (samples_told f k es has met) one in
    false≢true (sym two ∙ right.planar)

-- 339 has no conditions besides
pub supported_by : (f : List ℕ) (k tag : ℕ) → tag ≢ BITS_PER_SAMPLE → tag ≢ SAMPLES_PER_PIXEL → tag ≢ PLANAR_CONFIGURATION → ((i v : ℕ) → value f k tag i ≡ Some v → accepts tag v ≡ true) → IsUnsupported f k tag → ⊥
unfolding AllAccepted
supported_by f k tag n1 n4 n5 all (inl bad) = accepted_here f k tag all bad
supported_by f k tag n1 n4 n5 all (inr (inl bad)) = n4 bad.0
supported_by f k tag n1 n4 n5 all (inr (inr (inl bad))) = n5 bad.0
supported_by f k tag n1 n4 n5 all (inr (inr (inr bad))) = n1 bad.0

-- BitsPerSample is one depth
pub depth_supported : (f : List ℕ) (k bits : ℕ) → is_depth bits ≡ true → ((i v : ℕ) → value f k BITS_PER_SAMPLE i ≡ Some v → v ≡ bits) → IsUnsupported f k BITS_PER_SAMPLE → ⊥
unfolding AllAccepted
depth_supported f k bits good only (inl bad) = accepted_here f k BITS_PER_SAMPLE (λ i v told. rw (only i v told) good) bad
depth_supported f k bits good only (inr (inl bad)) = absurd (omega (arith, bad.0))
depth_supported f k bits good only (inr (inr (inl bad))) = absurd (omega (arith, bad.0))
depth_supported f k bits good only (inr (inr (inr (other, (i, j, bad))))) =
    let (a, a_told, more) = some_and_cases (value f k BITS_PER_SAMPLE i) _ bad in
    let (b, b_told, differ) = some_and_cases (value f k BITS_PER_SAMPLE j) _ more in
    false≢true (sym differ ∙ eq-eqb a b (only i a a_told ∙ sym (only j b b_told)))

-- The draft

place_with : (f : List ℕ) (e : DirectoryEntry) (k : Kind) → kind_of e.kind ≡ Some k → kind_in e.kind ≡ k → number f (e.place + 8) 4 ≡ Some e.long → place_of f (field_of e) ≡ Some (place_in e)
unfolding place_of values_at
place_with f e k is same long = elim (cases_Bool (nat_le (e.count * size_of k) 4)) [
  | inl small ↦ rw (is, same, small) refl
  | inr large ↦ rw (is, same, large, long) refl
]

pub place_entry : (f : List ℕ) (e : DirectoryEntry) → number f (e.place + 8) 4 ≡ Some e.long → IsKind e.kind → place_of f (field_of e) ≡ Some (place_in e)
place_entry f e long (inl kind) = place_with f e kinds.Short (rw kind refl) (rw kind refl) long
place_entry f e long (inr (inl kind)) = place_with f e kinds.Long (rw kind refl) (rw kind refl) long
place_entry f e long (inr (inr (inl kind))) = place_with f e kinds.Ascii (rw kind refl) (rw kind refl) long
place_entry f e long (inr (inr (inr kind))) = place_with f e kinds.Double (rw kind refl) (rw kind refl) long

place_told : (f : List ℕ) (k : ℕ) (es : List DirectoryEntry) (r : Rule) → HasTable f k es → keeps es r ≡ true → r.required ≡ true → (field f k r.tag >>= place_of f) ≡ Some (place_or es r.tag)
place_told f k es r has met required =
    let (e, there) = met_there es r met required in
    let kind = kind_is r.typing e.kind (typed r e (met_entry es r e met there)) in
    rw (field_told f k es r.tag has) (rw there (place_entry f e (has.long r.tag e there) kind))

pub drafted : (f : List ℕ) (k : ℕ) (es : List DirectoryEntry) {c : Compression} → HasTable f k es → AllPass (keeps es) profile → HasValues es c → IsDrafted f k (draft_in es c)
unfolding draft_in profile
drafted f k es has met right =
    let d : Rule = subfile_rule in
    let rule : ℕ → Rule = λ n. get_or profile n d in
    record {
      width = single_told f k es (rule 1) 0 has (met 1 d (lit< tt)) tt refl (inr refl);
      length = single_told f k es (rule 2) 0 has (met 2 d (lit< tt)) tt refl (inr refl);
      tile_width = single_told f k es (rule 8) 0 has (met 8 d (lit< tt)) tt refl (inr refl);
      tile_length = single_told f k es (rule 9) 0 has (met 9 d (lit< tt)) tt refl (inr refl);
      samples = samples_told f k es has met;
      compression = rw (compression_told f k es has met) right.compression;
      offsets = place_told f k es (rule 10) has (met 10 d (lit< tt)) refl;
      counts = place_told f k es (rule 11) has (met 11 d (lit< tt)) refl;
    }

pub pending_is : (f bytes : List ℕ) (o : Order) (k at n : ℕ) (es : List DirectoryEntry) (d : Draft) → IsTableOf f o k at n bytes → length bytes ≡ 12 * n + 4 → HasTable f k es → IsReadIn es d → is_level f k ≡ true
    → ((fault : FileFault) → IsFaultOfDirectory f k fault → ⊥) → IsPending f (record { order = o; index = k; next = number_in o (12 * n) 4 bytes; draft = d })
pending_is f bytes o k at n es d (counts, part) len has read level sound = record {
  walked = counts.reaches.walked;
  few = counts.reaches.few;
  there = has.there;
  next = next_is f bytes o k at n counts part len;
  level = level;
  sound = sound;
  whole = λ tag bad. no_field_fault f k es has read.met read.counts (Missing tag) bad;
  typed = λ tag bad. no_field_fault f k es has read.met read.counts (FieldType tag) bad;
  supported = supported f k es has read.met read.values;
  drafted = (let P : Draft → Type 0 = λ x. IsDrafted f k x in subst P (sym read.draft) (drafted f k es has read.met read.values));
}
