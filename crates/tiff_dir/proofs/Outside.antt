-- The values of BitsPerSample and SampleFormat, in their entries and outside.
use Rattle.tiff_dir.specs.declared.level.Compression.{Compression}
use Rattle.tiff_dir.specs.declared.tags.TheConstants.{BITS_PER_SAMPLE, PHOTOMETRIC_INTERPRETATION, SAMPLES_PER_PIXEL, SAMPLE_FORMAT}
use Rattle.std.proofs.Common.{IsErrAnd, ◌≡◌, ◌≢◌, ℕ, suc, ◌+◌, ◌*◌, ◌<◌, inl, inr, true, false, List, [], ◌∷◌, get_or, if◌then◌else◌, Option, Some, None, Result, Ok, Err, MatchResult, refl, sym, subst, ap, ◌∙◌, arith, lit<}
use Rattle.std.specs.Prelude.{nat_lt}
use Rattle.std.proofs.lemmas.Option.{same_Some, none-some}
use Rattle.std.proofs.lemmas.Bool.{eqb-true, ne_eqb}
use Rattle.std.specs.Option.{option_map, option_to_list}
use Rattle.std.specs.List.{AllPass}
use Rattle.tiff_dir.specs.declared.order.Order.{Order}
use Rattle.tiff_dir.specs.declared.table.DirectoryEntry.{DirectoryEntry}
use Rattle.tiff_dir.specs.declared.rule.Rule.{Rule}
use Rattle.tiff_dir.specs.declared.rule.Typing.TheVariants as typing
use Rattle.tiff_dir.specs.declared.stage.Draft.{Draft}
use Rattle.tiff_dir.specs.declared.stage.Pending.{Pending}
use Rattle.tiff_dir.specs.declared.stage.Stage.TheVariants as stages
use Rattle.tiff_dir.specs.declared.stage.WalkStep.{WalkStep}
use Rattle.tiff_dir.specs.declared.fault.FileFault.{FileFault}
use Rattle.tiff_dir.specs.File.{◌>>=◌, has_directory, values_at, value}
use Rattle.tiff_dir.specs.Profile.{subfile_rule, profile, is_depth, accepts}
use Rattle.tiff_dir.specs.Level.{is_level, place_of}
use Rattle.tiff_dir.specs.Needs.{extent_of_place, outside_range, outside_ranges}
use Rattle.tiff_dir.specs.Fault.{IsUnsupported, IsFaultOfLevel, IsFaultOfDirectories}
use Rattle.tiff_dir.specs.Table.{field_of, entry_with_tag, keeps, short_or, counts_samples, long_in, draft_in, HasValues, HasCounts, IsReadIn}
use Rattle.tiff_dir.specs.Stage.{HasTable, HasShorts, HasFormats, IsSupported, IsPending, StepsOn, EndsDirectory, ranges_from, three_shorts, still}
use Rattle.tiff_dir.proofs.Chain.{some_and_from}
use Rattle.tiff_dir.proofs.Fields.{field_told, value_told, kind_short, typed, met_entry, met_there, short_told, short_only, three_values}
use Rattle.tiff_dir.proofs.Levels.{fits_cases, count_is, supported_by, depth_supported}
use Rattle.tiff_dir.proofs.GoingOn.{steps_same, ends_on}

pub level_fault : (f : List ℕ) (k : ℕ) (fault : FileFault) → k < 16 → has_directory f k ≡ true → is_level f k ≡ true → IsFaultOfLevel f k fault → IsFaultOfDirectories f fault
unfolding IsFaultOfDirectories
level_fault f k fault few there level bad = inr (k, (few, there), inr (level, bad))

-- what is wrong, of an error that is passed on
pub err_told : {A E : Type 0} (r : Result A E) (e : E) (P : A → Type 0) (Q : E → Type 0) → IsErrAnd r (λ x. x ≡ e) → Q e → MatchResult r P Q
err_told (Ok x) e P Q is told = absurd is
err_told (Err x) e P Q is told = subst Q (sym is) told

pub then_also : {A E : Type 0} (P R : A → Type 0) (Q : E → Type 0) (r : Result A E) → MatchResult r P Q → ((x : A) → P x → R x) → MatchResult r R Q
then_also P R Q (Ok x) h more = more x h
then_also P R Q (Err e) h more = h

-- A field of SHORT

is_short : (es : List DirectoryEntry) (r : Rule) (e : DirectoryEntry) → keeps es r ≡ true → r.typing ≡ typing.Short → entry_with_tag r.tag es ≡ Some e → e.kind ≡ 3
is_short es r e met short is = kind_short r.typing e.kind short (typed r e (met_entry es r e met is))

is_counted : (es : List DirectoryEntry) (tag s : ℕ) (e : DirectoryEntry) → counts_samples es tag ≡ true → short_or es SAMPLES_PER_PIXEL 1 ≡ s → entry_with_tag tag es ≡ Some e → e.count ≡ s
is_counted es tag s e right samples is = eqb-true e.count (short_or es SAMPLES_PER_PIXEL 1) (count_is es tag e right is) ∙ samples

three_told : (f : List ℕ) (k : ℕ) (es : List DirectoryEntry) (r : Rule) (e : DirectoryEntry) → HasTable f k es → keeps es r ≡ true → r.typing ≡ typing.Short → e.count ≡ 3 → entry_with_tag r.tag es ≡ Some e → HasShorts f k r.tag e.long
three_told f k es r e has met short count is = λ i.
    value_told f k es r.tag i has ∙ rw is (three_values f e i (has.long r.tag e is) (is_short es r e met short is) count)

three_outside : (f : List ℕ) (k : ℕ) (es : List DirectoryEntry) (r : Rule) (e : DirectoryEntry) → HasTable f k es → keeps es r ≡ true → r.typing ≡ typing.Short → e.count ≡ 3 → entry_with_tag r.tag es ≡ Some e → outside_range f k r.tag ≡ Some (three_shorts e.long)
unfolding outside_range place_of values_at
three_outside f k es r e has met short count is =
    let kind = is_short es r e met short is in
    let long = has.long r.tag e is in
    rw (field_told f k es r.tag has) (rw is (rw (kind, count, long) refl))

one_inside : (f : List ℕ) (k : ℕ) (es : List DirectoryEntry) (r : Rule) → HasTable f k es → keeps es r ≡ true → r.typing ≡ typing.Short → ((e : DirectoryEntry) → entry_with_tag r.tag es ≡ Some e → e.count ≡ 1) → outside_range f k r.tag ≡ None
unfolding outside_range place_of values_at
one_inside f k es r has met short one = rw (field_told f k es r.tag has) (at (entry_with_tag r.tag es) refl) where
  at : (o : Option DirectoryEntry) → entry_with_tag r.tag es ≡ o → (option_map field_of o >>= place_of f >>= λ p. if nat_lt 4 p.len then Some (extent_of_place p) else None) ≡ None
  at None is = refl
  at (Some e) is = let kind = is_short es r e met short is in let count = one e is in rw (kind, count) refl

-- Three samples

pub bits_outside : (f : List ℕ) (k : ℕ) (es : List DirectoryEntry) (first : ℕ) → HasTable f k es → AllPass (keeps es) profile → HasCounts es → short_or es SAMPLES_PER_PIXEL 1 ≡ 3 → long_in es BITS_PER_SAMPLE ≡ Some first
    → HasShorts f k BITS_PER_SAMPLE first × (outside_range f k BITS_PER_SAMPLE ≡ Some (three_shorts first))
unfolding profile
bits_outside f k es first has met right samples told = at (entry_with_tag BITS_PER_SAMPLE es) refl told where
  at : (o : Option DirectoryEntry) → entry_with_tag BITS_PER_SAMPLE es ≡ o → option_map (λ e. e.long) o ≡ Some first → HasShorts f k BITS_PER_SAMPLE first × (outside_range f k BITS_PER_SAMPLE ≡ Some (three_shorts first))
  at None is e = absurd (none-some first e)
  at (Some x) is e =
      let ok = met 3 subfile_rule (lit< tt) in
      let count = is_counted es BITS_PER_SAMPLE 3 x right.0 samples is in
      let P : ℕ → Type 0 = λ n. HasShorts f k BITS_PER_SAMPLE n × (outside_range f k BITS_PER_SAMPLE ≡ Some (three_shorts n)) in
      subst P (same_Some _ _ e) (three_told f k es (get_or profile 3 subfile_rule) x has ok refl count is, three_outside f k es (get_or profile 3 subfile_rule) x has ok refl count is)

pub formats_outside : (f : List ℕ) (k : ℕ) (es : List DirectoryEntry) (formats : Option ℕ) → HasTable f k es → AllPass (keeps es) profile → HasCounts es → short_or es SAMPLES_PER_PIXEL 1 ≡ 3 → long_in es SAMPLE_FORMAT ≡ formats
    → HasFormats f k formats × (outside_range f k SAMPLE_FORMAT ≡ option_map three_shorts formats)
unfolding profile
formats_outside f k es formats has met right samples told =
    let P : Option ℕ → Type 0 = λ o. HasFormats f k o × (outside_range f k SAMPLE_FORMAT ≡ option_map three_shorts o) in
    subst P told (at (entry_with_tag SAMPLE_FORMAT es) refl) where
      at : (o : Option DirectoryEntry) → entry_with_tag SAMPLE_FORMAT es ≡ o → HasFormats f k (option_map (λ e. e.long) o) × (outside_range f k SAMPLE_FORMAT ≡ option_map three_shorts (option_map (λ e. e.long) o))
      at None is =
          let ok = met 12 subfile_rule (lit< tt) in
          let none : (e : DirectoryEntry) → entry_with_tag SAMPLE_FORMAT es ≡ Some e → e.count ≡ 1 = λ e there. absurd (none-some e (sym is ∙ there)) in
          let default : short_or es SAMPLE_FORMAT 1 ≡ 1 = rw is refl in (
            supported_by f k SAMPLE_FORMAT (λ e. absurd (omega arith)) (λ e. absurd (omega arith)) (λ e. absurd (omega arith))
                (λ i v here. rw (short_only f k es (get_or profile 12 subfile_rule) 1 has ok refl none (inl refl) i v here ∙ default) refl),
            one_inside f k es (get_or profile 12 subfile_rule) has ok refl none,
          )
      at (Some x) is =
          let ok = met 12 subfile_rule (lit< tt) in
          let count = is_counted es SAMPLE_FORMAT 3 x right.1 samples is in
          (three_told f k es (get_or profile 12 subfile_rule) x has ok refl count is, three_outside f k es (get_or profile 12 subfile_rule) x has ok refl count is)

-- the entry of BitsPerSample is there
pub bits_there : (es : List DirectoryEntry) → AllPass (keeps es) profile → long_in es BITS_PER_SAMPLE ≡ None → ⊥
unfolding profile
bits_there es met none = let (e, there) = met_there es (get_or profile 3 subfile_rule) (met 3 subfile_rule (lit< tt)) refl in
    none-some e.long (sym none ∙ rw there refl)

-- One sample

pub one_sample : (es : List DirectoryEntry) {c : Compression} → HasValues es c → short_or es SAMPLES_PER_PIXEL 1 ≢ 3 → short_or es SAMPLES_PER_PIXEL 1 ≡ 1
one_sample es right not = elim (fits_cases (short_or es SAMPLES_PER_PIXEL 1) (short_or es PHOTOMETRIC_INTERPRETATION 0) right.samples) [ inl one ↦ one | inr three ↦ absurd (not three) ]

pub bits_value : (f : List ℕ) (k : ℕ) (es : List DirectoryEntry) → HasTable f k es → AllPass (keeps es) profile → HasCounts es → short_or es SAMPLES_PER_PIXEL 1 ≡ 1 → value f k BITS_PER_SAMPLE 0 ≡ Some (short_or es BITS_PER_SAMPLE 0)
unfolding profile
bits_value f k es has met right samples =
    short_told f k es (get_or profile 3 subfile_rule) 0 has (met 3 subfile_rule (lit< tt)) refl (λ e is. is_counted es BITS_PER_SAMPLE 1 e right.0 samples is) (inr refl)

formats_value : (f : List ℕ) (k : ℕ) (es : List DirectoryEntry) → HasTable f k es → AllPass (keeps es) profile → HasCounts es → short_or es SAMPLES_PER_PIXEL 1 ≡ 1 → value f k SAMPLE_FORMAT 0 ≡ Some (short_or es SAMPLE_FORMAT 1)
unfolding profile
formats_value f k es has met right samples =
    short_told f k es (get_or profile 12 subfile_rule) 1 has (met 12 subfile_rule (lit< tt)) refl (λ e is. is_counted es SAMPLE_FORMAT 1 e right.1 samples is) (inl refl)

pub bits_unsupported : (f : List ℕ) (k : ℕ) (es : List DirectoryEntry) → HasTable f k es → AllPass (keeps es) profile → HasCounts es → short_or es SAMPLES_PER_PIXEL 1 ≡ 1 → is_depth (short_or es BITS_PER_SAMPLE 0) ≡ false → IsUnsupported f k BITS_PER_SAMPLE
bits_unsupported f k es has met right samples bad =
    inl (0, some_and_from (value f k BITS_PER_SAMPLE 0) (λ v. accepts BITS_PER_SAMPLE v ≡ false) (short_or es BITS_PER_SAMPLE 0) (bits_value f k es has met right samples) bad)

pub formats_unsupported : (f : List ℕ) (k : ℕ) (es : List DirectoryEntry) → HasTable f k es → AllPass (keeps es) profile → HasCounts es → short_or es SAMPLES_PER_PIXEL 1 ≡ 1 → short_or es SAMPLE_FORMAT 1 ≢ 1 → IsUnsupported f k SAMPLE_FORMAT
formats_unsupported f k es has met right samples bad =
    inl (0, some_and_from (value f k SAMPLE_FORMAT 0) (λ v. accepts SAMPLE_FORMAT v ≡ false) (short_or es SAMPLE_FORMAT 1) (formats_value f k es has met right samples) (ne_eqb (short_or es SAMPLE_FORMAT 1) 1 bad))

pub bits_inside : (f : List ℕ) (k : ℕ) (es : List DirectoryEntry) → HasTable f k es → AllPass (keeps es) profile → HasCounts es → short_or es SAMPLES_PER_PIXEL 1 ≡ 1 → is_depth (short_or es BITS_PER_SAMPLE 0) ≡ true
    → (value f k BITS_PER_SAMPLE 0 ≡ Some (short_or es BITS_PER_SAMPLE 0)) × IsSupported f k BITS_PER_SAMPLE × (outside_range f k BITS_PER_SAMPLE ≡ None)
unfolding profile
bits_inside f k es has met right samples good =
    let r : Rule = get_or profile 3 subfile_rule in
    let ok = met 3 subfile_rule (lit< tt) in
    let one : (e : DirectoryEntry) → entry_with_tag BITS_PER_SAMPLE es ≡ Some e → e.count ≡ 1 = λ e is. is_counted es BITS_PER_SAMPLE 1 e right.0 samples is in (
      bits_value f k es has met right samples,
      depth_supported f k (short_or es BITS_PER_SAMPLE 0) good (short_only f k es r 0 has ok refl one (inr refl)),
      one_inside f k es r has ok refl one,
    )

pub formats_inside : (f : List ℕ) (k : ℕ) (es : List DirectoryEntry) → HasTable f k es → AllPass (keeps es) profile → HasCounts es → short_or es SAMPLES_PER_PIXEL 1 ≡ 1 → short_or es SAMPLE_FORMAT 1 ≡ 1
    → IsSupported f k SAMPLE_FORMAT × (outside_range f k SAMPLE_FORMAT ≡ None)
unfolding profile
formats_inside f k es has met right samples good =
    let r : Rule = get_or profile 12 subfile_rule in
    let ok = met 12 subfile_rule (lit< tt) in
    let one : (e : DirectoryEntry) → entry_with_tag SAMPLE_FORMAT es ≡ Some e → e.count ≡ 1 = λ e is. is_counted es SAMPLE_FORMAT 1 e right.1 samples is in (
      supported_by f k SAMPLE_FORMAT (λ e. absurd (omega arith)) (λ e. absurd (omega arith)) (λ e. absurd (omega arith)) (λ i v here. rw (short_only f k es r 1 has ok refl one (inl refl) i v here ∙ good) refl),
      one_inside f k es r has ok refl one,
    )

-- What is needed besides the table

pub table_to_bits : (f : List ℕ) (o : Order) (k at n : ℕ) (p : Pending) (first : ℕ) (formats : Option ℕ) → p.index ≡ k → is_level f k ≡ true → IsPending f p
    → HasShorts f k BITS_PER_SAMPLE first × (outside_range f k BITS_PER_SAMPLE ≡ Some (three_shorts first)) → HasFormats f k formats × (outside_range f k SAMPLE_FORMAT ≡ option_map three_shorts formats)
    → StepsOn f (stages.Table o k at n) (record { stage = stages.Bits p first formats; level = None })
unfolding outside_ranges
table_to_bits f o k at n p first formats same level pending bits shorts =
    let outside : outside_ranges f k ≡ three_shorts first ∷ option_to_list (option_map three_shorts formats) = rw (level, bits.1, shorts.1) refl in
    let come : still f (stages.Table o k at n) ≡ record { first = at + 2; len = 12 * n + 4 } ∷ still f (stages.Bits p first formats) = rw (outside, same) refl in
    steps_same f (stages.Table o k at n) (stages.Bits p first formats) (record { first = at + 2; len = 12 * n + 4 })
    (pending, rw same bits.0, rw same shorts.0) same refl come

pub table_to_end : (f : List ℕ) (o : Order) (k at n : ℕ) (step : WalkStep) → is_level f k ≡ true → outside_range f k BITS_PER_SAMPLE ≡ None → outside_range f k SAMPLE_FORMAT ≡ None → EndsDirectory f k step → StepsOn f (stages.Table o k at n) step
unfolding outside_ranges
table_to_end f o k at n step level bits formats ends =
    let none : outside_ranges f k ≡ [] = rw (level, bits, formats) refl in
    let come : still f (stages.Table o k at n) ≡ record { first = at + 2; len = 12 * n + 4 } ∷ ranges_from f (suc k) = rw none refl in
    ends_on f (stages.Table o k at n) k (record { first = at + 2; len = 12 * n + 4 }) step refl refl come ends

pub draft_samples : (es : List DirectoryEntry) (d : Draft) → IsReadIn es d → d.samples ≡ short_or es SAMPLES_PER_PIXEL 1
unfolding draft_in
draft_samples es d read = ap (λ (x : Draft). x.samples) read.draft
