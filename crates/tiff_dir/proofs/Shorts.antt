-- Three values of two bytes that stand outside their entry.
use Rattle.tiff_dir.specs.declared.tags.TheConstants.{BITS_PER_SAMPLE, SAMPLE_FORMAT}
use Rattle.std.proofs.Common.{◌≡◌, ℕ, zero, suc, ◌*◌, ◌<◌, ◌≤◌, inl, inr, Bool, true, false, ◌&&◌, ◌==◌, if◌then◌else◌, List, length, Option, Some, None, IsSomeAnd, refl, sym, subst, ap, ◌∙◌, arith}
use Rattle.std.proofs.lemmas.Option.{same_Some, none-some}
use Rattle.std.proofs.lemmas.Bool.{and_parts, and_cases, eqb-true, lt-ltb, le-ltb}
use Rattle.tiff_dir.specs.declared.order.Order.{Order}
use Rattle.tiff_dir.specs.declared.stage.Pending.{Pending}
use Rattle.tiff_dir.specs.declared.stage.Stage.TheVariants as stages
use Rattle.tiff_dir.specs.declared.stage.WalkStep.{WalkStep}
use Rattle.tiff_dir.specs.Number.{number_in}
use Rattle.tiff_dir.specs.File.{order_of, value}
use Rattle.tiff_dir.specs.Fault.{IsUnsupported}
use Rattle.tiff_dir.specs.Profile.{is_depth, accepts}
use Rattle.extents.specs.Extent.{bytes_in}
use Rattle.tiff_dir.specs.Stage.{all_are, depth_in, three_shorts, HasShorts, HasBits, IsPending, IsSupported, StepsOn, EndsDirectory}
use Rattle.tiff_dir.proofs.Chain.{some_and_from}
use Rattle.tiff_dir.proofs.Parts.{number_part}
use Rattle.tiff_dir.proofs.Levels.{supported_by, depth_supported, some_and_cases}
use Rattle.tiff_dir.proofs.GoingOn.{steps_same, ends_on}

short_is : (f bytes : List ℕ) (o : Order) (k tag first i : ℕ) → order_of f ≡ Some o → HasShorts f k tag first → bytes ≡ bytes_in f (three_shorts first) → length bytes ≡ 6 → i < 3 → value f k tag i ≡ Some (number_in o (i * 2) 2 bytes)
short_is f bytes o k tag first i named shorts part len few =
    let test = lt-ltb i 3 few in
    shorts i ∙ rw test (number_part f bytes o first 6 (i * 2) 2 named part len (omega arith) (omega arith))

no_more : (f : List ℕ) (k tag first i v : ℕ) → HasShorts f k tag first → 3 ≤ i → value f k tag i ≡ Some v → ⊥
no_more f k tag first i v shorts past told =
    let test = le-ltb i 3 past in
    none-some v (sym (shorts i ∙ rw test refl) ∙ told)

all_same : (f bytes : List ℕ) (o : Order) (k tag first w : ℕ) → order_of f ≡ Some o → HasShorts f k tag first → bytes ≡ bytes_in f (three_shorts first) → length bytes ≡ 6 → all_are o bytes w ≡ true
    → (i v : ℕ) → value f k tag i ≡ Some v → v ≡ w
all_same f bytes o k tag first w named shorts part len all zero v told =
    same_Some _ _ (sym told ∙ short_is f bytes o k tag first 0 named shorts part len (omega arith)) ∙ eqb-true _ w (and_parts (number_in o 0 2 bytes == w) _ all).0
all_same f bytes o k tag first w named shorts part len all (suc zero) v told =
    let rest = (and_parts (number_in o 0 2 bytes == w) ((number_in o 2 2 bytes == w) && (number_in o 4 2 bytes == w)) all).1 in
    same_Some _ _ (sym told ∙ short_is f bytes o k tag first 1 named shorts part len (omega arith)) ∙ eqb-true _ w (and_parts (number_in o 2 2 bytes == w) (number_in o 4 2 bytes == w) rest).0
all_same f bytes o k tag first w named shorts part len all (suc (suc zero)) v told =
    let rest = (and_parts (number_in o 0 2 bytes == w) ((number_in o 2 2 bytes == w) && (number_in o 4 2 bytes == w)) all).1 in
    same_Some _ _ (sym told ∙ short_is f bytes o k tag first 2 named shorts part len (omega arith)) ∙ eqb-true _ w (and_parts (number_in o 2 2 bytes == w) (number_in o 4 2 bytes == w) rest).1
all_same f bytes o k tag first w named shorts part len all (suc (suc (suc i))) v told = absurd (no_more f k tag first (suc (suc (suc i))) v shorts (omega arith) told)

one_other : (f bytes : List ℕ) (o : Order) (k tag first w : ℕ) → order_of f ≡ Some o → HasShorts f k tag first → bytes ≡ bytes_in f (three_shorts first) → length bytes ≡ 6 → all_are o bytes w ≡ false
    → (i : ℕ) × IsSomeAnd (value f k tag i) (λ v. (v == w) ≡ false)
one_other f bytes o k tag first w named shorts part len bad =
    elim (and_cases (number_in o 0 2 bytes == w) ((number_in o 2 2 bytes == w) && (number_in o 4 2 bytes == w)) bad) [
      | inl h ↦ (0, some_and_from (value f k tag 0) (λ v. (v == w) ≡ false) _ (short_is f bytes o k tag first 0 named shorts part len (omega arith)) h)
      | inr rest ↦ elim (and_cases (number_in o 2 2 bytes == w) (number_in o 4 2 bytes == w) rest) [
        | inl h ↦ (1, some_and_from (value f k tag 1) (λ v. (v == w) ≡ false) _ (short_is f bytes o k tag first 1 named shorts part len (omega arith)) h)
        | inr h ↦ (2, some_and_from (value f k tag 2) (λ v. (v == w) ≡ false) _ (short_is f bytes o k tag first 2 named shorts part len (omega arith)) h)
      ]
    ]

-- BitsPerSample

bits_right : (f bytes : List ℕ) (o : Order) (k first bits : ℕ) → order_of f ≡ Some o → HasShorts f k BITS_PER_SAMPLE first → bytes ≡ bytes_in f (three_shorts first) → length bytes ≡ 6 → is_depth bits ≡ true → all_are o bytes bits ≡ true → HasBits f k (Some bits)
bits_right f bytes o k first bits named shorts part len good all = (
  short_is f bytes o k BITS_PER_SAMPLE first 0 named shorts part len (omega arith) ∙ ap Some (eqb-true _ bits (and_parts (number_in o 0 2 bytes == bits) _ all).0),
  good,
  depth_supported f k bits good (all_same f bytes o k BITS_PER_SAMPLE first bits named shorts part len all),
)

bits_wrong : (f bytes : List ℕ) (o : Order) (k first : ℕ) → order_of f ≡ Some o → HasShorts f k BITS_PER_SAMPLE first → bytes ≡ bytes_in f (three_shorts first) → length bytes ≡ 6
    → (is_depth (number_in o 0 2 bytes) && all_are o bytes (number_in o 0 2 bytes)) ≡ false → HasBits f k None
bits_wrong f bytes o k first named shorts part len bad =
    let bits = number_in o 0 2 bytes in
    let told = short_is f bytes o k BITS_PER_SAMPLE first 0 named shorts part len (omega arith) in
    elim (and_cases (is_depth bits) (all_are o bytes bits) bad) [
      | inl h ↦ inl (0, some_and_from (value f k BITS_PER_SAMPLE 0) (λ v. accepts BITS_PER_SAMPLE v ≡ false) bits told h)
      | inr h ↦
          (let (i, other) = one_other f bytes o k BITS_PER_SAMPLE first bits named shorts part len h in
          let (v, there, differ) = some_and_cases (value f k BITS_PER_SAMPLE i) (λ v. (v == bits) ≡ false) other in
          let misfit = some_and_from (value f k BITS_PER_SAMPLE i) (λ x. IsSomeAnd (value f k BITS_PER_SAMPLE 0) (λ y. (x == y) ≡ false)) v there
          (some_and_from (value f k BITS_PER_SAMPLE 0) (λ y. (v == y) ≡ false) bits told differ) in
          inr (inr (inr (refl, (i, 0, misfit)))))
    ]

pub has_bits : (f bytes : List ℕ) (o : Order) (k first : ℕ) → order_of f ≡ Some o → HasShorts f k BITS_PER_SAMPLE first → bytes ≡ bytes_in f (three_shorts first) → length bytes ≡ 6 → HasBits f k (depth_in o bytes)
has_bits f bytes o k first named shorts part len = at (is_depth (number_in o 0 2 bytes) && all_are o bytes (number_in o 0 2 bytes)) refl where
  at : (b : Bool) → (is_depth (number_in o 0 2 bytes) && all_are o bytes (number_in o 0 2 bytes)) ≡ b → HasBits f k (if b then Some (number_in o 0 2 bytes) else None)
  at true good =
      let h = and_parts (is_depth (number_in o 0 2 bytes)) (all_are o bytes (number_in o 0 2 bytes)) good in
      bits_right f bytes o k first (number_in o 0 2 bytes) named shorts part len h.0 h.1
  at false bad = bits_wrong f bytes o k first named shorts part len bad

pub bits_at : (f : List ℕ) (k : ℕ) (o : Option ℕ) (bits : ℕ) → o ≡ Some bits → HasBits f k o → HasBits f k (Some bits)
bits_at f k o bits is has = let P : Option ℕ → Type 0 = λ x. HasBits f k x in subst P is has

pub bits_none : (f : List ℕ) (k : ℕ) (o : Option ℕ) → o ≡ None → HasBits f k o → IsUnsupported f k BITS_PER_SAMPLE
bits_none f k o is has = let P : Option ℕ → Type 0 = λ x. HasBits f k x in subst P is has

-- SampleFormat

pub formats_wrong : (f bytes : List ℕ) (o : Order) (k first : ℕ) → order_of f ≡ Some o → HasShorts f k SAMPLE_FORMAT first → bytes ≡ bytes_in f (three_shorts first) → length bytes ≡ 6 → all_are o bytes 1 ≡ false → IsUnsupported f k SAMPLE_FORMAT
formats_wrong f bytes o k first named shorts part len bad = inl (one_other f bytes o k SAMPLE_FORMAT first 1 named shorts part len bad)

pub formats_right : (f bytes : List ℕ) (o : Order) (k first : ℕ) → order_of f ≡ Some o → HasShorts f k SAMPLE_FORMAT first → bytes ≡ bytes_in f (three_shorts first) → length bytes ≡ 6 → all_are o bytes 1 ≡ true → IsSupported f k SAMPLE_FORMAT
formats_right f bytes o k first named shorts part len all =
    supported_by f k SAMPLE_FORMAT (λ e. absurd (omega arith)) (λ e. absurd (omega arith)) (λ e. absurd (omega arith)) (λ i v told. rw (all_same f bytes o k SAMPLE_FORMAT first 1 named shorts part len all i v told) refl)

-- Going on

pub bits_to_formats : (f : List ℕ) (p : Pending) (first next : ℕ) (b : Option ℕ) → IsPending f p → HasShorts f p.index SAMPLE_FORMAT next → HasBits f p.index b
    → StepsOn f (stages.Bits p first (Some next)) (record { stage = stages.Formats p next b; level = None })
bits_to_formats f p first next b pending shorts bits =
    steps_same f (stages.Bits p first (Some next)) (stages.Formats p next b) (three_shorts first) (pending, shorts, bits) refl refl refl

pub bits_to_end : (f : List ℕ) (p : Pending) (first : ℕ) (step : WalkStep) → EndsDirectory f p.index step → StepsOn f (stages.Bits p first None) step
bits_to_end f p first step ends = ends_on f (stages.Bits p first None) p.index (three_shorts first) step refl refl refl ends

pub formats_to_end : (f : List ℕ) (p : Pending) (first : ℕ) (b : Option ℕ) (step : WalkStep) → EndsDirectory f p.index step → StepsOn f (stages.Formats p first b) step
formats_to_end f p first b step ends = ends_on f (stages.Formats p first b) p.index (three_shorts first) step refl refl refl ends
