-- A part lies in its content.
use Rattle.std.proofs.Common.{◌≡◌, ℕ, ◌-◌, ◌≤◌, Bool, true, false, cond, List, Option, Some, None, refl, arith, min}
use Rattle.std.specs.Prelude.{nat_lt, ◌==◌}
use Rattle.std.proofs.Math.Dec.{ltb}
use Rattle.std.proofs.lemmas.Bool.{ltb-true, eqb-false}
use Rattle.http_range.specs.declared.range.RangeSpec.{RangeSpec}
use Rattle.http_range.specs.declared.range.RangeSpec.TheVariants.{Between, From, Suffix}
use Rattle.http_range.specs.declared.range.Resolved.{Resolved}
use Rattle.http_range.specs.declared.range.Resolved.TheVariants.{Part, Unsatisfiable}
use Rattle.http_range.specs.Range.{IsRangeText, resolved, resolved_or}
use Rattle.cog_server.specs.Place.{IsInside}

-- what a range text names is in order
abbrev IsOrdered : RangeSpec → Type 0
IsOrdered (Between a b) = a ≤ b
IsOrdered (From a) = Unit {0}
IsOrdered (Suffix n) = Unit {0}

ordered : (text : List ℕ) (spec : RangeSpec) → IsRangeText text spec → IsOrdered spec
ordered text (Between a b) is = is.5
ordered text (From a) is = tt
ordered text (Suffix n) is = tt

inside_if : (t : Bool) (part : Resolved) (len : ℕ) → (t ≡ true → IsInside part len) → IsInside (cond t part Unsatisfiable) len
inside_if true part len h = h refl
inside_if false part len h = tt

inside_unless : (t : Bool) (part : Resolved) (len : ℕ) → (t ≡ false → IsInside part len) → IsInside (cond t Unsatisfiable part) len
inside_unless true part len h = tt
inside_unless false part len h = h refl

resolved_inside : (spec : RangeSpec) (len : ℕ) → 1 ≤ len → IsOrdered spec → IsInside (resolved spec len) len
resolved_inside (Between a b) len some ordered =
    inside_if (nat_lt a len) (Part a (min b (len - 1))) len (λ test. let below = ltb-true a len test in (omega arith, omega arith))
resolved_inside (From a) len some ordered =
    inside_if (nat_lt a len) (Part a (len - 1)) len (λ test. let below = ltb-true a len test in (omega arith, omega arith))
resolved_inside (Suffix n) len some ordered =
    inside_unless (n == 0) (Part (len - n) (len - 1)) len (λ test. let other = eqb-false n 0 test in (omega arith, omega arith))

-- so is the part that a value names
pub value_inside : (text : List ℕ) (len : ℕ) (o : Option RangeSpec) → 1 ≤ len → ((spec : RangeSpec) → o ≡ Some spec → IsRangeText text spec)
    → IsInside (resolved_or o len) len
value_inside text len None some forms = tt
value_inside text len (Some spec) some forms = resolved_inside spec len some (ordered text spec (forms spec refl))
