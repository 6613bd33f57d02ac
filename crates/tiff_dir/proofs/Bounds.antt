-- The bounds that a walk keeps.
use Rattle.std.proofs.Common.{◌≡◌, ℕ, ◌<◌, ◌≤◌, None, refl, sym, arith}
use Rattle.std.proofs.lemmas.Option.{none-some}
use Rattle.tiff_dir.specs.declared.stage.Stage.{Stage}
use Rattle.tiff_dir.specs.declared.stage.Stage.TheVariants.{Header, ValueCount, Table, Bits, Formats, Ended}
use Rattle.tiff_dir.specs.declared.stage.WalkStep.{WalkStep}
use Rattle.tiff_dir.specs.Stage.{index_of, range_of, IsKept}
use Rattle.tiff_dir.specs.Shape.{IsNext}

pub kept_less : (stage : Stage) (m n : ℕ) → n ≤ m → IsKept stage m → IsKept stage n
kept_less Header m n le kept = omega arith
kept_less (ValueCount o k at) m n le kept = (kept.0, omega arith)
kept_less (Table o k at e) m n le kept = (kept.0, omega arith, kept.2)
kept_less (Bits p first formats) m n le kept = (kept.0, omega arith, kept.2)
kept_less (Formats p first bits) m n le kept = (kept.0, omega arith, kept.2, kept.3)
kept_less (Ended o k) m n le kept = (kept.0, kept.1, omega arith)

pub next_less : (stage : Stage) (step : WalkStep) (m n : ℕ) → n ≤ m → IsNext stage m step → IsNext stage n step
next_less stage step m n le next = record { kept = kept_less step.stage m n le next.kept; some = next.some; first = next.first }

pub few_given : (stage : Stage) (n : ℕ) → IsKept stage n → (range_of stage ≡ None → ⊥) → n ≤ 64
few_given Header n kept some = omega arith
few_given (ValueCount o k at) n kept some = omega (arith, kept.0, kept.1)
few_given (Table o k at e) n kept some = omega (arith, kept.0, kept.1)
few_given (Bits p first formats) n kept some = omega (arith, kept.0, kept.1)
few_given (Formats p first bits) n kept some = omega (arith, kept.0, kept.1)
few_given (Ended o k) n kept some = absurd (some refl)

-- a walk that has ended has a directory
pub ended_some : (stage : Stage) (n : ℕ) → IsKept stage n → range_of stage ≡ None → 0 < index_of stage
ended_some Header n kept is = absurd (none-some _ (sym is))
ended_some (ValueCount o k at) n kept is = absurd (none-some _ (sym is))
ended_some (Table o k at e) n kept is = absurd (none-some _ (sym is))
ended_some (Bits p first formats) n kept is = absurd (none-some _ (sym is))
ended_some (Formats p first bits) n kept is = absurd (none-some _ (sym is))
ended_some (Ended o k) n kept is = kept.0
