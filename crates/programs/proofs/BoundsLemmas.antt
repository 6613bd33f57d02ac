-- Numbers of words that may be infinite.
use Rattle.std.proofs.Common.{◌≡◌, ◌∙◌, ℕ, Bool, true, false, if◌then◌else◌, List, None, Some, ap}
use Rattle.std.specs.Float.{float_is_finite}
use Rattle.std.specs.Float.Ieee.{Float, binary64}
use Rattle.std.specs.Float.Parse.{parse_float}
use Rattle.programs.specs.Bounds.{coordinate, finite}

-- a finite number is one
pub finite_is : (word : List ℕ) (x : Float) → parse_float binary64 word ≡ Some x → float_is_finite x ≡ true → coordinate word ≡ Some x
finite_is word x parsed is = ap finite parsed ∙ ap (λ (b : Bool). if b then Some x else None) is

-- another one isn't, and neither is a word that has none
pub infinite_is : (word : List ℕ) (x : Float) → parse_float binary64 word ≡ Some x → float_is_finite x ≡ false → coordinate word ≡ None
infinite_is word x parsed is = ap finite parsed ∙ ap (λ (b : Bool). if b then Some x else None) is

pub none_is : (word : List ℕ) → parse_float binary64 word ≡ None → coordinate word ≡ None
none_is word parsed = ap finite parsed
