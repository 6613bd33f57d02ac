use Rattle.std.proofs.Common.{◌≡◌, ℕ, Bool, true, false, cond, List, length, Some, None, refl, arith}
use Rattle.std.proofs.Math.Dec.{ltb}
use Rattle.std.proofs.lemmas.Bool.{ltb-false}
use Rattle.std.proofs.lemmas.List.Sums.{prefix_len-le-length}
use Rattle.std.specs.Prelude.{not}
use Rattle.std.specs.List.{position, position_or_len}
use Rattle.http_fields.proofs.bytes.place_of.Goals as goal

none_past : (p : ℕ → Bool) (xs : List ℕ) → None ≡ position p xs → length xs ≡ position_or_len p xs
none_past p xs is = by_test (ltb (position_or_len p xs) (length xs)) refl is
  where
    by_test : (t : Bool) → ltb (position_or_len p xs) (length xs) ≡ t
        → None ≡ cond t (Some (position_or_len p xs)) None → length xs ≡ position_or_len p xs
    by_test true test some = absurd (cc)
    by_test false test none = omega (arith, ltb-false _ _ test, prefix_len-le-length (λ x. not (p x)) xs)

pub returns-in-None : goal.returns-in-None
returns-in-None c = none_past _ c.args.text.now c.in-None.ensures
