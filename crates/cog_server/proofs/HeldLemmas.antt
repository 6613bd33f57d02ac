-- Bytes that are held.
use Rattle.std.proofs.Common.{◌≡◌, ℕ, ◌+◌, ◌≤◌, Bool, true, false, List, ◌++◌, length, sym, subst, arith, length-append}
use Rattle.std.specs.Prelude.{if◌then◌else◌}
use Rattle.std.proofs.lemmas.List.{take-append-le}
use Rattle.http_range.specs.Stream.{HasNoMessage, IsMessage}

-- what was gone through isn't changed by what follows
none_still : (old more : List ℕ) (n : ℕ) → n ≤ length old → HasNoMessage old n → HasNoMessage (old ++ more) n
none_still old more n within none k le one =
    let few : k ≤ length old = omega (arith, le, within) in none k le (subst IsMessage (take-append-le k old more few) one)

pub record IsHeld (bytes : List ℕ) (scanned : ℕ) : Type 0 where
  pub small : length bytes ≤ 8192
  pub searched : scanned ≤ length bytes
  pub none : HasNoMessage bytes scanned

-- where bytes were added, and where there was no memory for them
pub added : (ok : Bool) (old more new : List ℕ) (n : ℕ) → new ≡ (if ok then old ++ more else old) → length old + length more ≤ 8192
    → n ≤ length old → HasNoMessage old n → IsHeld new n
added true old more new n is few within none =
    subst (λ (xs : List ℕ). IsHeld xs n) (sym is) (record {
      small = omega (arith, few, length-append old more);
      searched = omega (arith, within, length-append old more);
      none = none_still old more n within none;
    })
added false old more new n is few within none =
    subst (λ (xs : List ℕ). IsHeld xs n) (sym is) (record { small = omega (arith, few); searched = within; none = none })
