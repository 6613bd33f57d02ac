-- Which list a number of an error is in.
use Rattle.std.proofs.Common.{◌≡◌, ℤ, List, true, sym}
use Rattle.std.specs.Prelude.{Contains}
use Rattle.std.specs.List.{list_any}
use Rattle.std.specs.Ordering.{int_eq}
use Rattle.std.proofs.lemmas.Bool.Decides.{Decides-int_eq}
use Rattle.std.proofs.lemmas.Map.Views.{Contains-from_any}

-- a number that is found is there
pub found : (number : ℤ) (numbers : List ℤ) → list_any (λ other. int_eq other number) numbers ≡ true → Contains numbers number
found number numbers = Contains-from_any {eq = λ n other. int_eq other n} (λ n other same. sym ((Decides-int_eq other n).0 same)) number numbers
