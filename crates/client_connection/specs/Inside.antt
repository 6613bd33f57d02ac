-- How the code keeps a client's end of its connections.
use Rattle.std.specs.Prelude.{◌≡◌, ◌<◌, ◌≤◌, Bool, List, ℕ, true, false, Option, None, length, map}
use Rattle.std.specs.Global.{Vec}
use Rattle.http_fields.specs.declared.limits.TheConstants.{HEAD_LIMIT}
use Rattle.client_connection.specs.Answers.{IsUndecided}

abbrev pub texts : List (Vec ℕ) → List (List ℕ)
texts = map (λ t. t.items)

-- Without a connection no body is under way. With one, the bytes of a head that isn't whole have no answer so far, and there is room for
-- more.
pub record IsSound (is_open : Bool) (head : List ℕ) (left : Option ℕ) : Type 0 where
  pub alone : is_open ≡ false → left ≡ None
  pub undecided : is_open ≡ true → left ≡ None → IsUndecided head
  pub room : is_open ≡ true → left ≡ None → length head < HEAD_LIMIT
  pub short : length head ≤ HEAD_LIMIT
