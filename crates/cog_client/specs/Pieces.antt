-- What a source of answers in pieces promises.
use Rattle.std.specs.Prelude.{◌≡◌, ℕ, List, [], ◌++◌, take}
use Rattle.http_range.specs.Book.{Book}

-- In what follows `before` is what of an answer is to come when a piece is asked for. `after` is what is to come then.

-- The first `n` bytes of `out` are the next bytes of the answer. `n` is 0 only at its end.
pub record Brings (before out : List ℕ) (n : ℕ) (after : List ℕ) : Type 0 where
  pub parts : before ≡ take n out ++ after
  pub ends : n ≡ 0 → before ≡ []

-- this holds if the source speaks for any book; a source that speaks for none says nothing of its bytes
abbrev pub BringsOf : (Book → Type 0) → List ℕ → List ℕ → ℕ → List ℕ → Type 0
BringsOf speaks before out n after = (book : Book) → speaks book → Brings before out n after
