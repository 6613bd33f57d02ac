-- How a text is written into a caller's room.
use Rattle.std.specs.Prelude.{◌≡◌, ℕ, ℤ, pos, nat_le, if◌then◌else◌, List, ◌++◌, length, drop}

-- The text is written at the front of the room if it fits. If not, the room stays as it was.
abbrev pub laid : List ℕ → List ℕ → List ℕ
laid text room = if nat_le (length text) (length room) then text ++ drop (length text) room else room

-- The number that is returned is the text's length, which is also the room that it needs.
pub record Lays (text old new : List ℕ) (told : ℤ) : Type 0 where
  pub room : new ≡ laid text old
  pub long : told ≡ pos (length text)
