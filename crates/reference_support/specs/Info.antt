-- What the query Info asks for: the sides of the levels, and all values of a field.
use Rattle.tiff_dir.specs.declared.tags.TheConstants.{IMAGE_LENGTH, IMAGE_WIDTH}
use Rattle.std.specs.Prelude.{◌≡◌, ℕ, ◌<◌, List, length, get_or, slice_get, Option, Some}
use Rattle.tiff_dir.specs.File.{◌>>=◌, field, value}
use Rattle.tiff_dir.specs.Level.{level_directories, level_value}

-- The number of values of the field with this tag.
abbrev pub value_count : List ℕ → ℕ → ℕ → Option ℕ
value_count f k tag = field f k tag >>= λ e. e.count

-- These are the values of the field with this tag in directory `k`, as many as it counts.
pub record AreValues (f : List ℕ) (k tag : ℕ) (vs : List ℕ) : Type 0 where
  pub count : value_count f k tag ≡ Some (length vs)
  pub each : (i : ℕ) → i < length vs → value f k tag i ≡ Some (get_or vs i 0)

abbrev pub HasNoValues : (f : List ℕ) (k tag : ℕ) → Type 0
HasNoValues f k tag = (vs : List ℕ) → AreValues f k tag vs → ⊥

-- The width and the length of level `n`.
abbrev pub sides_of : List ℕ → ℕ → Option (ℕ × ℕ)
sides_of f n = do
  width ← level_value f n IMAGE_WIDTH 0
  length ← level_value f n IMAGE_LENGTH 0
  Some (width, length)

-- These are the sides of all levels.
pub record AreSides (f : List ℕ) (sides : List (ℕ × ℕ)) : Type 0 where
  pub count : length sides ≡ length (level_directories f)
  pub each : (n : ℕ) (s : ℕ × ℕ) → slice_get sides n ≡ Some s → sides_of f n ≡ Some s

abbrev pub HasNoSides : List ℕ → Type 0
HasNoSides f = (sides : List (ℕ × ℕ)) → AreSides f sides → ⊥
