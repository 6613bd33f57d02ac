-- The levels of a file as they were read, and a window of one of them.
use Rattle.tiff_dir.specs.declared.limits.TheConstants.{MAX_WINDOW_SAMPLES}
use Rattle.std.specs.Prelude.{◌≡◌, ℕ, ◌+◌, ◌-◌, ◌*◌, ◌≤◌, Bool, false, ◌&&◌, nat_lt, nat_le, List, slice_get, Some, None, unwrap_or, IsTrue, IsSomeAnd}
use Rattle.std.specs.Option.{option_map_or}
use Rattle.std.specs.List.{filter, last_or, range_with_len}
use Rattle.tiff_dir.specs.declared.level.Level.{Level}
use Rattle.tiff_dir.specs.declared.query.Query.{Query}
use Rattle.tiff_dir.specs.declared.fault.FileFault.{FileFault}
use Rattle.tiff_dir.specs.Faulty.{IsFaultOfWindow}
use Rattle.tiff_dir.specs.Described.{AreLevels}
use Rattle.tiff_dir.specs.Walk.{IsDescribed}
use Rattle.tiff_dir.specs.Query as asked
use Rattle.tile_plan.specs.declared.asked.Rectangle.{Rectangle}

-- these are the levels of the file, each with the values that the file has of it
pub record HasLevels (f : List ℕ) (ls : List Level) : Type 0 where
  pub levels : AreLevels f ls
  pub each : (n : ℕ) (l : Level) → slice_get ls n ≡ Some l → IsDescribed f n l

abbrev pub rectangle_of : Rectangle → asked.Rectangle
rectangle_of r = record { level = r.level; left = r.x; top = r.y; width = r.w; height = r.h }

-- a window isn't empty, and lies in the level
abbrev pub is_inside : Level → ℕ → ℕ → ℕ → ℕ → Bool
is_inside l x y w h = (nat_lt 0 w && nat_lt 0 h) && (nat_le (x + w) l.width && nat_le (y + h) l.length)

-- the level has at least `columns` columns for `w` columns of a level of width `first`
abbrev pub has_columns : ℕ → ℕ → ℕ → Level → Bool
has_columns columns w first l = nat_le (columns * first) (l.width * w)

-- the number of the last such level among those before `n`, or 0 if there is none
abbrev pub last_with_columns : List Level → ℕ → ℕ → ℕ → ℕ → ℕ
last_with_columns ls columns w first n =
    unwrap_or
    (last_or None (filter (λ k. option_map_or (has_columns columns w first) (slice_get ls k) false) (range_with_len 0 n))) 0

-- a window of the first level in another one, rounded outwards
abbrev pub outwards : ℕ → (first here : Level) → ℕ → ℕ → ℕ → ℕ → asked.Rectangle
outwards n first here x y w h =
    let left = asked.scaled_down here.width first.width x in let top = asked.scaled_down here.length first.length y in
    record {
      level = n;
      left = left;
      top = top;
      width = asked.scaled_up here.width first.width (x + w) - left;
      height = asked.scaled_up here.length first.length (y + h) - top;
    }

-- the rectangle lies in the level, and has no more samples than a window may have
pub record IsSmall (l : Level) (r : Rectangle) : Type 0 where
  pub inside : IsTrue (is_inside l r.x r.y r.w r.h)
  pub few : r.w * r.h * l.samples ≤ MAX_WINDOW_SAMPLES

-- the rectangle is what the query asks for, and it isn't refused
pub record IsAsked (ls : List Level) (q : Query) (r : Rectangle) : Type 0 where
  pub rectangle : (f : List ℕ) → HasLevels f ls → asked.rectangle f q ≡ Some (rectangle_of r)
  pub good : (f : List ℕ) → HasLevels f ls → asked.is_refused f q ≡ false
  pub small : IsSomeAnd (slice_get ls r.level) (λ l. IsSmall l r)

-- each file with these levels has the fault for the query
abbrev pub IsRefusedBy : List Level → Query → FileFault → Type 0
IsRefusedBy ls q fault = (f : List ℕ) → HasLevels f ls → IsFaultOfWindow f q fault
