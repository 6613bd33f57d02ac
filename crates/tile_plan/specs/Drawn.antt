-- What a query asks for by the levels that it is given, whether a file has them or not.
use Rattle.tiff_dir.specs.declared.limits.TheConstants.{MAX_WINDOW_SAMPLES}
use Rattle.std.specs.Prelude.{◌≡◌, ℕ, ◌*◌, Bool, true, false, ◌==◌, nat_lt, if◌then◌else◌, List, length, slice_get, Option, Some, None, IsSomeAnd}
use Rattle.std.specs.Option.{option_map_or}
use Rattle.tiff_dir.specs.declared.level.Level.{Level}
use Rattle.tiff_dir.specs.declared.query.Query.{Query}
use Rattle.tiff_dir.specs.declared.query.Query.TheVariants.{Window, Info}
use Rattle.tiff_dir.specs.declared.query.Pick.{Pick}
use Rattle.tiff_dir.specs.declared.query.Pick.TheVariants as pick
use Rattle.tiff_dir.specs.declared.fault.FileFault.{FileFault}
use Rattle.tiff_dir.specs.declared.fault.FileFault.TheVariants.{Outside, TooLarge}
use Rattle.tiff_dir.specs.File.{◌>>=◌}
use Rattle.tiff_dir.specs.Query as asked
use Rattle.tile_plan.specs.declared.asked.Rectangle.{Rectangle}
use Rattle.tile_plan.specs.Levels.{rectangle_of, is_inside, last_with_columns, outwards}

-- the level that a window's numbers are given in
abbrev pub given_in : List Level → Pick → Option Level
given_in ls (pick.Level n) = slice_get ls n
given_in ls (pick.Columns columns) = if columns == 0 then None else slice_get ls 0

-- the window isn't empty, and lies in that level
abbrev pub lies_inside : List Level → Query → Bool
lies_inside ls (Window x y w h p) = option_map_or (λ l. is_inside l x y w h) (given_in ls p) false
lies_inside ls Info = false

-- the number of the last level in which the window has at least `columns` columns, or 0
abbrev pub picked : List Level → (columns w : ℕ) → Level → ℕ
picked ls columns w first = last_with_columns ls columns w first.width (length ls)

-- the rectangle that the query asks for
abbrev pub drawn : List Level → Query → Option asked.Rectangle
drawn ls (Window x y w h (pick.Level n)) = Some (record { level = n; left = x; top = y; width = w; height = h })
drawn ls (Window x y w h (pick.Columns columns)) = do
  first ← slice_get ls 0
  here ← slice_get ls (picked ls columns w first)
  Some (outwards (picked ls columns w first) first here x y w h)
drawn ls Info = None

-- a rectangle has more samples than a window may have
abbrev pub is_large : List Level → asked.Rectangle → Bool
is_large ls r = option_map_or (λ l. nat_lt MAX_WINDOW_SAMPLES (r.width * r.height * l.samples)) (slice_get ls r.level) false

-- the rectangle is what the query asks for
pub record IsDrawn (ls : List Level) (q : Query) (r : Rectangle) : Type 0 where
  pub inside : lies_inside ls q ≡ true
  pub rectangle : drawn ls q ≡ Some (rectangle_of r)
  pub few : is_large ls (rectangle_of r) ≡ false

-- the query is refused by this fault
abbrev pub IsRefusal : List Level → Query → FileFault → Type 0
IsRefusal ls q Outside = lies_inside ls q ≡ false
IsRefusal ls q TooLarge = (lies_inside ls q ≡ true) × IsSomeAnd (drawn ls q) (λ r. is_large ls r ≡ true)
IsRefusal ls q _ = ⊥
