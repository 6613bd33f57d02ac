-- The groups of a window's tiles, by the bytes of the two arrays of its level.
use Rattle.tiff_dir.specs.declared.tags.TheConstants.{TILE_BYTE_COUNTS, TILE_OFFSETS}
use Rattle.extents.specs.declared.limits.TheConstants.{MAX_RANGE_BYTES}
use Rattle.std.specs.Prelude.{◌≡◌, ℕ, ◌+◌, ◌*◌, ◌<◌, ◌≤◌, ◌⊎◌, true, false, ⊤, nat_lt, ◌==◌, List, [], ◌∷◌, length, map, None, Some}
use Rattle.std.specs.List.{flat_map, list_any, All, IsAmong}
use Rattle.std.specs.Option.{option_to_list}
use Rattle.tiff_dir.specs.declared.order.Order.{Order}
use Rattle.tiff_dir.specs.declared.level.Level.{Level}
use Rattle.tiff_dir.specs.declared.level.Compression.TheVariants.{Plain}
use Rattle.tiff_dir.specs.declared.query.Query.{Query}
use Rattle.tiff_dir.specs.declared.fault.FileFault.{FileFault}
use Rattle.tiff_dir.specs.declared.fault.FileFault.TheVariants.{PastEnd, TileSize}
use Rattle.tiff_dir.specs.Number.{number_in}
use Rattle.tiff_dir.specs.File.{order_of, size_of}
use Rattle.tiff_dir.specs.Level.{level_layout, level_value, plain_size, tile_total}
use Rattle.extents.specs.Extent.{Extent, ends_past}
use Rattle.tiff_dir.specs.Described.{grid_of, layout_of}
use Rattle.extents.specs.Extent.{extent_of_span}
use Rattle.tiff_dir.specs.Walk.{IsArrayOf, IsDescribed}
use Rattle.tiff_dir.specs.Faulty.{HasBadTile, is_byte_count, IsFaultOfWindow}
use Rattle.tiff_dir.specs.Query.{joined_after, rectangle, is_refused, tile_ranges, tiles_in}
use Rattle.tile_plan.specs.declared.asked.Rectangle.{Rectangle}
use Rattle.tile_plan.specs.declared.plan.Group.{Group}
use Rattle.tiff_dir.specs.declared.fault.WalkError.{WalkError as PlanError}
use Rattle.tiff_dir.specs.declared.fault.WalkError.TheVariants.{File, Memory}
use Rattle.tile_plan.specs.Groups as groups
use Rattle.tile_plan.specs.Groups.{grouped}
use Rattle.tile_plan.specs.Levels.{rectangle_of}

-- where a tile stands in the file, by the level's arrays
abbrev pub range_in : Order → Level → List ℕ → List ℕ → ℕ → Extent
range_in order l offsets counts t =
    let size = size_of l.counts.kind in record {
      first = number_in order (t * 4) 4 offsets;
      len = number_in order (t * size) size counts;
    }

-- the tiles of the level that have a pixel of the rectangle, in the order of their numbers
abbrev pub tiles_of : Level → Rectangle → List ℕ
tiles_of l r = tiles_in (grid_of l) (rectangle_of r)

abbrev pub group_of : Group → groups.Group
group_of g = record { tiles = g.tiles.items; range = extent_of_span g.span }

-- a tile of the level can't have `n` bytes
abbrev pub IsWrongSize : Level → ℕ → Type 0
IsWrongSize l n = (is_byte_count n ≡ false) ⊎ ((l.compression ≡ Plain) × ((n == plain_size (layout_of l)) ≡ false))

-- the range is what the arrays of level `n` of a file say of a tile
pub record IsRangeOf (f : List ℕ) (n t : ℕ) (r : Extent) : Type 0 where
  pub first : level_value f n TILE_OFFSETS t ≡ Some r.first
  pub len : level_value f n TILE_BYTE_COUNTS t ≡ Some r.len

-- what may be wrong with the range of a tile, in a file of `file_length` bytes
abbrev pub IsTileFault : Level → ℕ → Extent → FileFault → Type 0
IsTileFault l file_length r TileSize = IsWrongSize l r.len
IsTileFault l file_length r PastEnd = nat_lt file_length (r.first + r.len) ≡ true
IsTileFault l file_length r _ = ⊥

-- the tiles' bytes follow each other without a gap, from one place to another
abbrev pub Adjoin : (ℕ → Extent) → ℕ → List ℕ → ℕ → Type 0
Adjoin range at [] end = at ≡ end
Adjoin range at (t ∷ ts) end = ((range t).first ≡ at) × Adjoin range (at + (range t).len) ts end

-- a group has the bytes of its tiles: at most 1,048,576, within the file
pub record IsGroup (range : ℕ → Extent) (l : Level) (file_length : ℕ) (g : groups.Group) : Type 0 where
  pub tiles : All (λ t. t < tile_total (grid_of l)) g.tiles
  pub adjoin : Adjoin range g.range.first g.tiles (g.range.first + g.range.len)
  pub few : g.range.len ≤ MAX_RANGE_BYTES
  pub inside : g.range.first + g.range.len ≤ file_length

-- These are the groups of the rectangle's tiles, of which none has a fault.
pub record AreGroups (range : ℕ → Extent) (l : Level) (r : Rectangle) (file_length : ℕ) (gs : List Group) : Type 0 where
  pub groups : map group_of gs ≡ grouped range (tiles_of l r)
  pub tiles : flat_map (λ g. g.tiles.items) gs ≡ tiles_of l r
  pub each : All (λ g. IsGroup range l file_length (group_of g)) gs
  pub sound : (t : ℕ) → IsAmong (tiles_of l r) t → (fault : FileFault) → IsTileFault l file_length (range t) fault → ⊥

-- a tile of the rectangle has the fault
pub record HasTileFault (range : ℕ → Extent) (l : Level) (r : Rectangle) (file_length : ℕ) (fault : FileFault) : Type 0 where
  pub tile : ℕ
  pub among : IsAmong (tiles_of l r) tile
  pub wrong : IsTileFault l file_length (range tile) fault

abbrev pub IsPlanError : (ℕ → Extent) → Level → Rectangle → ℕ → PlanError → Type 0
IsPlanError range l r file_length (File fault) = HasTileFault range l r file_length fault
IsPlanError range l r file_length Memory = ⊤

-- ---- in a file

-- The query asks for this rectangle of this level of the file, and these are the bytes of the level's arrays.
pub record IsPlanned (f : List ℕ) (q : Query) (order : Order) (l : Level) (r : Rectangle) (file_length : ℕ)
    (offsets counts : List ℕ) : Type 0 where
  pub size : length f ≡ file_length
  pub order_is : order_of f ≡ Some order
  pub layout_is : level_layout f r.level ≡ Some (layout_of l)
  pub described : IsDescribed f r.level l
  pub offsets_are : IsArrayOf f l.offsets offsets
  pub counts_are : IsArrayOf f l.counts counts
  pub rectangle_is : rectangle f q ≡ Some (rectangle_of r)
  pub good : is_refused f q ≡ false

-- These are the groups whose ranges the query needs. Each tile ends within the file, and no tile's byte count is wrong.
pub record AreNeeded (f : List ℕ) (q : Query) (gs : List Group) : Type 0 where
  pub ranges : map (λ g. extent_of_span g.span) gs ≡ joined_after None (tile_ranges f q)
  pub inside : list_any (ends_past f) (flat_map option_to_list (tile_ranges f q)) ≡ false
  pub right : HasBadTile f q → ⊥

-- the file has this fault for the query
abbrev pub IsErrorOf : List ℕ → Query → PlanError → Type 0
IsErrorOf f q (File fault) = IsFaultOfWindow f q fault
IsErrorOf f q Memory = ⊤
