-- A window of a level, put together from its tiles as their groups come.
use Rattle.std.specs.Prelude.{◌≡◌, ℕ, ◌+◌, ◌<◌, ◌≤◌, List, length, take, Some, slice_get, IsSomeAnd}
use Rattle.std.specs.List.{flat_map, All, IsAmong, slice_range}
use Rattle.tiff_dir.specs.declared.level.Level.{Level}
use Rattle.tiff_dir.specs.declared.level.Compression.TheVariants.{Plain}
use Rattle.tiff_dir.specs.declared.fault.FileFault.{FileFault}
use Rattle.tiff_dir.specs.declared.fault.FileFault.TheVariants.{Packet}
use Rattle.tiff_dir.specs.declared.query.Query.{Query}
use Rattle.tiff_dir.specs.File.{order_of}
use Rattle.tiff_dir.specs.Level.{level_layout, plain_size, tile_total}
use Rattle.tiff_dir.specs.Query.{segment}
use Rattle.extents.specs.Extent.{Extent}
use Rattle.tiff_dir.specs.Described.{grid_of, layout_of}
use Rattle.extents.specs.Extent.{bytes_in, extent_of_span}
use Rattle.tiff_dir.specs.Walk.{IsArrayOf}
use Rattle.tiff_dir.specs.Window.{tile_at, IsUnpacked}
use Rattle.tile_plan.specs.declared.plan.Group.{Group}
use Rattle.tile_plan.specs.Plan.{Adjoin, range_in, AreGroups, AreNeeded, IsPlanned}
use Rattle.tile_plan.specs.Levels.{IsSmall}
use Rattle.tile_plan.specs.Canvas.{Picture, picture_size, pixel_bytes, byte_at, byte_in_tile}
use Rattle.tile_plan.specs.declared.arrays.Arrays.{Arrays}

-- the groups of the window, how many of them were given, and the picture so far
pub record WindowState : Type 0 where
  pub groups : List Group
  pub given : ℕ
  pub picture : Picture

-- where a tile stands, by the arrays
abbrev pub tile_extent : Arrays → ℕ → Extent
tile_extent a = range_in a.order a.level a.offsets.items a.counts.items

-- the tiles of some groups
abbrev pub tiles_of_groups : List Group → List ℕ
tiles_of_groups gs = flat_map (λ g. g.tiles.items) gs

-- tile `t` of level `n` of the file is on the picture: its pixels have the bytes that its segment stands for
pub record IsPainted (f : List ℕ) (n : ℕ) (p : Picture) (t : ℕ) : Type 0 where
  pub bytes : List ℕ
  pub bytes_are : segment f n t ≡ Some bytes
  pub plain : List ℕ
  pub unpacked : IsUnpacked (layout_of p.level) bytes plain
  pub size : length plain ≡ plain_size (layout_of p.level)
  pub pixels : (i j b : ℕ) → i < p.rectangle.w → j < p.rectangle.h → b < pixel_bytes p.level
      → tile_at (grid_of p.level) (p.rectangle.x + i) (p.rectangle.y + j) ≡ t
      → byte_at p i j b ≡ byte_in_tile p.level plain (p.rectangle.x + i) (p.rectangle.y + j) b

-- the arrays are those of level `n` of the file
pub record AreArraysOf (f : List ℕ) (n : ℕ) (a : Arrays) : Type 0 where
  pub order_is : order_of f ≡ Some a.order
  pub layout_is : level_layout f n ≡ Some (layout_of a.level)
  pub offsets_are : IsArrayOf f a.level.offsets a.offsets.items
  pub counts_are : IsArrayOf f a.level.counts a.counts.items

-- the groups are those that the arrays give for the picture's rectangle, in a file of `file_length` bytes
pub record IsPlan (file_length : ℕ) (a : Arrays) (w : WindowState) : Type 0 where
  pub level : w.picture.level ≡ a.level
  pub are : AreGroups (tile_extent a) a.level w.picture.rectangle file_length w.groups

abbrev pub HasPlan : Arrays → WindowState → Type 0
HasPlan a w = (file_length : ℕ) × IsPlan file_length a w

-- The work is the query's in this file. Its groups are those that the query needs, and the tiles of the groups that were given are on
-- the picture.
pub record IsUnderway (f : List ℕ) (q : Query) (a : Arrays) (w : WindowState) : Type 0 where
  pub planned : IsPlanned f q a.order a.level w.picture.rectangle (length f) a.offsets.items a.counts.items
  pub are : AreGroups (tile_extent a) a.level w.picture.rectangle (length f) w.groups
  pub level : w.picture.level ≡ a.level
  pub small : IsSmall a.level w.picture.rectangle
  pub size : length w.picture.bytes ≡ picture_size a.level w.picture.rectangle
  pub needed : AreNeeded f q w.groups
  pub painted : All (IsPainted f w.picture.rectangle.level w.picture) (tiles_of_groups (take w.given w.groups))

-- the bytes of the file that are wanted next
abbrev pub IsWantedGroup : List ℕ → WindowState → List ℕ → Type 0
IsWantedGroup f w bytes = IsSomeAnd (slice_get w.groups w.given) (λ g. bytes ≡ bytes_in f (extent_of_span g.span))

-- `len` is the number of bytes that are wanted next
abbrev pub IsGroupLen : WindowState → ℕ → Type 0
IsGroupLen w len = IsSomeAnd (slice_get w.groups w.given) (λ g. len ≡ (extent_of_span g.span).len)

-- tiles that follow each other without a gap and have `len` bytes; each that isn't packed is as long as its samples
pub record IsWhole (a : Arrays) (ts : List ℕ) (len : ℕ) : Type 0 where
  pub within : All (λ t. t < tile_total (grid_of a.level)) ts
  pub plain : All (λ t. a.level.compression ≡ Plain → (tile_extent a t).len ≡ plain_size (layout_of a.level)) ts
  pub first : ℕ
  pub adjoin : Adjoin (tile_extent a) first ts (first + len)

-- these are the bytes of the file from one place on
pub record AreBytesOf (f : List ℕ) (first : ℕ) (bytes : List ℕ) : Type 0 where
  pub are : bytes ≡ slice_range f first (first + length bytes)
  pub inside : first + length bytes ≤ length f

-- the bytes of one of these tiles can't be unpacked, and the fault says so
pub record HasDamage (f : List ℕ) (n : ℕ) (l : Level) (ts : List ℕ) (fault : FileFault) : Type 0 where
  pub tile : ℕ
  pub among : IsAmong ts tile
  pub bytes : List ℕ
  pub bytes_are : segment f n tile ≡ Some bytes
  pub packet : fault ≡ Packet
  pub wrong : (plain : List ℕ) → IsUnpacked (layout_of l) bytes plain → ⊥
