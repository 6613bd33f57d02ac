-- A tile that is unpacked and copied onto a picture.
use Rattle.std.specs.Prelude.{◌≡◌, ℕ, List, length}
use Rattle.tiff_dir.specs.declared.fault.FileFault.{FileFault}
use Rattle.tiff_dir.specs.declared.fault.FileFault.TheVariants.{Packet}
use Rattle.tiff_dir.specs.Level.{plain_size}
use Rattle.tiff_dir.specs.Described.{layout_of}
use Rattle.tiff_dir.specs.Window.{IsUnpacked}
use Rattle.tile_plan.specs.Canvas.{Picture, IsBlit}

-- the tile that these bytes stand for is copied
pub record IsPaint (tile : ℕ) (bytes : List ℕ) (old new : Picture) : Type 0 where
  pub plain : List ℕ
  pub unpacked : IsUnpacked (layout_of old.level) bytes plain
  pub size : length plain ≡ plain_size (layout_of old.level)
  pub blit : IsBlit tile plain old new

-- the bytes can't be unpacked to a tile
pub record IsBad (bytes : List ℕ) (p : Picture) (fault : FileFault) : Type 0 where
  pub packet : fault ≡ Packet
  pub wrong : (plain : List ℕ) → IsUnpacked (layout_of p.level) bytes plain → ⊥
